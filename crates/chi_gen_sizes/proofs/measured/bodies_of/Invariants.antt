use Rattle.std.proofs.Common.{take, ◌≡◌}
use Rattle.chi_gen_sizes.specs.Measuring.{all_bodies}
use Rattle.chi_gen_sizes.proofs.measured.bodies_of.Given as goal

abbrev pub invariant-loop-part : goal.invariant-loop-part
invariant-loop-part l = l.count ≡ all_bodies (take l.part-index l.parts)
