use Rattle.std.proofs.Common.{take, ◌≡◌}
use Rattle.chi_gen_sizes.specs.Measuring.{sizes_in}
use Rattle.chi_gen_sizes.proofs.measured.total_of.Given as goal

abbrev pub invariant-loop-part : goal.invariant-loop-part
invariant-loop-part l = l.count ≡ sizes_in (take l.part-index l.parts)
