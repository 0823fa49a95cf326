use Rattle.std.proofs.Common.{take, ◌≡◌}
use Rattle.chi_code.specs.Sizes.{sizes}
use Rattle.chi_gen_sizes.proofs.measure.+size_of.Given as goal

abbrev pub invariant-sizes_of-loop-x : goal.invariant-sizes_of-loop-x
invariant-sizes_of-loop-x l = l.count ≡ sizes (take l.x-index l.xs)
