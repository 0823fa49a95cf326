use Rattle.std.proofs.Common.{take, ◌≡◌}
use Rattle.chi_code.specs.Sizes.{elements_size}
use Rattle.chi_gen_sizes.proofs.measure_parts.+element_of.Given as goal

abbrev pub invariant-elements_of-loop-x : goal.invariant-elements_of-loop-x
invariant-elements_of-loop-x l = l.count ≡ elements_size (take l.x-index l.xs)
