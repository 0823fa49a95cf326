use Rattle.std.proofs.Common.{take, ◌≡◌}
use Rattle.chi_code.specs.Aims.{indexes_of}
use Rattle.chi_code.specs.Sizes.{sizes}
use Rattle.chi_gen_sizes.proofs.measure_parts.indexes_of.Given as goal

abbrev pub invariant-loop-target : goal.invariant-loop-target
invariant-loop-target l = l.count ≡ sizes (indexes_of (take l.target-index l.targets))
