use Rattle.std.proofs.Common.{take}
use Rattle.chi_code.specs.Aims.{indexes_of}
use Rattle.chi_gen_parts.specs.Added.{AddsExprs}
use Rattle.chi_gen_parts.proofs.targets.indexes.Given as goal

abbrev pub invariant-loop-target : goal.invariant-loop-target
invariant-loop-target l = AddsExprs (indexes_of (take l.target-index l.targets)) l.fn.code.items l.code.items
