use Rattle.std.proofs.Common.{◌≡◌, ◌++◌, map, drop}
use Rattle.std.specs.List.{enumerate_from}
use Rattle.chi_ops.specs.Sequences.{numbered}
use Rattle.chi_ops.proofs.sequences.numbered_all.Given as goal

abbrev pub invariant-loop-i : goal.invariant-loop-i
invariant-loop-i l = l.pairs.items ++ map numbered (enumerate_from l.i (drop l.i l.items)) ≡ map numbered (enumerate_from 0 l.items)
