use Rattle.std.proofs.Common.{length}
use Rattle.chi_format.proofs.Pieces.{Reads}
use Rattle.chi_format.proofs.reading.read_format.Given as goal

abbrev pub invariant-loop-left : goal.invariant-loop-left
invariant-loop-left l = Reads l.text l.left l.so_far

abbrev pub decreases-loop-left : goal.decreases-loop-left
decreases-loop-left l = length l.left
