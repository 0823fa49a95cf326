use Rattle.std.proofs.Common.{length}
use Rattle.chi_machine_runs.proofs.taken.empty.Given as goal

abbrev pub decreases-loop-last : goal.decreases-loop-last
decreases-loop-last l = length l.kept.items
