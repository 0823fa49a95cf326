use Rattle.std.proofs.Common.{length}
use Rattle.chi_exec_steps.proofs.calling.empty.Given as goal

abbrev pub decreases-loop-turning : goal.decreases-loop-turning
decreases-loop-turning l = length l.under.items
