use Rattle.std.proofs.Common.{length}
use Rattle.chi_core_frame.proofs.reusing.empty.Given as goal

abbrev pub decreases-loop-old : goal.decreases-loop-old
decreases-loop-old l = length l.slots.items
