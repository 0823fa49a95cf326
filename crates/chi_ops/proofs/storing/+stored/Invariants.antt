use Rattle.std.proofs.Common.{◌+◌, ◌*◌, length}
use Rattle.chi_ops.proofs.storing.+stored.Given as goal

abbrev pub decreases-stored : goal.decreases-stored
decreases-stored l = 2 * length l.path.now

abbrev pub decreases-stored_at : goal.decreases-stored_at
decreases-stored_at l = 2 * length l.path.now + 1

abbrev pub decreases-stored_key : goal.decreases-stored_key
decreases-stored_key l = 2 * length l.path.now + 1

abbrev pub decreases-stored_in : goal.decreases-stored_in
decreases-stored_in l = 2 * length l.path.now + 1
