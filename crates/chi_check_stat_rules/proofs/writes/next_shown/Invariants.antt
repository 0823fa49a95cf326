use Rattle.std.proofs.Common.{◌≡◌, length}
use Rattle.chi_check_stat_rules.specs.Writes.{next_shown}
use Rattle.chi_check_stat_rules.proofs.writes.next_shown.Given as goal

abbrev pub invariant-loop-piece : goal.invariant-loop-piece
invariant-loop-piece l = next_shown l.pieces ≡ next_shown l.left

abbrev pub decreases-loop-piece : goal.decreases-loop-piece
decreases-loop-piece l = length l.left
