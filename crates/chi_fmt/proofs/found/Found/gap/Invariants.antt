use Rattle.std.proofs.Common.{◌≡◌, ◌≤◌, ◌++◌, length}
use Rattle.std.specs.List.{position_or_len}
use Rattle.chi_lex.specs.Places.{is_line_feed}
use Rattle.chi_fmt.specs.Comments.{gap_comments}
use Rattle.chi_fmt.proofs.found.Found.gap.Given as goal

abbrev pub invariant-lines : goal.invariant-lines
invariant-lines l =
    (l.self.comments.items ++ gap_comments l.before l.rest ≡ l.fn.self.comments.items ++ gap_comments l.fn.before l.fn.gap)
    × (l.stop ≡ position_or_len is_line_feed l.rest)
    × (l.stop ≤ length l.rest)
    × (length l.rest ≤ length l.fn.gap)

abbrev pub decreases-lines : goal.decreases-lines
decreases-lines l = length l.rest
