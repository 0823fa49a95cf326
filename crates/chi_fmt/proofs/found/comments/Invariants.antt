use Rattle.std.proofs.Common.{◌≡◌, ◌≤◌, ◌++◌, drop, length}
use Rattle.chi_lex.specs.Spans.{SpanFrom}
use Rattle.chi_fmt.specs.Comments.{comments_from, comments_of}
use Rattle.chi_fmt.proofs.found.comments.Given as goal

abbrev pub invariant-loop-t : goal.invariant-loop-t
invariant-loop-t l =
    (l.found.comments.items ++ comments_from l.source l.offset l.index (drop l.t-index l.tokens) ≡ comments_of l.source l.tokens)
    × SpanFrom l.source l.offset (drop l.t-index l.tokens)
    × (l.index ≤ l.offset)
    × (l.offset ≤ length l.source)
