use Rattle.std.proofs.Common.{◌++◌, drop}
use Rattle.std.specs.List.{flat_map}
use Rattle.chi_lex.specs.declared.lexer.TheConstants.{MOST_BYTES}
use Rattle.chi_fmt.specs.Rows.{comment_text}
use Rattle.chi_fmt.proofs.Lengths.{Holds}
use Rattle.chi_fmt.proofs.page.Page.comments.Given as goal

abbrev pub invariant-loop-comment : goal.invariant-loop-comment
invariant-loop-comment l =
    Holds l.self.bytes.items (flat_map (comment_text l.margin) (drop l.comment-index l.comments))
    (l.fn.self.bytes.items ++ flat_map (comment_text l.fn.margin) l.fn.comments) MOST_BYTES
