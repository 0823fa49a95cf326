use Rattle.std.proofs.Common.{◌++◌, drop}
use Rattle.chi_lex.specs.declared.lexer.TheConstants.{MOST_BYTES}
use Rattle.chi_fmt.specs.Rows.{text_after, text_of}
use Rattle.chi_fmt.proofs.Lengths.{Holds}
use Rattle.chi_fmt.proofs.page.Page.spots.Given as goal

abbrev pub invariant-loop-spot : goal.invariant-loop-spot
invariant-loop-spot l =
    Holds l.self.bytes.items (text_after l.last (drop l.spot-index l.more)) (l.fn.self.bytes.items ++ text_of l.fn.spots) MOST_BYTES
