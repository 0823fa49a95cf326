use Rattle.std.proofs.Common.{◌++◌, drop}
use Rattle.chi_lex.specs.declared.lexer.TheConstants.{MOST_BYTES}
use Rattle.chi_fmt.specs.Pages.{lines_text}
use Rattle.chi_fmt.proofs.Lengths.{Holds}
use Rattle.chi_fmt.proofs.page.Page.lines.Given as goal

abbrev pub invariant-loop-line : goal.invariant-loop-line
invariant-loop-line l =
    Holds l.self.bytes.items (lines_text l.passed (drop l.line-index l.lines) l.rest) (l.fn.self.bytes.items ++ lines_text 0 l.fn.lines l.fn.comments) MOST_BYTES
