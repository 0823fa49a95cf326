use Rattle.chi_grammar.specs.declared.room.Nesting.TheVariants.{Expression}
use Rattle.chi_grammar.specs.Rules.{part}
use Rattle.chi_grammar.specs.RuleRuns as runs
use Rattle.chi_grammar.proofs.Exits.{run_word, run_no_word, run_refused}
use Rattle.chi_tree.specs.Parts as s
use Rattle.chi_tree.specs.Rules.{grammar, nested}
use Rattle.chi_tree.specs.Tables.{table}
use Rattle.chi_parse_expr.proofs.Shapes.{passed, not_passed}
use Rattle.chi_parse_expr.proofs.blanks.no_elements.Goals as goal

pub returns-in_err-enter : goal.returns-in_err-enter
returns-in_err-enter c =
    not_passed _ _ (nested (part s.BlankElements)) _ _ _ c.from_residual.ensures.1
    (run_refused grammar table _ _ Expression (part s.BlankElements) _ _ c.in_err-enter.ensures.0 c.in_err-enter.ensures.1)

pub returns-in_err-middle : goal.returns-in_err-middle
returns-in_err-middle c =
    not_passed _ _ (nested (part s.BlankElements)) _ _ _ c.from_residual-in_err-middle.ensures.1
    (runs.deeper c.in_ok-enter.ensures (runs.part_fails (runs.first_fails (run_no_word grammar table _ c.in_err-middle.ensures))))

pub returns-in_err-end : goal.returns-in_err-end
returns-in_err-end c =
    let middle = c.in_ok-middle.ensures in
    not_passed _ _ (nested (part s.BlankElements)) _ _ _ c.from_residual-in_err-end.ensures.1
    (runs.deeper c.in_ok-enter.ensures (runs.part_fails (runs.next_fails (run_word grammar table _ middle) (run_no_word grammar table _ c.in_err-end.ensures))))

pub returns : goal.returns
returns c =
    let middle = c.in_ok-middle.ensures in
    let end = c.in_ok-end.ensures in
    passed c.requires.inside
    (runs.deeper c.in_ok-enter.ensures (runs.part (runs.both (run_word grammar table _ middle) (run_word grammar table _ end))))
