use Rattle.chi_grammar.specs.Rules.{part}
use Rattle.chi_grammar.specs.RuleRuns as runs
use Rattle.chi_grammar.proofs.Exits.{read, run_word, run_no_word, failed}
use Rattle.chi_tree.specs.declared.expr.Postfix.TheVariants as postfix
use Rattle.chi_tree.specs.Parts as s
use Rattle.chi_tree.specs.Rules.{grammar}
use Rattle.chi_tree.specs.Tables.{table}
use Rattle.chi_tree.specs.View.{postfix_of}
use Rattle.chi_parse_expr.proofs.postfixes.field.Goals as goal

pub returns-in_err-start : goal.returns-in_err-start
returns-in_err-start c room =
    failed grammar table _ postfix_of _ (part s.Field) _ _ _ c.from_residual.ensures.1
    (runs.part_fails (runs.first_fails (run_no_word grammar table _ c.in_err-start.ensures)))

pub returns-in_err-name : goal.returns-in_err-name
returns-in_err-name c room =
    let start = c.in_ok-start.ensures in
    failed grammar table _ postfix_of _ (part s.Field) _ _ _ c.from_residual-in_err-name.ensures.1
    (runs.part_fails (runs.next_fails (run_word grammar table _ start) (c.in_err-name.ensures room)))

pub returns : goal.returns
returns c room =
    let start = c.in_ok-start.ensures in
    let name = c.in_ok-name.ensures room in
    read grammar table _ postfix_of c.requires.inside
    (runs.part (runs.both (run_word grammar table _ start) name.runs))
    (λ i. postfix.Field (name.shows i))
