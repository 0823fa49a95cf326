use Rattle.std.proofs.Common.{ap}
use Rattle.chi_grammar.specs.Rules.{part}
use Rattle.chi_grammar.specs.RuleRuns as runs
use Rattle.chi_grammar.proofs.Exits.{read, failed, no_memory}
use Rattle.chi_tree.specs.declared.expr.Expr.TheVariants as expr
use Rattle.chi_tree.specs.Parts as s
use Rattle.chi_tree.specs.Rules.{grammar}
use Rattle.chi_tree.specs.Tables.{table}
use Rattle.chi_tree.specs.Words.{literals}
use Rattle.chi_tree.specs.View.{given_or, nowhere, expr_of}
use Rattle.chi_parse_look.proofs.Words.{run_one_of, run_none_of}
use Rattle.chi_parse_expr.proofs.Rows.{literal_row}
use Rattle.chi_parse_expr.proofs.primaries.literal.Goals as goal

pub returns-in_err-word : goal.returns-in_err-word
returns-in_err-word c room =
    failed grammar table _ expr_of _ (part s.Literal) _ _ _ c.from_residual.ensures.1
    (runs.part_fails (run_none_of literals.first literals.more c.in_err-word.ensures))

pub returns-in_err-value : goal.returns-in_err-value
returns-in_err-value c room =
    no_memory grammar table _ expr_of _ (part s.Literal) _ _ c.from_residual-in_err-value.ensures.1

pub returns : goal.returns
returns c room =
    let word = c.in_ok-word.ensures in
    read grammar table _ expr_of c.requires.inside
    (runs.part (run_one_of literals.first literals.more word))
    (ap (given_or (expr.Time nowhere)) c.in_ok-value.ensures)

pub literal_of-requires : goal.literal_of-requires
literal_of-requires c = literal_row c.in_ok-word.word.now.token c.in_ok-word.word.now.place c.in_ok-word.ensures.of_classes
