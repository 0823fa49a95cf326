use Rattle.std.proofs.Common.{Some}
use Rattle.chi_grammar.specs.Rules.{part}
use Rattle.chi_grammar.specs.RuleRuns as runs
use Rattle.chi_grammar.proofs.Exits.{read, run_word, run_no_word, failed}
use Rattle.chi_tree.specs.declared.statement.Element.TheVariants as element
use Rattle.chi_tree.specs.Parts as s
use Rattle.chi_tree.specs.Rules.{grammar}
use Rattle.chi_tree.specs.Tables.{table}
use Rattle.chi_tree.specs.Statements.{made}
use Rattle.chi_parse.proofs.launches.assigned_make.Goals as goal

pub arguments-requires-clause-inside : goal.arguments-requires-clause-inside
arguments-requires-clause-inside c = (c.in_ok-name.ensures c.args.room).inside

pub returns-in_err-start : goal.returns-in_err-start
returns-in_err-start c = failed grammar table _ (made c.args.target) _ (part s.AssignedMake) _ _ _ c.from_residual.ensures.1
    (runs.part_fails (runs.first_fails (run_no_word grammar table _ c.in_err-start.ensures)))

pub returns-in_err-name : goal.returns-in_err-name
returns-in_err-name c = failed grammar table _ (made c.args.target) _ (part s.AssignedMake) _ _ _ c.from_residual-in_err-name.ensures.1
    (runs.part_fails (runs.next_fails (run_word grammar table _ c.in_ok-start.ensures) (runs.first_fails (c.in_err-name.ensures c.args.room))))

pub returns-in_err-arguments : goal.returns-in_err-arguments
returns-in_err-arguments c = failed grammar table _ (made c.args.target) _ (part s.AssignedMake) _ _ _ c.from_residual-in_err-arguments.ensures.1
    (runs.part_fails (runs.next_fails (run_word grammar table _ c.in_ok-start.ensures) (runs.next_fails (c.in_ok-name.ensures c.args.room).runs c.in_err-arguments.ensures)))

pub returns : goal.returns
returns c = read grammar table _ (made c.args.target) c.requires.inside
    (runs.part (runs.both (run_word grammar table _ c.in_ok-start.ensures) (runs.both (c.in_ok-name.ensures c.args.room).runs c.in_ok-arguments.ensures.runs)))
    (λ i. element.Make (Some c.args.target) ((c.in_ok-name.ensures c.args.room).shows i) (c.in_ok-arguments.ensures.shows i))
