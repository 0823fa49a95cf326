use Rattle.chi_grammar.specs.Rules.{part}
use Rattle.chi_grammar.specs.RuleRuns as runs
use Rattle.chi_grammar.proofs.Exits.{read, run_word, run_no_word, failed}
use Rattle.chi_tree.specs.Parts as s
use Rattle.chi_tree.specs.Rules.{grammar}
use Rattle.chi_tree.specs.Tables.{table}
use Rattle.chi_tree.specs.Statements.{walk_of}
use Rattle.chi_parse.proofs.walks.walk.Goals as goal

pub returns-in_err-names : goal.returns-in_err-names
returns-in_err-names c = failed grammar table _ walk_of _ (part s.Walk) _ _ _ c.from_residual.ensures.1
    (runs.part_fails (runs.first_fails (c.in_err-names.ensures c.args.room)))

pub returns-in_err-start : goal.returns-in_err-start
returns-in_err-start c = failed grammar table _ walk_of _ (part s.Walk) _ _ _ c.from_residual-in_err-start.ensures.1
    (runs.part_fails (runs.next_fails (c.in_ok-names.ensures c.args.room).runs (runs.first_fails (run_no_word grammar table _ c.in_err-start.ensures))))

pub returns-in_err-container : goal.returns-in_err-container
returns-in_err-container c = failed grammar table _ walk_of _ (part s.Walk) _ _ _ c.from_residual-in_err-container.ensures.1
    (runs.part_fails (runs.next_fails (c.in_ok-names.ensures c.args.room).runs (runs.next_fails (run_word grammar table _ c.in_ok-start.ensures) c.in_err-container.ensures)))

pub returns : goal.returns
returns c = read grammar table _ (walk_of) c.requires.inside
    (runs.part (runs.both (c.in_ok-names.ensures c.args.room).runs (runs.both (run_word grammar table _ c.in_ok-start.ensures) c.in_ok-container.ensures.runs)))
    (λ i. record { names = ((c.in_ok-names.ensures c.args.room).shows i); container = (c.in_ok-container.ensures.shows i) })
