use Rattle.chi_grammar.specs.Rules.{part}
use Rattle.chi_grammar.specs.RuleRuns as runs
use Rattle.chi_grammar.proofs.Exits.{read, run_word, run_no_word, failed}
use Rattle.chi_tree.specs.declared.statement.Statement.TheVariants as statement
use Rattle.chi_tree.specs.Parts as s
use Rattle.chi_tree.specs.Rules.{grammar}
use Rattle.chi_tree.specs.Tables.{table}
use Rattle.chi_tree.specs.Statements.{led}
use Rattle.chi_parse.proofs.simple.assignment.Goals as goal

pub returns-in_err-targets : goal.returns-in_err-targets
returns-in_err-targets c = failed grammar table _ (led c.args.target) _ (part s.Assignment) _ _ _ c.from_residual.ensures.1
    (runs.part_fails (runs.first_fails c.in_err-targets.ensures))

pub returns-in_err-sign : goal.returns-in_err-sign
returns-in_err-sign c = failed grammar table _ (led c.args.target) _ (part s.Assignment) _ _ _ c.from_residual-in_err-sign.ensures.1
    (runs.part_fails (runs.next_fails c.in_ok-targets.ensures.runs (runs.first_fails (run_no_word grammar table _ c.in_err-sign.ensures))))

pub returns-in_err-values : goal.returns-in_err-values
returns-in_err-values c = failed grammar table _ (led c.args.target) _ (part s.Assignment) _ _ _ c.from_residual-in_err-values.ensures.1
    (runs.part_fails (runs.next_fails c.in_ok-targets.ensures.runs (runs.next_fails (run_word grammar table _ c.in_ok-sign.ensures) c.in_err-values.ensures)))

pub returns : goal.returns
returns c = read grammar table _ (led c.args.target) c.requires.inside
    (runs.part (runs.both c.in_ok-targets.ensures.runs (runs.both (run_word grammar table _ c.in_ok-sign.ensures) c.in_ok-values.ensures.runs)))
    (λ i. statement.Assign (c.in_ok-targets.ensures.shows i) c.in_ok-sign.sign.now.place (c.in_ok-values.ensures.shows i))
