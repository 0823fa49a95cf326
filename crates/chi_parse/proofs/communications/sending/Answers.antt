use Rattle.chi_grammar.specs.Rules.{part}
use Rattle.chi_grammar.specs.RuleRuns as runs
use Rattle.chi_grammar.proofs.Exits.{read, run_word, run_no_word, failed}
use Rattle.chi_tree.specs.declared.statement.Communication.TheVariants as communication
use Rattle.chi_tree.specs.Parts as s
use Rattle.chi_tree.specs.Rules.{grammar}
use Rattle.chi_tree.specs.Tables.{table}
use Rattle.chi_tree.specs.Statements.{communicated}
use Rattle.chi_parse.proofs.communications.sending.Goals as goal

pub returns-in_err-sign : goal.returns-in_err-sign
returns-in_err-sign c = failed grammar table _ (communicated c.args.target) _ (part s.Sending) _ _ _ c.from_residual.ensures.1
    (runs.part_fails (runs.first_fails (run_no_word grammar table _ c.in_err-sign.ensures)))

pub returns-in_err-value : goal.returns-in_err-value
returns-in_err-value c = failed grammar table _ (communicated c.args.target) _ (part s.Sending) _ _ _ c.from_residual-in_err-value.ensures.1
    (runs.part_fails (runs.next_fails (run_word grammar table _ c.in_ok-sign.ensures) c.in_err-value.ensures))

pub returns : goal.returns
returns c = read grammar table _ (communicated c.args.target) c.requires.inside
    (runs.part (runs.both (run_word grammar table _ c.in_ok-sign.ensures) c.in_ok-value.ensures.runs))
    (λ i. communication.Send c.args.target c.in_ok-sign.sign.now.place (c.in_ok-value.ensures.shows i))
