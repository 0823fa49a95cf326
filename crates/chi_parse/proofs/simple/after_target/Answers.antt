use Rattle.std.proofs.Common.{◌≡◌, refl, ap, ◌∙◌}
use Rattle.chi_grammar.specs.Rules.{part}
use Rattle.chi_grammar.specs.RuleRuns as runs
use Rattle.chi_grammar.proofs.Exits.{read, reads_part, reads_right, failed}
use Rattle.chi_tree.specs.declared.statement.Statement.TheVariants as statement
use Rattle.chi_tree.specs.Parts as s
use Rattle.chi_tree.specs.Rules.{grammar}
use Rattle.chi_tree.specs.Tables.{table}
use Rattle.chi_tree.specs.Statements.{communicated, led}
use Rattle.chi_parse.proofs.Shapes.{by_part}
use Rattle.chi_parse.proofs.simple.after_target.Goals as goal

pub returns-then-not-is_next : goal.returns-then-not-is_next
returns-then-not-is_next c = reads_part grammar table _ (led c.args.target) _ s.AfterTarget _ _
    (reads_right grammar table _ _ _ (part s.CommunicationEnd) (part s.Assignment) _ _ (c.is_next.ensures ∙ c.if-not-is_next.true) c.assignment.ensures)

pub returns-in_err-communication : goal.returns-in_err-communication
returns-in_err-communication c = failed grammar table _ (led c.args.target) _ (part s.AfterTarget) _ _ _ c.from_residual.ensures.1
    (runs.part_fails (runs.left (c.is_next.ensures ∙ c.if-not-is_next.false) c.in_err-communication.ensures))

pub returns : goal.returns
returns c = read grammar table _ (led c.args.target) c.requires.inside (runs.part (runs.left (c.is_next.ensures ∙ c.if-not-is_next.false) c.in_ok-communication.ensures.runs))
    (by_part (λ t. led c.args.target t ≡ statement.Communicate (communicated c.args.target t)) (λ u. refl) c.in_ok-communication.ensures.runs
    ∙ ap statement.Communicate c.in_ok-communication.ensures.shows)
