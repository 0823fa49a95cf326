use Rattle.std.proofs.Common.{◌∙◌}
use Rattle.chi_grammar.specs.Rules.{part, ◌▸◌}
use Rattle.chi_grammar.specs.RuleRuns as runs
use Rattle.chi_grammar.proofs.Exits.{reads_part, reads_left, reads_right, reads_then, failed}
use Rattle.chi_tree.specs.Parts as s
use Rattle.chi_tree.specs.Rules.{grammar}
use Rattle.chi_tree.specs.Tables.{table}
use Rattle.chi_tree.specs.Statements.{communicated, communication_of}
use Rattle.chi_parse.proofs.Shapes.{reads_as}
use Rattle.chi_parse.proofs.communications.communication.Goals as goal

pub returns-then-is_next : goal.returns-then-is_next
returns-then-is_next c = reads_part grammar table _ communication_of _ s.Communication _ _
    (reads_left grammar table _ _ _ (part s.Delay) (part s.Target ▸ part s.CommunicationEnd) _ _ (c.is_next.ensures ∙ c.if-is_next.true) c.delay.ensures)

pub returns-in_err-target : goal.returns-in_err-target
returns-in_err-target c = failed grammar table _ communication_of _ (part s.Communication) _ _ _ c.from_residual.ensures.1
    (runs.part_fails (runs.right (c.is_next.ensures ∙ c.if-is_next.false) (runs.first_fails c.in_err-target.ensures)))

pub returns : goal.returns
returns c = reads_part grammar table _ communication_of _ s.Communication _ _
    (reads_right grammar table _ _ _ (part s.Delay) (part s.Target ▸ part s.CommunicationEnd) _ _ (c.is_next.ensures ∙ c.if-is_next.false)
    (reads_then grammar table _ _ _ _ _ _ _ _ _ c.in_ok-target.ensures.runs
    (reads_as _ _ _ (λ u i. communicated (c.in_ok-target.ensures.shows i) u) _ _ _ _ c.communication_end.ensures)))
