use Rattle.std.proofs.Common.{◌∙◌}
use Rattle.chi_grammar.specs.Rules.{part}
use Rattle.chi_grammar.proofs.Exits.{reads_part, reads_left, reads_right}
use Rattle.chi_tree.specs.Parts as s
use Rattle.chi_tree.specs.Rules.{grammar}
use Rattle.chi_tree.specs.Tables.{table}
use Rattle.chi_tree.specs.Statements.{communicated}
use Rattle.chi_parse.proofs.communications.communication_end.Goals as goal

pub returns-then-is_next : goal.returns-then-is_next
returns-then-is_next c = reads_part grammar table _ (communicated c.args.target) _ s.CommunicationEnd _ _
    (reads_left grammar table _ _ _ (part s.Sending) (part s.Receiving) _ _ (c.is_next.ensures ∙ c.if-is_next.true) c.sending.ensures)

pub returns : goal.returns
returns c = reads_part grammar table _ (communicated c.args.target) _ s.CommunicationEnd _ _
    (reads_right grammar table _ _ _ (part s.Sending) (part s.Receiving) _ _ (c.is_next.ensures ∙ c.if-is_next.false) c.receiving.ensures)
