use Rattle.std.proofs.Common.{◌≡◌, refl, sym, ◌∙◌, None}
use Rattle.chi_grammar.specs.Rules.{part}
use Rattle.chi_grammar.specs.RuleRuns as runs
use Rattle.chi_grammar.proofs.Exits.{read, reads_part, reads_left, failed, no_memory}
use Rattle.chi_tree.specs.Parts as s
use Rattle.chi_tree.specs.Rules.{grammar}
use Rattle.chi_tree.specs.Tables.{table}
use Rattle.chi_tree.specs.Statements.{communicated, as_target, target_or_none}
use Rattle.chi_parse.specs.Rests.{offered_shown}
use Rattle.chi_parse.proofs.Shapes.{by_part}
use Rattle.chi_parse.proofs.offers.offered.Goals as goal

pub returns-then-is_next : goal.returns-then-is_next
returns-then-is_next c = reads_part grammar table _ (offered_shown c.args.first) _ s.Offered _ _
    (reads_left grammar table _ _ _ (part s.Guarded) (part s.CommunicationEnd) _ _ (c.is_next.ensures ∙ c.if-is_next.true) c.guarded.ensures)

pub returns-in_err-target : goal.returns-in_err-target
returns-in_err-target c = no_memory grammar table _ (offered_shown c.args.first) _ (part s.Offered) _ _ c.from_residual.ensures.1

pub returns-in_err-communication : goal.returns-in_err-communication
returns-in_err-communication c = failed grammar table _ (offered_shown c.args.first) _ (part s.Offered) _ _ _ c.from_residual-in_err-communication.ensures.1
    (runs.part_fails (runs.right (c.is_next.ensures ∙ c.if-is_next.false) c.in_err-communication.ensures))

pub returns : goal.returns
returns c = read grammar table _ (offered_shown c.args.first) c.requires.inside (runs.part (runs.right (c.is_next.ensures ∙ c.if-is_next.false) c.in_ok-communication.ensures.runs))
    (by_part (λ t. offered_shown c.args.first t ≡ record { guard = None; communication = communicated (target_or_none (as_target c.args.first)) t }) (λ u. refl) c.in_ok-communication.ensures.runs
    ∙ (λ i. record { guard = None; communication = communicated (target_or_none (c.in_ok-target.ensures i)) c.in_ok-communication.ensures.tree })
    ∙ (λ i. record { guard = None; communication = c.in_ok-communication.ensures.shows i }) ∙ sym c.bare.ensures)
