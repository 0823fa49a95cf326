use Rattle.std.proofs.Common.{◌≡◌, refl, sym, ap, ◌∙◌, None}
use Rattle.chi_grammar.specs.Rules.{node, part, when}
use Rattle.chi_grammar.specs.RuleRuns as runs
use Rattle.chi_grammar.proofs.Exits.{read, reads_part, reads_right, reads_chosen, reads_otherwise, failed}
use Rattle.chi_tree.specs.Parts as s
use Rattle.chi_tree.specs.Rules.{grammar}
use Rattle.chi_tree.specs.Tables.{table}
use Rattle.chi_tree.specs.Statements.{communication_of, as_target, is_some, is_target}
use Rattle.chi_parse.specs.Rests.{offer_shown, offered_shown}
use Rattle.chi_parse.proofs.Shapes.{by_part, reads_as}
use Rattle.chi_parse.proofs.offers.offer.Goals as goal

pub returns-in_err-communication : goal.returns-in_err-communication
returns-in_err-communication c = failed grammar table _ offer_shown _ (part s.Offer) _ _ _ c.from_residual.ensures.1
    (runs.part_fails (runs.left (c.is_next.ensures ∙ c.if-is_next.true) c.in_err-communication.ensures))

pub returns-then-is_next : goal.returns-then-is_next
returns-then-is_next c = read grammar table _ offer_shown c.requires.inside (runs.part (runs.left (c.is_next.ensures ∙ c.if-is_next.true) c.in_ok-communication.ensures.runs))
    (by_part (λ t. offer_shown (node s.Offer t) ≡ record { guard = None; communication = communication_of t }) (λ u. refl) c.in_ok-communication.ensures.runs ∙ (λ i. record { guard = None; communication = c.in_ok-communication.ensures.shows i }) ∙ sym c.bare.ensures)

pub returns-in_err-first : goal.returns-in_err-first
returns-in_err-first c = failed grammar table _ offer_shown _ (part s.Offer) _ _ _ c.from_residual-in_err-first.ensures.1
    (runs.part_fails (runs.right (c.is_next.ensures ∙ c.if-is_next.false) (runs.test_fails c.in_err-first.ensures)))

pub returns-then-is_target : goal.returns-then-is_target
returns-then-is_target c = reads_part grammar table _ offer_shown _ s.Offer _ _
    (reads_right grammar table _ _ _ (part s.Delay) (when (part s.Expr) is_target (part s.Offered) (part s.Guarded)) _ _ (c.is_next.ensures ∙ c.if-is_next.false)
    (reads_chosen grammar table _ _ _ (part s.Expr) (part s.Offered) (part s.Guarded) is_target _ _ _ _ c.in_ok-first.ensures.runs
    (ap (λ e. is_some (as_target e)) c.in_ok-first.ensures.shows ∙ sym c.is_target.ensures ∙ c.if-is_target.true)
    (reads_as _ _ _ (λ u i. offered_shown (c.in_ok-first.ensures.shows i) u) _ _ _ _ c.offered.ensures)))

pub returns : goal.returns
returns c = reads_part grammar table _ offer_shown _ s.Offer _ _
    (reads_right grammar table _ _ _ (part s.Delay) (when (part s.Expr) is_target (part s.Offered) (part s.Guarded)) _ _ (c.is_next.ensures ∙ c.if-is_next.false)
    (reads_otherwise grammar table _ _ _ (part s.Expr) (part s.Offered) (part s.Guarded) is_target _ _ _ _ c.in_ok-first.ensures.runs
    (ap (λ e. is_some (as_target e)) c.in_ok-first.ensures.shows ∙ sym c.is_target.ensures ∙ c.if-is_target.false)
    (reads_as _ _ _ (λ u i. offered_shown (c.in_ok-first.ensures.shows i) u) _ _ _ _ c.guarded.ensures)))
