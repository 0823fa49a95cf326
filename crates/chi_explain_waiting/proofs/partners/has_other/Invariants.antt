use Rattle.std.proofs.Common.{◌≡◌, drop}
use Rattle.std.specs.List.{list_any}
use Rattle.chi_explain_waiting.specs.Partners.{answers}
use Rattle.chi_explain_waiting.proofs.partners.has_other.Given as goal

abbrev pub invariant-loop-offer : goal.invariant-loop-offer
invariant-loop-offer l = list_any (λ o. answers l.fn.act o.act) (drop l.offer-index l.offers) ≡ list_any (λ o. answers l.fn.act o.act) l.offers
