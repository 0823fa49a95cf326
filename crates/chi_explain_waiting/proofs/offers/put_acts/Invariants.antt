use Rattle.std.proofs.Common.{◌≡◌, ◌++◌, drop}
use Rattle.std.specs.List.{flat_map}
use Rattle.chi_explain_waiting.specs.WaitingText.{offer_told}
use Rattle.chi_explain_waiting.proofs.offers.put_acts.Given as goal

abbrev pub invariant-loop-offer : goal.invariant-loop-offer
invariant-loop-offer l =
    l.out.items ++ flat_map (offer_told l.fn.configuration l.fn.pid) (drop l.offer-index l.offers)
    ≡ l.fn.out.items ++ flat_map (offer_told l.fn.configuration l.fn.pid) l.offers
