use Rattle.std.proofs.Common.{◌≡◌, drop}
use Rattle.std.specs.List.{flat_map}
use Rattle.chi_core.specs.Meeting.{least_time}
use Rattle.chi_plain_open.specs.Offered.{sooner, due_of}
use Rattle.chi_plain_open.proofs.offer.least_due.Given as goal

abbrev pub invariant-loop-offer : goal.invariant-loop-offer
invariant-loop-offer l =
    sooner l.least (least_time (flat_map due_of (drop l.offer-index l.offers))) ≡ least_time (flat_map due_of l.offers)
