use Rattle.std.proofs.Common.{◌≡◌, length}
use Rattle.chi_chan.specs.Held.{SameOffers}
use Rattle.chi_chan.specs.Seated.{Seated, seen}
use Rattle.chi_chan.proofs.seats.seat_all.Given as goal

abbrev pub invariant-loop-more : goal.invariant-loop-more
invariant-loop-more l = record {
  seated : Seated l.kept.slots l.seats.items;
  same : SameOffers (seen l.fn.kept.slots l.fn.seats.items) (seen l.kept.slots l.seats.items);
  count : length l.seats.items ≡ l._more;
}
