use Rattle.std.proofs.Common.{Some, sym, ◌∙◌, ap}
use Rattle.chi_chan.proofs.Seating.{waits-not, waits-offers, waits-seat, waits-some}
use Rattle.chi_chan.proofs.seats.offers_at.Goals as goal

pub unreachable-requires : goal.unreachable-requires
unreachable-requires c =
    waits-some c.args.kept.now.slots c.args.seats.now.items c.requires c.args.pid c.seat_of-seat.result c.seat_of-seat.ensures
    (waits-seat c.args.kept.now.slots c.args.seats.now.items c.requires c.args.pid c.seat_of-seat.result c.seat_of-seat.ensures c.if-seat.true)
    (sym c.in-None.ensures)

pub returns-in-Some : goal.returns-in-Some
returns-in-Some c =
    waits-offers c.args.kept.now.slots c.args.seats.now.items c.requires c.args.pid c.seat_of-seat.result c.seat_of-seat.ensures c.if-seat.true
    ∙ sym c.in-Some.ensures ∙ ap Some (sym c.as_slice.ensures)

pub returns-else-seat : goal.returns-else-seat
returns-else-seat c =
    waits-not c.args.kept.now.slots c.args.seats.now.items c.requires c.args.pid c.seat_of-seat.result c.seat_of-seat.ensures c.if-seat.false
