use Rattle.std.proofs.Common.{ap}
use Rattle.chi_chan.specs.declared.seats.Seat.{Seat}
use Rattle.chi_chan.proofs.Seating.{has-seat, seat-some, rises}
use Rattle.chi_chan.proofs.seats.leave_seat.Goals as goal

pub mark-requires : goal.mark-requires
mark-requires c = has-seat c.args.kept.now.slots c.args.seats.now.items c.requires.seated c.args.pid c.requires.waits

pub empty-requires : goal.empty-requires
empty-requires c =
    seat-some c.args.kept.now.slots c.args.seats.now.items c.requires.seated c.args.pid c.seat_of-key.result c.seat_of-key.ensures
    (has-seat c.args.kept.now.slots c.args.seats.now.items c.requires.seated c.args.pid c.requires.waits)

pub returns-clause-seated : goal.returns-clause-seated
returns-clause-seated c =
    let h = has-seat c.args.kept.now.slots c.args.seats.now.items c.requires.seated c.args.pid c.requires.waits in
    let t = rises c.args.kept.now.slots c.empty.new.kept.slots c.args.seats.now.items c.mark.new.seats.items c.requires.seated c.args.pid c.seat_of-key.result.key h
    (ap (λ (s : Seat). s.key) c.seat_of-key.ensures) c.empty.ensures.others c.empty.ensures.some c.mark.ensures in t.0

pub returns-clause-gone : goal.returns-clause-gone
returns-clause-gone c =
    let h = has-seat c.args.kept.now.slots c.args.seats.now.items c.requires.seated c.args.pid c.requires.waits in
    let t = rises c.args.kept.now.slots c.empty.new.kept.slots c.args.seats.now.items c.mark.new.seats.items c.requires.seated c.args.pid c.seat_of-key.result.key h
    (ap (λ (s : Seat). s.key) c.seat_of-key.ensures) c.empty.ensures.others c.empty.ensures.some c.mark.ensures in t.1
