use Rattle.std.proofs.Common.{ap}
use Rattle.chi_chan.specs.declared.seats.Seat.{Seat}
use Rattle.chi_chan.proofs.Seating.{same-seats, takes}
use Rattle.chi_chan.proofs.Standing.{on-err}
use Rattle.chi_chan.proofs.seats.take_seat.Goals as goal

pub returns-in_err-fill-clause-seated : goal.returns-in_err-fill-clause-seated
returns-in_err-fill-clause-seated c =
    let f = same-seats c.args.kept.now.slots c.fill.new.kept.slots c.args.seats.now.items c.args.seats.now.items c.requires.seated c.args.pid c.seat_of-key.result.key c.requires.room
    (ap (λ (s : Seat). s.key) c.seat_of-key.ensures) c.fill.ensures.others c.requires.absent c.fill.ensures.some in f.0

pub returns-in_err-fill-clause-err : goal.returns-in_err-fill-clause-err
returns-in_err-fill-clause-err c =
    let f = same-seats c.args.kept.now.slots c.fill.new.kept.slots c.args.seats.now.items c.args.seats.now.items c.requires.seated c.args.pid c.seat_of-key.result.key c.requires.room
    (ap (λ (s : Seat). s.key) c.seat_of-key.ensures) c.fill.ensures.others c.requires.absent c.fill.ensures.some in on-err c.from_residual.result _ f.1

pub returns-clause-seated : goal.returns-clause-seated
returns-clause-seated c =
    let t = takes c.args.kept.now.slots c.fill.new.kept.slots c.args.seats.now.items c.mark.new.seats.items c.requires.seated c.args.pid c.seat_of-key.result.key c.requires.room
    (ap (λ (s : Seat). s.key) c.seat_of-key.ensures) c.fill.ensures.others c.args.offers.now c.requires.absent c.in_ok-fill.ensures.set c.mark.ensures in t.0

pub returns-clause-ok : goal.returns-clause-ok
returns-clause-ok c =
    let t = takes c.args.kept.now.slots c.fill.new.kept.slots c.args.seats.now.items c.mark.new.seats.items c.requires.seated c.args.pid c.seat_of-key.result.key c.requires.room
    (ap (λ (s : Seat). s.key) c.seat_of-key.ensures) c.fill.ensures.others c.args.offers.now c.requires.absent c.in_ok-fill.ensures.set c.mark.ensures in t.1
