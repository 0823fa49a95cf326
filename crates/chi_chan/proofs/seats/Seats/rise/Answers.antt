use Rattle.chi_chan.proofs.Seating.{seats-few}
use Rattle.chi_chan.proofs.seats.Seats.rise.Goals as goal

pub returns-clause-within : goal.returns-clause-within
returns-clause-within c = seats-few c.leave_seat.new.kept.slots c.leave_seat.new.seats.items c.leave_seat.ensures.seated
