use Rattle.chi_chan.proofs.Seating.{seats-few}
use Rattle.chi_chan.proofs.seats.Seats.sit.Goals as goal

pub returns-clause-within : goal.returns-clause-within
returns-clause-within c = seats-few c.wait.new.kept.slots c.wait.new.seats.items c.wait.ensures.seated
