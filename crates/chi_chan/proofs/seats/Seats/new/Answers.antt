use Rattle.chi_chan.proofs.Seating.{nobody-seen, no-seats}
use Rattle.chi_chan.proofs.seats.Seats.new.Goals as goal

pub invariant_of-result : goal.invariant_of-result
invariant_of-result c = no-seats c.new-2.result.slots c.new.result.items c.new.ensures.items

pub returns : goal.returns
returns c = nobody-seen c.new-2.result.slots c.new.result.items c.new.ensures.items
