use Rattle.std.proofs.Common.{◌≡◌, true, false, subst}
use Rattle.std.specs.Prelude.{IsSome}
use Rattle.chi_chan.proofs.Standing.{waits-fits, waiting-less}
use Rattle.chi_chan.proofs.waiting.go.Goals as goal

pub unlist-requires : goal.unlist-requires
unlist-requires c =
    let f = waits-fits c.args.seats.now c.args.senders.now c.args.receivers.now c.requires.waiting c.args.pid c.in-Some.offers.now c.in-Some.ensures in
    record { pid = f.0 }

pub unreachable-requires : goal.unreachable-requires
unreachable-requires c = let z : false ≡ true = subst IsSome c.in-None.ensures c.requires.waits in cc

pub returns-clause-waiting : goal.returns-clause-waiting
returns-clause-waiting c =
    waiting-less c.args.seats.now c.args.senders.now c.args.receivers.now c.requires.waiting c.rise.new.self c.rise.ensures.within c.args.pid c.in-Some.offers.now
    c.unlist.new.senders c.unlist.new.receivers c.in-Some.ensures c.rise.ensures.gone c.unlist.ensures.senders c.unlist.ensures.receivers
