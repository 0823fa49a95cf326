use Rattle.std.proofs.Common.{get_or}
use Rattle.chi_chan.specs.declared.offers.Offer.TheVariants.{Send}
use Rattle.chi_chan.proofs.Scanning.{got-offer}
use Rattle.chi_chan.proofs.Standing.{stood-on}
use Rattle.chi_chan.proofs.listing.list_all.Goals as goal

pub loop-number-preserved : goal.loop-number-preserved
loop-number-preserved c =
    let i = c.loop-number.invariant in
    let h = c.loop-number-test.true in
    let s = stood-on c.args.pid c.args.offers.now c.loop-number.number (get_or c.args.offers.now c.loop-number.number (Send 0)) c.args.senders.now c.loop-number.senders c.list_one.new.senders
    c.args.receivers.now c.loop-number.receivers c.list_one.new.receivers (got-offer c.args.offers.now c.loop-number.number (Send 0) h) i.senders i.receivers c.in_ok-list_one.ensures.ok in
    record { senders = s.0; receivers = s.1 }
