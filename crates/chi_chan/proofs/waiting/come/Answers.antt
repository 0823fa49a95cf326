use Rattle.std.proofs.Common.{Some, sym, subst, refl}
use Rattle.std.specs.Prelude.{IsSome}
use Rattle.chi_chan.proofs.Standing.{on-err, back, waiting-same, waiting-more, waiting-undone}
use Rattle.chi_chan.proofs.waiting.come.Goals as goal

pub returns-in_err-sit-clause-waiting : goal.returns-in_err-sit-clause-waiting
returns-in_err-sit-clause-waiting c =
    waiting-same c.args.seats.now c.args.senders.now c.args.receivers.now c.requires.waiting c.sit.new.self c.sit.ensures.within c.in_err-sit.ensures.err

pub returns-in_err-sit-clause-err : goal.returns-in_err-sit-clause-err
returns-in_err-sit-clause-err c = on-err c.from_residual.result _ c.in_err-sit.ensures.err

pub returns-in-Ok-clause-waiting : goal.returns-in-Ok-clause-waiting
returns-in-Ok-clause-waiting c =
    waiting-more c.args.seats.now c.args.senders.now c.args.receivers.now c.requires.waiting c.sit.new.self c.sit.ensures.within c.args.pid c.args.offers.now
    c.list.new.senders c.list.new.receivers c.requires.absent c.requires.few c.in_ok-sit.ensures.ok c.in-Ok.ensures.senders c.in-Ok.ensures.receivers

pub rise-requires : goal.rise-requires
rise-requires c = subst IsSome (sym c.in_ok-sit.ensures.ok.changed) refl

pub returns-in-Err-clause-waiting : goal.returns-in-Err-clause-waiting
returns-in-Err-clause-waiting c =
    waiting-undone c.args.seats.now c.args.senders.now c.args.receivers.now c.requires.waiting c.rise.new.self c.rise.ensures.within c.args.pid
    c.list.new.senders c.list.new.receivers c.requires.absent
    (back c.args.seats.now c.sit.new.self c.rise.new.self c.args.pid (Some c.args.offers.now) c.requires.absent c.in_ok-sit.ensures.ok c.rise.ensures.gone)
    c.in-Err.ensures.senders_err c.in-Err.ensures.receivers_err

pub returns-in-Err-clause-err : goal.returns-in-Err-clause-err
returns-in-Err-clause-err c =
    back c.args.seats.now c.sit.new.self c.rise.new.self c.args.pid (Some c.args.offers.now) c.requires.absent c.in_ok-sit.ensures.ok c.rise.ensures.gone
