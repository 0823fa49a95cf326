use Rattle.std.proofs.Common.{◌∙◌, ap}
use Rattle.std.specs.List.{flat_map}
use Rattle.chi_core.specs.Config.{Instance, offers_in}
use Rattle.chi_core.specs.Meeting.{least_time}
use Rattle.chi_plain_open.specs.Offered.{due_of}
use Rattle.chi_plain_open.proofs.Times.{least-turn}
use Rattle.chi_plain_steps.proofs.configuration.Configuration.least_due.Goals as goal

pub loop-instance-preserved : goal.loop-instance-preserved
loop-instance-preserved c =
    least-turn (λ (i : Instance). flat_map due_of (offers_in i.state)) _ _ _ _ c.deref-instance-items.result.now c.loop-instance.instance-index
    c.instance-item.result c.loop-instance-test.true c.instance-item.is
    (c.least_due.ensures ∙ ap (λ l. least_time (flat_map due_of l)) c.offers.ensures.offers) c.sooner-least.ensures c.loop-instance.invariant
