use Rattle.std.proofs.Common.{◌≡◌, ◌<◌, length, Option, Some, sym, subst, ◌∙◌, arith}
use Rattle.std.specs.Prelude.{IfOk, option_and_then}
use Rattle.chi_core.specs.declared.act.Act.{Act}
use Rattle.chi_core.specs.declared.act.Act.TheVariants as act
use Rattle.chi_machine.specs.Views.{offers_at}
use Rattle.chi_machine_told.specs.There.{act_in}
use Rattle.chi_machine_told.proofs.Found.{read, act_there, act_within, no_room, in_room}
use Rattle.chi_trace_events.specs.Traces.{sending_told}
use Rattle.chi_machine_told.proofs.event.sent.Goals as goal

pub index-requires : goal.index-requires
index-requires c =
    let is = c.args.world.now.crowd.instances.items in
    let h : c.args.pid < length is = act_within is c.args.world.now.crowd.agenda.phases c.args.pid c.args.number (act.Send c.requires.0 c.requires.1) c.requires.2 in
    omega (arith, h, c.args.world.now.crowd.instances.ok.0)

pub sending-requires : goal.sending-requires
sending-requires c =
    let is = c.args.world.now.crowd.instances.items in
    let ps = c.args.world.now.crowd.agenda.phases in
    let i = c.index.result.now in
    let sends = act.Send c.requires.0 c.requires.1 in
    let h : c.args.pid < length is = act_within is ps c.args.pid c.args.number sends c.requires.2 in
    let its : act_in (offers_at i.room) c.args.number ≡ Some sends = act_there is ps c.args.pid c.args.number i sends (read is ps c.args.pid i h c.index.ensures) c.requires.2 in
    (c.requires.0, c.requires.1, in_room i.room c.in-Some.room c.args.number c.in-Some.is ∙ its, c.requires.3)

pub unreachable-requires : goal.unreachable-requires
unreachable-requires c =
    let is = c.args.world.now.crowd.instances.items in
    let ps = c.args.world.now.crowd.agenda.phases in
    let i = c.index.result.now in
    let sends = act.Send c.requires.0 c.requires.1 in
    let h : c.args.pid < length is = act_within is ps c.args.pid c.args.number sends c.requires.2 in
    let its : act_in (offers_at i.room) c.args.number ≡ Some sends = act_there is ps c.args.pid c.args.number i sends (read is ps c.args.pid i h c.index.ensures) c.requires.2 in
    no_room i.room c.args.number sends c.in-None.is its

pub returns-clause-detail : goal.returns-clause-detail
returns-clause-detail c =
    let is = c.args.world.now.crowd.instances.items in
    let ps = c.args.world.now.crowd.agenda.phases in
    let i = c.index.result.now in
    let sends = act.Send c.requires.0 c.requires.1 in
    let h : c.args.pid < length is = act_within is ps c.args.pid c.args.number sends c.requires.2 in
    let its : act_in (offers_at i.room) c.args.number ≡ Some sends = act_there is ps c.args.pid c.args.number i sends (read is ps c.args.pid i h c.index.ensures) c.requires.2 in
    subst (λ (o : Option Act). IfOk c.sending.result (λ detail. option_and_then (sending_told c.args.code.now.names.kinds) o ≡ Some detail))
    (in_room i.room c.in-Some.room c.args.number c.in-Some.is ∙ its ∙ sym c.requires.2) c.sending.ensures.detail
