use Rattle.std.proofs.Common.{◌≡◌, ◌≤◌, length, Some, true, false, rules, sym, ap, subst, ◌∙◌}
use Rattle.std.specs.Prelude.{option_and_then, slice_get}
use Rattle.std.proofs.lemmas.Option.{slice_get-get_or}
use Rattle.chi_machine_agenda.specs.Phases.{waits}
use Rattle.chi_machine.specs.Views.{offers_at}
use Rattle.chi_machine_told.specs.There.{act_in}
use Rattle.chi_machine_told.proofs.Found.{acts_waiting, acts_not, acts_past, in_room}
use Rattle.chi_trace_events.specs.Channels.{channel_sent}
use Rattle.chi_machine_told.proofs.showing.channel_of.Goals as goal

pub returns-then-not-is_waiting : goal.returns-then-not-is_waiting
returns-then-not-is_waiting c =
    let is = c.args.world.now.crowd.instances.items in
    let ps = c.args.world.now.crowd.agenda.phases in
    let never : waits (slice_get ps c.args.pid) ≡ false = search rules in
    ap (option_and_then channel_sent) (sym (acts_not is ps c.args.pid c.args.number never))

pub returns-in-Some-room : goal.returns-in-Some-room
returns-in-Some-room c =
    let is = c.args.world.now.crowd.instances.items in
    let ps = c.args.world.now.crowd.agenda.phases in
    let list = c.deref.result.now in
    let i = c.in-Some.instance.now in
    let same : list ≡ is = search rules in
    let there : slice_get is c.args.pid ≡ Some i = ap (λ l. slice_get l c.args.pid) (sym same) ∙ slice_get-get_or list c.args.pid i c.in-Some.ensures.lookup.3.0 ∙ ap Some (sym c.in-Some.ensures.lookup.1) in
    let still : waits (slice_get ps c.args.pid) ≡ true = search rules in
    c.channel_in.ensures
    ∙ ap (option_and_then channel_sent) (in_room i.room c.in-Some-room.room c.args.number c.in-Some-room.is ∙ sym (acts_waiting is ps c.args.pid c.args.number i there still))

pub returns-in-None-room : goal.returns-in-None-room
returns-in-None-room c =
    let is = c.args.world.now.crowd.instances.items in
    let ps = c.args.world.now.crowd.agenda.phases in
    let list = c.deref.result.now in
    let i = c.in-Some.instance.now in
    let same : list ≡ is = search rules in
    let there : slice_get is c.args.pid ≡ Some i = ap (λ l. slice_get l c.args.pid) (sym same) ∙ slice_get-get_or list c.args.pid i c.in-Some.ensures.lookup.3.0 ∙ ap Some (sym c.in-Some.ensures.lookup.1) in
    let still : waits (slice_get ps c.args.pid) ≡ true = search rules in
    ap (option_and_then channel_sent) (sym (acts_waiting is ps c.args.pid c.args.number i there still ∙ ap (λ r. act_in (offers_at r) c.args.number) c.in-None-room.is))

pub returns-in-None : goal.returns-in-None
returns-in-None c =
    let is = c.args.world.now.crowd.instances.items in
    let ps = c.args.world.now.crowd.agenda.phases in
    let same : c.deref.result.now ≡ is = search rules in
    let past : length is ≤ c.args.pid = subst (λ l. length l ≤ c.args.pid) same c.in-None.ensures.lookup.3 in
    ap (option_and_then channel_sent) (sym (acts_past is ps c.args.pid c.args.number past))
