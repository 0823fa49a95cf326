use Rattle.std.proofs.Common.{sym, ◌∙◌}
use Rattle.chi_machine.specs.Views.{whole_of}
use Rattle.chi_machine_told.proofs.Told.{there, told_so, shows_so, shown}
use Rattle.chi_trace_events.proofs.Unmade.{hidden}
use Rattle.chi_machine_told.proofs.event.event_of.Goals as goal

pub made-requires-clause-there : goal.made-requires-clause-there
made-requires-clause-there c = there c.events_law.ensures.there c.kinded_law.ensures.keeps c.args.code.now (whole_of c.args.world.now) c.args.label.now c.requires.told

pub returns-in_ok-made-clause-event : goal.returns-in_ok-made-clause-event
returns-in_ok-made-clause-event c = λ core config may.
    let code = c.args.code.now in
    let m = whole_of c.args.world.now in
    let label = c.args.label.now in
    let e = c.in_ok-made.field-0 in
    let told = told_so code m label core config may c.args.turn e c.events_alike_law.ensures.events (c.kinded_law.ensures.keeps core may.sound) c.in_ok-made.ensures.event in
    (e, told, shown c.args.filter.now e (shows_so code m label core config may c.args.turn e c.events_alike_law.ensures.channels c.args.filter.now told ∙ sym c.is_shown.ensures ∙ c.if-is_shown.true))

pub returns-else-is_shown-clause-event : goal.returns-else-is_shown-clause-event
returns-else-is_shown-clause-event c = λ core config may.
    let code = c.args.code.now in
    let m = whole_of c.args.world.now in
    let label = c.args.label.now in
    let e = c.events_law.ensures.event core may.sound config may.kinded label may.enabled c.args.turn in
    (e.0, e.1, hidden c.args.filter.now e.0 (shows_so code m label core config may c.args.turn e.0 c.events_alike_law.ensures.channels c.args.filter.now e.1 ∙ sym c.is_shown.ensures ∙ c.if-is_shown.false))
