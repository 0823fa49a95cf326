use Rattle.std.proofs.Common.{◌∙◌, sym}
use Rattle.chi_trace_events.proofs.Unmade.{hidden}
use Rattle.chi_plain_events.proofs.event.event_of.Goals as goal

pub returns-else-is_shown-clause-event : goal.returns-else-is_shown-clause-event
returns-else-is_shown-clause-event c =
    let e = c.events_law.ensures.event c.args.core.now c.requires.sound c.args.configuration.now c.requires.kinded c.args.label.now c.requires.enabled c.args.turn in
    (e.0, e.1, hidden c.args.filter.now e.0 (sym (c.is_shown.ensures c.args.core.now c.args.turn e.0 e.1) ∙ c.if-is_shown.false))
