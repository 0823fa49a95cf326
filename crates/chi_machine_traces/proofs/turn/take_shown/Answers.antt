use Rattle.chi_machine_traces.proofs.Steps.{can_tell}
use Rattle.chi_machine_traces.proofs.Showing.{label_taken, label_logged}
use Rattle.chi_machine_traces.proofs.turn.take_shown.Goals as goal

pub event_of-requires-clause-kept : goal.event_of-requires-clause-kept
event_of-requires-clause-kept g c = c.requires.course.kept.crowd

pub event_of-requires-clause-told : goal.event_of-requires-clause-told
event_of-requires-clause-told g c = can_tell c.options_law.ensures.picked c.choice_law.ensures.may_come c.args.code.now c.args.course.now c.requires.course c.args.label.now c.requires.picked

pub returns-in-Ok-clause-taken : goal.returns-in-Ok-clause-taken
returns-in-Ok-clause-taken g c =
    label_taken c.args.code.now c.args.course.now c.args.label.now c.args.told.now.out.items c.take.new.out.items c.in-Ok.end c.take.new.self c.log_taken.result c.log_taken.ensures.same c.in-Ok.ensures.taken

pub returns-in-Ok-clause-logs : goal.returns-in-Ok-clause-logs
returns-in-Ok-clause-logs g c =
    label_logged c.args.code.now c.args.course.now c.args.label.now (g.S.Sieve.keeps_to c.args.sieve.now) c.filter.result c.filter.ensures.kept c.in_ok-made.made c.in-Ok.end c.args.told.now.log.items c.log_taken.new.log.items c.log_taken.result
    c.log_taken.ensures.same c.log_taken.ensures.logged c.in_ok-made.ensures.event
