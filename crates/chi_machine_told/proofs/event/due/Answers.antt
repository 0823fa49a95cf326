use Rattle.std.proofs.Common.{rules}
use Rattle.chi_machine.proofs.Timed.{idle_too}
use Rattle.chi_machine_told.proofs.Told.{due_some, due_none}
use Rattle.chi_machine_told.proofs.event.due.Goals as goal

pub next_due-requires : goal.next_due-requires
next_due-requires c = idle_too c.agenda_law.ensures.actors c.args.world.now c.requires.kept c.requires.idle

pub unreachable-requires : goal.unreachable-requires
unreachable-requires c = c.requires.there (due_none c.agenda_law.ensures.due c.args.world.now c.requires.kept c.next_due.result c.next_due.ensures c.in-None.is)

pub returns : goal.returns
returns c = due_some c.agenda_law.ensures.due c.args.world.now c.requires.kept c.next_due.result c.next_due.ensures _ (search rules)
