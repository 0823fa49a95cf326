use Rattle.std.proofs.Common.{◌≡◌, [], ◌∙◌, ap, sym}
use Rattle.chi_core.specs.Meeting.{next_due}
use Rattle.chi_core.specs.Options.{actors}
use Rattle.chi_machine_agenda.specs.Kept.{phases_from}
use Rattle.chi_machine_agenda.specs.Phases.{Agenda}
use Rattle.chi_machine_agenda.specs.Reading.{config_of}
use Rattle.chi_machine_agenda.proofs.Options.{none-goes}
use Rattle.chi_machine_agenda.proofs.Due.{next-is}
use Rattle.chi_machine_agenda.proofs.agenda.Agenda.next_due.Goals as goal

pub returns : goal.returns
returns c =
    let s = c.self.inside in
    let none : actors (config_of (record { clock = s.clock; until = s.until; phases = phases_from 0 s.standings.items s.waiting s.joins.numbers })) ≡ [] =
    ap (λ (a : Agenda). actors (config_of a)) c.self.view_is ∙ c.requires in
    sym (next-is s.clock s.until s.standings.items s.finished.items s.waiting s.ready s.dues s.joins c.self.invariant (none-goes s.clock s.until s.standings.items s.finished.items s.waiting s.ready s.dues s.joins c.self.invariant none) c.least_due.result c.least_due.ensures)
    ∙ ap (λ (a : Agenda). next_due (config_of a)) c.self.view_is
