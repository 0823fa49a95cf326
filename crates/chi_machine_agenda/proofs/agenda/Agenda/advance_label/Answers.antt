use Rattle.std.proofs.Common.{◌≡◌, [], ◌∙◌, ap, refl}
use Rattle.chi_core.specs.Options.{actors, advance}
use Rattle.chi_machine_agenda.specs.Kept.{phases_from}
use Rattle.chi_machine_agenda.specs.Phases.{Agenda}
use Rattle.chi_machine_agenda.specs.Reading.{config_of}
use Rattle.chi_machine_agenda.proofs.Options.{its, none-goes}
use Rattle.chi_machine_agenda.proofs.Due.{next-is}
use Rattle.chi_machine_agenda.proofs.Endings.{advance-is}
use Rattle.chi_machine_agenda.proofs.agenda.Agenda.advance_label.Goals as goal

pub returns : goal.returns
returns c =
    let s = c.self.inside in
    let none : actors (config_of (record { clock = s.clock; until = s.until; phases = phases_from 0 s.standings.items s.waiting s.joins.numbers })) ≡ [] =
    ap (λ (a : Agenda). actors (config_of a)) c.self.view_is ∙ c.requires in
    advance-is (its s.clock s.until s.standings.items s.finished.items s.waiting s.ready s.dues s.joins c.self.invariant) c.least_due.result c.advance_label.result
    (next-is s.clock s.until s.standings.items s.finished.items s.waiting s.ready s.dues s.joins c.self.invariant (none-goes s.clock s.until s.standings.items s.finished.items s.waiting s.ready s.dues s.joins c.self.invariant none) c.least_due.result c.least_due.ensures) (c.advance_label.ensures (its s.clock s.until s.standings.items s.finished.items s.waiting s.ready s.dues s.joins c.self.invariant) refl)
    ∙ ap (λ (a : Agenda). advance (config_of a)) c.self.view_is
