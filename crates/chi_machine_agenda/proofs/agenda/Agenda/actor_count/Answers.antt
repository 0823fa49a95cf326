use Rattle.std.proofs.Common.{length, ◌∙◌, ap}
use Rattle.chi_core.specs.Options.{actors}
use Rattle.chi_machine_agenda.specs.Phases.{Agenda}
use Rattle.chi_machine_agenda.specs.Reading.{config_of}
use Rattle.chi_machine_agenda.proofs.Options.{ready-count}
use Rattle.chi_machine_agenda.proofs.agenda.Agenda.actor_count.Goals as goal

pub returns : goal.returns
returns c =
    let s = c.self.inside in
    c.count.ensures ∙ ready-count s.clock s.until s.standings.items s.finished.items s.waiting s.ready s.dues s.joins c.self.invariant ∙ ap (λ (a : Agenda). length (actors (config_of a))) c.self.view_is
