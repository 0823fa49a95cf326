use Rattle.std.proofs.Common.{◌≡◌, [], ◌∙◌, ap}
use Rattle.chi_core.specs.Meeting.{next_due}
use Rattle.chi_core.specs.Options.{actors}
use Rattle.chi_machine_agenda.specs.Kept.{phases_from}
use Rattle.chi_machine_agenda.specs.Phases.{Agenda, reached}
use Rattle.chi_machine_agenda.specs.Reading.{config_of}
use Rattle.chi_machine_agenda.proofs.Options.{none-goes}
use Rattle.chi_machine_agenda.proofs.Due.{due-room, kept-moved, moved-to}
use Rattle.chi_machine_agenda.proofs.agenda.Agenda.advance.Goals as goal

pub go_to_next-requires : goal.go_to_next-requires
go_to_next-requires c = let s = c.self.inside in due-room s.clock s.until s.standings.items s.finished.items s.waiting s.ready s.dues s.joins c.self.invariant

pub invariant_of-self : goal.invariant_of-self
invariant_of-self c =
    let s = c.self.inside in
    let none : actors (config_of (record { clock = s.clock; until = s.until; phases = phases_from 0 s.standings.items s.waiting s.joins.numbers })) ≡ [] =
    ap (λ (a : Agenda). actors (config_of a)) c.self.view_is ∙ c.requires in
    kept-moved s.clock s.until s.standings.items s.finished.items s.waiting s.ready s.dues s.joins c.self.invariant (none-goes s.clock s.until s.standings.items s.finished.items s.waiting s.ready s.dues s.joins c.self.invariant none) c.go_to_next.new.clock c.go_to_next.new.ready c.go_to_next.new.dues c.go_to_next.ensures

pub returns : goal.returns
returns c =
    let s = c.self.inside in
    let none : actors (config_of (record { clock = s.clock; until = s.until; phases = phases_from 0 s.standings.items s.waiting s.joins.numbers })) ≡ [] =
    ap (λ (a : Agenda). actors (config_of a)) c.self.view_is ∙ c.requires in
    moved-to s.clock s.until s.standings.items s.finished.items s.waiting s.ready s.dues s.joins c.self.invariant (none-goes s.clock s.until s.standings.items s.finished.items s.waiting s.ready s.dues s.joins c.self.invariant none) c.go_to_next.new.clock c.go_to_next.new.ready c.go_to_next.new.dues c.go_to_next.ensures
    ∙ ap (λ (a : Agenda). reached a (next_due (config_of a))) c.self.view_is
