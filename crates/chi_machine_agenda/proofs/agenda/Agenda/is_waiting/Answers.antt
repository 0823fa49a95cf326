use Rattle.std.proofs.Common.{None, Some, sym, ◌∙◌, ap}
use Rattle.std.specs.List.{slice_get}
use Rattle.chi_machine_agenda.specs.Phases.{Agenda, waits}
use Rattle.chi_machine_agenda.proofs.Phases.{phase-is_waiting}
use Rattle.chi_machine_agenda.proofs.agenda.Agenda.is_waiting.Goals as goal

pub returns-in-Some : goal.returns-in-Some
returns-in-Some c =
    let s = c.self.inside in
    c.is_waiting.ensures ∙ sym (phase-is_waiting s.standings.items s.waiting s.joins.numbers c.args.pid (Some c.in-Some.standing) (sym c.standing_at.ensures ∙ c.in-Some.is))
    ∙ ap (λ (a : Agenda). waits (slice_get a.phases c.args.pid)) c.self.view_is

pub returns-in-None : goal.returns-in-None
returns-in-None c =
    let s = c.self.inside in
    sym (phase-is_waiting s.standings.items s.waiting s.joins.numbers c.args.pid None (sym c.standing_at.ensures ∙ c.in-None.is))
    ∙ ap (λ (a : Agenda). waits (slice_get a.phases c.args.pid)) c.self.view_is
