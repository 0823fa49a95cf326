use Rattle.std.proofs.Common.{sym, ◌∙◌, ap}
use Rattle.chi_machine_agenda.specs.Phases.{Agenda, are_over}
use Rattle.chi_machine_agenda.proofs.Phases.{phases-over}
use Rattle.chi_machine_agenda.proofs.agenda.Agenda.finished.Goals as goal

pub returns : goal.returns
returns c =
    let s = c.self.inside in
    c.as_slice.ensures.value ∙ c.self.invariant.over ∙ sym (phases-over 0 s.standings.items s.waiting s.joins.numbers) ∙ ap (λ (a : Agenda). are_over a.phases) c.self.view_is
