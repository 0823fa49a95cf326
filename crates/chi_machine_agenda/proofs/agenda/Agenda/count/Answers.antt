use Rattle.std.proofs.Common.{length, sym, ◌∙◌, ap}
use Rattle.chi_machine_agenda.specs.Phases.{Agenda}
use Rattle.chi_machine_agenda.proofs.Phases.{phases-length}
use Rattle.chi_machine_agenda.proofs.agenda.Agenda.count.Goals as goal

pub returns : goal.returns
returns c =
    let s = c.self.inside in
    c.count.ensures ∙ sym (phases-length 0 s.standings.items s.waiting s.joins.numbers) ∙ ap (λ (a : Agenda). length a.phases) c.self.view_is
