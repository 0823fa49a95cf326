use Rattle.std.proofs.Common.{◌≡◌, ◌<◌, ℕ, List, length, sym, ◌∙◌, ap, subst}
use Rattle.std.specs.Prelude.{slice_get}
use Rattle.chi_core.specs.Options.{actors}
use Rattle.chi_order.specs.Marked.{members}
use Rattle.chi_machine_agenda.specs.Phases.{Agenda}
use Rattle.chi_machine_agenda.specs.Reading.{config_of}
use Rattle.chi_machine_agenda.proofs.Options.{ready-actors}
use Rattle.chi_machine_agenda.proofs.agenda.Agenda.actor_at.Goals as goal

pub ready_at-requires-clause-rank : goal.ready_at-requires-clause-rank
ready_at-requires-clause-rank c =
    let s = c.self.inside in
    let same : members s.ready ≡ actors (config_of c.args.self.now) = ready-actors s.clock s.until s.standings.items s.finished.items s.waiting s.ready s.dues s.joins c.self.invariant ∙ ap (λ (a : Agenda). actors (config_of a)) c.self.view_is in
    subst (λ (l : List ℕ). c.args.i < length l) (sym same) c.requires

pub returns : goal.returns
returns c =
    let s = c.self.inside in
    let same : members s.ready ≡ actors (config_of c.args.self.now) = ready-actors s.clock s.until s.standings.items s.finished.items s.waiting s.ready s.dues s.joins c.self.invariant ∙ ap (λ (a : Agenda). actors (config_of a)) c.self.view_is in
    ap (λ (l : List ℕ). slice_get l c.args.i) (sym same) ∙ c.ready_at.ensures
