use Rattle.std.proofs.Common.{◌≡◌, [], ℤ, ◌∙◌, ap, sym, rules}
use Rattle.std.proofs.lemmas.Int.{to_z-of_z}
use Rattle.std.specs.List.{list_all}
use mir.Val.{SFits}
use mir.Syntax.{w64}
use Rattle.chi_core.specs.declared.verdict.Verdict.TheVariants.{Completed}
use Rattle.chi_core.specs.Options.{actors, at_rest}
use Rattle.chi_machine_agenda.specs.Kept.{phases_from}
use Rattle.chi_machine_agenda.specs.Phases.{Agenda}
use Rattle.chi_machine_agenda.specs.Reading.{config_of}
use Rattle.chi_machine_agenda.proofs.Options.{its, none-goes}
use Rattle.chi_machine_agenda.proofs.Due.{next-is}
use Rattle.chi_machine_agenda.proofs.Endings.{over-all, rests-over, rests-stopped}
use Rattle.chi_machine_agenda.proofs.agenda.Agenda.at_rest.Goals as goal

pub returns-then-are_all : goal.returns-then-are_all
returns-then-are_all c =
    let s = c.self.inside in
    let fits : SFits w64 s.clock = search rules in
    rests-over (its s.clock s.until s.standings.items s.finished.items s.waiting s.ready s.dues s.joins c.self.invariant) c.of.result c.are_all.result
    (over-all s.waiting s.joins.numbers s.standings.items s.finished.items c.self.invariant.over ∙ sym (c.are_all.ensures ∙ ap (list_all (λ b. b)) c.as_slice.ensures.value)) c.if-are_all.true
    (c.of.ensures ∙ ap (λ (t : ℤ). record { verdict = Completed; clock = t }) (to_z-of_z w64 s.clock fits))
    ∙ ap (λ (a : Agenda). at_rest (config_of a)) c.self.view_is

pub returns : goal.returns
returns c =
    let s = c.self.inside in
    let fits : SFits w64 s.clock = search rules in
    let none : actors (config_of (record { clock = s.clock; until = s.until; phases = phases_from 0 s.standings.items s.waiting s.joins.numbers })) ≡ [] =
    ap (λ (a : Agenda). actors (config_of a)) c.self.view_is ∙ c.requires in
    rests-stopped (its s.clock s.until s.standings.items s.finished.items s.waiting s.ready s.dues s.joins c.self.invariant) c.stopped_at.result c.are_all.result c.least_due.result
    (over-all s.waiting s.joins.numbers s.standings.items s.finished.items c.self.invariant.over ∙ sym (c.are_all.ensures ∙ ap (list_all (λ b. b)) c.as_slice.ensures.value)) c.if-are_all.false
    (next-is s.clock s.until s.standings.items s.finished.items s.waiting s.ready s.dues s.joins c.self.invariant (none-goes s.clock s.until s.standings.items s.finished.items s.waiting s.ready s.dues s.joins c.self.invariant none) c.least_due.result c.least_due.ensures)
    (c.stopped_at.ensures (its s.clock s.until s.standings.items s.finished.items s.waiting s.ready s.dues s.joins c.self.invariant) (sym (to_z-of_z w64 s.clock fits)))
    ∙ ap (λ (a : Agenda). at_rest (config_of a)) c.self.view_is
