use Rattle.std.proofs.Common.{List, sym, ◌∙◌, ap, subst, refl, arith}
use Rattle.std.specs.List.{slice_get}
use Rattle.chi_machine_agenda.specs.declared.standing.Standing.{Standing}
use Rattle.chi_machine_agenda.specs.declared.standing.Standing.TheVariants as stands
use Rattle.chi_machine_agenda.specs.Joined.{numbers_at}
use Rattle.chi_machine_agenda.specs.Kept.{phases_from, IsKept}
use Rattle.chi_machine_agenda.specs.Phases.{Agenda, Phase, Finished, with_phase}
use Rattle.chi_machine_agenda.proofs.Lists.{got-within, on-err}
use Rattle.chi_machine_agenda.proofs.Phases.{phase-runs, phases-set}
use Rattle.chi_machine_agenda.proofs.Following.{kept-ahead, kept-roomy, ended-is, ended-length, kept-ended, kept-stays}
use Rattle.chi_machine_agenda.proofs.agenda.Agenda.finish.Goals as goal

pub finish-requires-clause-ahead : goal.finish-requires-clause-ahead
finish-requires-clause-ahead c =
    let s = c.self.inside in
    kept-ahead s.clock s.standings.items s.finished.items s.waiting s.ready s.dues s.joins c.self.invariant

pub finish-requires-clause-room : goal.finish-requires-clause-room
finish-requires-clause-room c =
    let s = c.self.inside in
    kept-roomy s.clock s.standings.items s.finished.items s.waiting s.ready s.dues s.joins c.self.invariant

pub finish-requires-clause-ready : goal.finish-requires-clause-ready
finish-requires-clause-ready c =
    let s = c.self.inside in
    let runs = phase-runs s.standings.items s.waiting s.joins.numbers c.args.pid (ap (λ (a : Agenda). slice_get a.phases c.args.pid) c.self.view_is ∙ c.requires) in
    let w = got-within s.standings.items c.args.pid stands.Running runs in
    let r = c.self.invariant.room.ready in
    omega (arith, w, r)

pub finish-requires-clause-finished : goal.finish-requires-clause-finished
finish-requires-clause-finished c =
    let s = c.self.inside in
    let runs = phase-runs s.standings.items s.waiting s.joins.numbers c.args.pid (ap (λ (a : Agenda). slice_get a.phases c.args.pid) c.self.view_is ∙ c.requires) in
    let w = got-within s.standings.items c.args.pid stands.Running runs in
    let l = ended-length s.clock s.standings.items s.finished.items s.waiting s.ready s.dues s.joins c.self.invariant in
    omega (arith, w, l)

pub finish-requires-clause-runs : goal.finish-requires-clause-runs
finish-requires-clause-runs c =
    let s = c.self.inside in
    let runs = phase-runs s.standings.items s.waiting s.joins.numbers c.args.pid (ap (λ (a : Agenda). slice_get a.phases c.args.pid) c.self.view_is ∙ c.requires) in
    ended-is s.clock s.standings.items s.finished.items s.waiting s.ready s.dues s.joins c.self.invariant c.args.pid stands.Running runs

pub finish-requires-clause-watchers : goal.finish-requires-clause-watchers
finish-requires-clause-watchers c =
    let s = c.self.inside in
    let runs = phase-runs s.standings.items s.waiting s.joins.numbers c.args.pid (ap (λ (a : Agenda). slice_get a.phases c.args.pid) c.self.view_is ∙ c.requires) in
    let w = got-within s.standings.items c.args.pid stands.Running runs in
    let r = c.self.invariant.room.watchers in
    omega (arith, w, r)

pub stand-requires : goal.stand-requires
stand-requires c =
    let s = c.self.inside in
    got-within s.standings.items c.args.pid stands.Running (phase-runs s.standings.items s.waiting s.joins.numbers c.args.pid (ap (λ (a : Agenda). slice_get a.phases c.args.pid) c.self.view_is ∙ c.requires))

pub invariant_of-self : goal.invariant_of-self
invariant_of-self c =
    let s = c.self.inside in
    let runs = phase-runs s.standings.items s.waiting s.joins.numbers c.args.pid (ap (λ (a : Agenda). slice_get a.phases c.args.pid) c.self.view_is ∙ c.requires) in
    kept-stays s.clock s.standings.items s.finished.items s.waiting s.ready s.dues s.joins c.self.invariant c.args.pid runs c.finish.new.finished.items c.finish.new.ready c.finish.new.joins c.in_err-finish.ensures.err

pub invariant_of-self-2 : goal.invariant_of-self-2
invariant_of-self-2 c =
    let s = c.self.inside in
    let runs = phase-runs s.standings.items s.waiting s.joins.numbers c.args.pid (ap (λ (a : Agenda). slice_get a.phases c.args.pid) c.self.view_is ∙ c.requires) in
    subst (λ (ss : List Standing). IsKept s.clock ss c.finish.new.finished.items s.waiting c.finish.new.ready s.dues c.finish.new.joins.numbers c.finish.new.joins.left.items c.finish.new.joins.watchers) (sym c.stand.ensures)
    (kept-ended s.clock s.standings.items s.finished.items s.waiting s.ready s.dues s.joins c.self.invariant c.args.pid runs c.finish.new.finished.items c.finish.new.ready c.finish.new.joins c.in_ok-finish.ensures.ok)

pub returns-clause-ok : goal.returns-clause-ok
returns-clause-ok c =
    let s = c.self.inside in
    let runs = phase-runs s.standings.items s.waiting s.joins.numbers c.args.pid (ap (λ (a : Agenda). slice_get a.phases c.args.pid) c.self.view_is ∙ c.requires) in
    let b = c.in_ok-finish.ensures.ok.numbers in
    let set = phases-set s.standings.items s.waiting s.waiting s.joins.numbers c.finish.new.joins.numbers c.args.pid stands.Finished Finished
    (got-within s.standings.items c.args.pid stands.Running runs) refl (λ q n. refl) (λ q n. ap (λ l. numbers_at l q) b) in
    (λ j. record { clock = s.clock; until = s.until; phases = phases_from 0 (c.stand.ensures j) s.waiting c.finish.new.joins.numbers })
    ∙ ap (λ (ps : List Phase). record { clock = s.clock; until = s.until; phases = ps }) set
    ∙ ap (λ (a : Agenda). with_phase a c.args.pid Finished) c.self.view_is

pub returns-in_err-finish-clause-err : goal.returns-in_err-finish-clause-err
returns-in_err-finish-clause-err c =
    let s = c.self.inside in
    let f = c.in_err-finish.ensures.err in
    on-err c.from_residual.result _
    ((λ j. record { clock = s.clock; until = s.until; phases = phases_from 0 s.standings.items s.waiting (f.numbers j) }) ∙ c.self.view_is)
