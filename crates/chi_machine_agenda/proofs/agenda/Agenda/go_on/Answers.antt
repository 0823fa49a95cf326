use Rattle.std.proofs.Common.{ℤ, List, sym, ◌∙◌, ap, subst, refl, rules}
use Rattle.std.proofs.lemmas.Int.{to_z-of_z}
use mir.Val.{SFits}
use mir.Syntax.{w64}
use Rattle.std.specs.List.{slice_get}
use Rattle.chi_machine_agenda.specs.declared.standing.Standing.{Standing}
use Rattle.chi_machine_agenda.specs.declared.standing.Standing.TheVariants as stands
use Rattle.chi_machine_agenda.specs.Kept.{phases_from, IsKept}
use Rattle.chi_machine_agenda.specs.Meeting.{Goes}
use Rattle.chi_machine_agenda.specs.Phases.{Agenda, Phase, Running, with_phase}
use Rattle.chi_machine_agenda.proofs.Lists.{got-within}
use Rattle.chi_machine_agenda.proofs.Phases.{phase-waits, phases-set}
use Rattle.chi_machine_agenda.proofs.Seats.{kept-seats, kept-went}
use Rattle.chi_machine_agenda.proofs.agenda.Agenda.go_on.Goals as goal

pub go-requires-clause-waits : goal.go-requires-clause-waits
go-requires-clause-waits c =
    let s = c.self.inside in
    (phase-waits s.standings.items s.waiting s.joins.numbers c.args.pid c.args.offers.now (c.self.invariant.seated c.args.pid)
    (ap (λ (a : Agenda). slice_get a.phases c.args.pid) c.self.view_is ∙ c.requires)).1

pub go-requires-clause-seats : goal.go-requires-clause-seats
go-requires-clause-seats c =
    let s = c.self.inside in
    let f = phase-waits s.standings.items s.waiting s.joins.numbers c.args.pid c.args.offers.now (c.self.invariant.seated c.args.pid)
    (ap (λ (a : Agenda). slice_get a.phases c.args.pid) c.self.view_is ∙ c.requires) in
    kept-seats s.clock s.standings.items s.finished.items s.waiting s.ready s.dues s.joins.numbers s.joins.left.items s.joins.watchers c.self.invariant c.args.pid stands.Waiting f.0

pub stand-requires : goal.stand-requires
stand-requires c =
    let s = c.self.inside in
    let f = phase-waits s.standings.items s.waiting s.joins.numbers c.args.pid c.args.offers.now (c.self.invariant.seated c.args.pid)
    (ap (λ (a : Agenda). slice_get a.phases c.args.pid) c.self.view_is ∙ c.requires) in
    got-within s.standings.items c.args.pid stands.Waiting f.0

pub invariant_of-self : goal.invariant_of-self
invariant_of-self c =
    let s = c.self.inside in
    let f = phase-waits s.standings.items s.waiting s.joins.numbers c.args.pid c.args.offers.now (c.self.invariant.seated c.args.pid)
    (ap (λ (a : Agenda). slice_get a.phases c.args.pid) c.self.view_is ∙ c.requires) in
    let fits : SFits w64 s.clock = search rules in
    subst (λ (ss : List Standing). IsKept s.clock ss s.finished.items c.go.new.waiting c.go.new.ready c.go.new.dues s.joins.numbers s.joins.left.items s.joins.watchers) (sym c.stand.ensures)
    (kept-went s.clock s.standings.items s.finished.items s.waiting s.ready s.dues s.joins.numbers s.joins.left.items s.joins.watchers c.self.invariant
    c.args.pid c.args.offers.now c.go.new.waiting c.go.new.ready c.go.new.dues f.0 f.1
    (subst (λ (t : ℤ). Goes t c.args.pid c.args.offers.now s.waiting s.ready s.dues c.go.new.waiting c.go.new.ready c.go.new.dues) (to_z-of_z w64 s.clock fits) c.go.ensures))

pub returns : goal.returns
returns c =
    let s = c.self.inside in
    let f = phase-waits s.standings.items s.waiting s.joins.numbers c.args.pid c.args.offers.now (c.self.invariant.seated c.args.pid)
    (ap (λ (a : Agenda). slice_get a.phases c.args.pid) c.self.view_is ∙ c.requires) in
    let set = phases-set s.standings.items s.waiting c.go.new.waiting s.joins.numbers s.joins.numbers c.args.pid stands.Running Running
    (got-within s.standings.items c.args.pid stands.Waiting f.0) refl c.go.ensures.waits.others (λ q n. refl) in
    (λ j. record { clock = s.clock; until = s.until; phases = phases_from 0 (c.stand.ensures j) c.go.new.waiting s.joins.numbers })
    ∙ ap (λ (ps : List Phase). record { clock = s.clock; until = s.until; phases = ps }) set
    ∙ ap (λ (a : Agenda). with_phase a c.args.pid Running) c.self.view_is
