use Rattle.std.proofs.Common.{List, sym, ◌∙◌, ap, subst, refl, arith}
use Rattle.std.specs.List.{slice_get}
use Rattle.chi_machine_agenda.specs.declared.standing.Standing.{Standing}
use Rattle.chi_machine_agenda.specs.declared.standing.Standing.TheVariants as stands
use Rattle.chi_machine_agenda.specs.Joined.{numbers_at}
use Rattle.chi_machine_agenda.specs.Kept.{phases_from, IsKept}
use Rattle.chi_machine_agenda.specs.Phases.{Agenda, Phase, Running, IsJoining, with_phase}
use Rattle.chi_machine_agenda.proofs.Lists.{got-within}
use Rattle.chi_machine_agenda.proofs.Phases.{phase-joins, phases-set}
use Rattle.chi_machine_agenda.proofs.Following.{kept-freed}
use Rattle.chi_machine_agenda.proofs.agenda.Agenda.end_join.Goals as goal

pub end_join-requires-clause-ready : goal.end_join-requires-clause-ready
end_join-requires-clause-ready c =
    let s = c.self.inside in
    let waits = phase-joins s.standings.items s.waiting s.joins.numbers c.args.pid (subst (λ (a : Agenda). IsJoining (slice_get a.phases c.args.pid)) (sym c.self.view_is) c.requires) in
    let w = got-within s.standings.items c.args.pid stands.Joining waits in
    let r = c.self.invariant.room.ready in
    omega (arith, w, r)

pub end_join-requires-clause-left : goal.end_join-requires-clause-left
end_join-requires-clause-left c =
    let s = c.self.inside in
    let waits = phase-joins s.standings.items s.waiting s.joins.numbers c.args.pid (subst (λ (a : Agenda). IsJoining (slice_get a.phases c.args.pid)) (sym c.self.view_is) c.requires) in
    let w = got-within s.standings.items c.args.pid stands.Joining waits in
    let r = c.self.invariant.room.left in
    omega (arith, w, r)

pub stand-requires : goal.stand-requires
stand-requires c =
    let s = c.self.inside in
    let waits = phase-joins s.standings.items s.waiting s.joins.numbers c.args.pid (subst (λ (a : Agenda). IsJoining (slice_get a.phases c.args.pid)) (sym c.self.view_is) c.requires) in
    got-within s.standings.items c.args.pid stands.Joining waits

pub invariant_of-self : goal.invariant_of-self
invariant_of-self c =
    let s = c.self.inside in
    let waits = phase-joins s.standings.items s.waiting s.joins.numbers c.args.pid (subst (λ (a : Agenda). IsJoining (slice_get a.phases c.args.pid)) (sym c.self.view_is) c.requires) in
    subst (λ (ss : List Standing). IsKept s.clock ss s.finished.items s.waiting c.end_join.new.ready s.dues c.end_join.new.joins.numbers c.end_join.new.joins.left.items c.end_join.new.joins.watchers) (sym c.stand.ensures)
    (kept-freed s.clock s.standings.items s.finished.items s.waiting s.ready s.dues s.joins c.self.invariant c.args.pid c.end_join.new.joins c.end_join.new.ready waits c.end_join.ensures.ready c.end_join.ensures.left c.end_join.ensures.numbers c.end_join.ensures.watchers)

pub returns : goal.returns
returns c =
    let s = c.self.inside in
    let waits = phase-joins s.standings.items s.waiting s.joins.numbers c.args.pid (subst (λ (a : Agenda). IsJoining (slice_get a.phases c.args.pid)) (sym c.self.view_is) c.requires) in
    let set = phases-set s.standings.items s.waiting s.waiting s.joins.numbers c.end_join.new.joins.numbers c.args.pid stands.Running Running
    (got-within s.standings.items c.args.pid stands.Joining waits) refl (λ q n. refl) (λ q n. ap (λ l. numbers_at l q) c.end_join.ensures.numbers) in
    (λ j. record { clock = s.clock; until = s.until; phases = phases_from 0 (c.stand.ensures j) s.waiting c.end_join.new.joins.numbers })
    ∙ ap (λ (ps : List Phase). record { clock = s.clock; until = s.until; phases = ps }) set
    ∙ ap (λ (a : Agenda). with_phase a c.args.pid Running) c.self.view_is
