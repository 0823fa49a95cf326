use Rattle.std.proofs.Common.{◌≡◌, ℤ, List, Option, None, sym, ◌∙◌, ap, subst, refl, rules}
use Rattle.std.proofs.lemmas.Int.{to_z-of_z}
use mir.Val.{SFits}
use mir.Syntax.{w64}
use Rattle.std.specs.List.{slice_get}
use Rattle.chi_chan.specs.declared.offers.Offer.{Offer}
use Rattle.chi_chan.specs.Held.{held}
use Rattle.chi_chan.specs.Kept.{offers_or}
use Rattle.chi_order.specs.Dated.{due_of}
use Rattle.chi_machine_agenda.specs.declared.standing.Standing.{Standing}
use Rattle.chi_machine_agenda.specs.declared.standing.Standing.TheVariants as stands
use Rattle.chi_machine_agenda.specs.Kept.{phases_from, IsKept}
use Rattle.chi_machine_agenda.specs.Meeting.{Comes}
use Rattle.chi_machine_agenda.specs.Phases.{Agenda, Phase, Waiting, with_phase}
use Rattle.chi_machine_agenda.specs.Timed.{Awaits}
use Rattle.chi_machine_agenda.proofs.Lists.{got-within, on-err}
use Rattle.chi_machine_agenda.proofs.Phases.{phase-runs, phases-set, phases-kept}
use Rattle.chi_machine_agenda.proofs.Seats.{kept-seats, none-held, kept-came, kept-refused}
use Rattle.chi_machine_agenda.proofs.Times.{none-awaited}
use Rattle.chi_machine_agenda.proofs.agenda.Agenda.wait.Goals as goal

pub come-requires-clause-absent : goal.come-requires-clause-absent
come-requires-clause-absent c =
    let s = c.self.inside in
    let runs = phase-runs s.standings.items s.waiting s.joins.numbers c.args.pid (ap (λ (a : Agenda). slice_get a.phases c.args.pid) c.self.view_is ∙ c.requires.runs) in
    none-held s.clock s.standings.items s.finished.items s.waiting s.ready s.dues s.joins.numbers s.joins.left.items s.joins.watchers c.self.invariant c.args.pid stands.Running runs

pub come-requires-clause-seats : goal.come-requires-clause-seats
come-requires-clause-seats c =
    let s = c.self.inside in
    let runs = phase-runs s.standings.items s.waiting s.joins.numbers c.args.pid (ap (λ (a : Agenda). slice_get a.phases c.args.pid) c.self.view_is ∙ c.requires.runs) in
    kept-seats s.clock s.standings.items s.finished.items s.waiting s.ready s.dues s.joins.numbers s.joins.left.items s.joins.watchers c.self.invariant c.args.pid stands.Running runs

pub come-requires-clause-none : goal.come-requires-clause-none
come-requires-clause-none c =
    let s = c.self.inside in
    let runs = phase-runs s.standings.items s.waiting s.joins.numbers c.args.pid (ap (λ (a : Agenda). slice_get a.phases c.args.pid) c.self.view_is ∙ c.requires.runs) in
    let none : held s.waiting c.args.pid ≡ None =
    none-held s.clock s.standings.items s.finished.items s.waiting s.ready s.dues s.joins.numbers s.joins.left.items s.joins.watchers c.self.invariant c.args.pid stands.Running runs in
    none-awaited s.clock (due_of s.dues c.args.pid) (subst (λ (w : Option (List Offer)). Awaits s.clock w (due_of s.dues c.args.pid)) none (c.self.invariant.due c.args.pid))

pub stand-requires : goal.stand-requires
stand-requires c =
    let s = c.self.inside in
    got-within s.standings.items c.args.pid stands.Running
    (phase-runs s.standings.items s.waiting s.joins.numbers c.args.pid (ap (λ (a : Agenda). slice_get a.phases c.args.pid) c.self.view_is ∙ c.requires.runs))

pub invariant_of-self : goal.invariant_of-self
invariant_of-self c =
    let s = c.self.inside in
    kept-refused s.clock s.standings.items s.finished.items s.waiting s.ready s.dues s.joins.numbers s.joins.left.items s.joins.watchers c.self.invariant
    c.come.new.waiting c.come.new.ready c.come.new.dues c.in_err-come.ensures.err

pub invariant_of-self-2 : goal.invariant_of-self-2
invariant_of-self-2 c =
    let s = c.self.inside in
    let runs = phase-runs s.standings.items s.waiting s.joins.numbers c.args.pid (ap (λ (a : Agenda). slice_get a.phases c.args.pid) c.self.view_is ∙ c.requires.runs) in
    let fits : SFits w64 s.clock = search rules in
    subst (λ (ss : List Standing). IsKept s.clock ss s.finished.items c.come.new.waiting c.come.new.ready c.come.new.dues s.joins.numbers s.joins.left.items s.joins.watchers) (sym c.stand.ensures)
    (kept-came s.clock s.standings.items s.finished.items s.waiting s.ready s.dues s.joins.numbers s.joins.left.items s.joins.watchers c.self.invariant
    c.args.pid c.args.offers.now c.come.new.waiting c.come.new.ready c.come.new.dues runs
    (subst (λ (t : ℤ). Comes t c.args.pid c.args.offers.now s.waiting s.ready s.dues c.come.new.waiting c.come.new.ready c.come.new.dues) (to_z-of_z w64 s.clock fits) c.in_ok-come.ensures.ok))

pub returns-clause-ok : goal.returns-clause-ok
returns-clause-ok c =
    let s = c.self.inside in
    let runs = phase-runs s.standings.items s.waiting s.joins.numbers c.args.pid (ap (λ (a : Agenda). slice_get a.phases c.args.pid) c.self.view_is ∙ c.requires.runs) in
    let u = c.in_ok-come.ensures.ok.waits in
    let set = phases-set s.standings.items s.waiting c.come.new.waiting s.joins.numbers s.joins.numbers c.args.pid stands.Waiting (Waiting c.args.offers.now)
    (got-within s.standings.items c.args.pid stands.Running runs) (ap (λ (w : Option (List Offer)). Waiting (offers_or w)) u.changed) u.others (λ q n. refl) in
    (λ j. record { clock = s.clock; until = s.until; phases = phases_from 0 (c.stand.ensures j) c.come.new.waiting s.joins.numbers })
    ∙ ap (λ (ps : List Phase). record { clock = s.clock; until = s.until; phases = ps }) set
    ∙ ap (λ (a : Agenda). with_phase a c.args.pid (Waiting c.args.offers.now)) c.self.view_is

pub returns-in_err-come-clause-err : goal.returns-in_err-come-clause-err
returns-in_err-come-clause-err c =
    let s = c.self.inside in
    on-err c.from_residual.result _
    (ap (λ (ps : List Phase). record { clock = s.clock; until = s.until; phases = ps })
    (phases-kept s.standings.items s.waiting c.come.new.waiting s.joins.numbers s.joins.numbers c.in_err-come.ensures.err.waits (λ q. refl)) ∙ c.self.view_is)
