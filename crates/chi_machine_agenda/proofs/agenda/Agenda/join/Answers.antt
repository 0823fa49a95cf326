use Rattle.std.proofs.Common.{◌≡◌, ℕ, List, [], length, sym, ◌∙◌, ap, subst, refl, arith}
use Rattle.std.specs.List.{slice_get}
use Rattle.chi_machine_agenda.specs.declared.standing.Standing.{Standing}
use Rattle.chi_machine_agenda.specs.declared.standing.Standing.TheVariants as stands
use Rattle.chi_machine_agenda.specs.Joined.{numbers_at}
use Rattle.chi_machine_agenda.specs.Kept.{phases_from, IsKept}
use Rattle.chi_machine_agenda.specs.Phases.{Agenda, Phase, Joining, AreThere, with_phase}
use Rattle.chi_machine_agenda.proofs.Lists.{got-within, on-err, or-there, or-other}
use Rattle.chi_machine_agenda.proofs.Phases.{phase-runs, phases-length, phases-set, phases-but}
use Rattle.chi_machine_agenda.proofs.Following.{there-more, kept-began, kept-failed}
use Rattle.chi_machine_agenda.proofs.agenda.Agenda.join.Goals as goal

pub join-requires-clause-there : goal.join-requires-clause-there
join-requires-clause-there c =
    let s = c.self.inside in
    let there : AreThere (length s.standings.items) c.args.numbers.now = subst (λ (n : ℕ). AreThere n c.args.numbers.now) (sym (ap (λ (a : Agenda). length a.phases) c.self.view_is) ∙ phases-length 0 s.standings.items s.waiting s.joins.numbers) c.requires.there in
    there-more s.clock s.standings.items s.finished.items s.waiting s.ready s.dues s.joins c.self.invariant (length s.joins.watchers) c.self.invariant.room.watchers c.args.numbers.now there

pub join-requires-clause-ready : goal.join-requires-clause-ready
join-requires-clause-ready c =
    let s = c.self.inside in
    let runs = phase-runs s.standings.items s.waiting s.joins.numbers c.args.pid (ap (λ (a : Agenda). slice_get a.phases c.args.pid) c.self.view_is ∙ c.requires.runs) in
    let w = got-within s.standings.items c.args.pid stands.Running runs in
    let r = c.self.invariant.room.ready in
    omega (arith, w, r)

pub join-requires-clause-numbers : goal.join-requires-clause-numbers
join-requires-clause-numbers c =
    let s = c.self.inside in
    let runs = phase-runs s.standings.items s.waiting s.joins.numbers c.args.pid (ap (λ (a : Agenda). slice_get a.phases c.args.pid) c.self.view_is ∙ c.requires.runs) in
    let w = got-within s.standings.items c.args.pid stands.Running runs in
    let r = c.self.invariant.room.numbers in
    omega (arith, w, r)

pub join-requires-clause-left : goal.join-requires-clause-left
join-requires-clause-left c =
    let s = c.self.inside in
    let runs = phase-runs s.standings.items s.waiting s.joins.numbers c.args.pid (ap (λ (a : Agenda). slice_get a.phases c.args.pid) c.self.view_is ∙ c.requires.runs) in
    let w = got-within s.standings.items c.args.pid stands.Running runs in
    let r = c.self.invariant.room.left in
    omega (arith, w, r)

pub stand-requires : goal.stand-requires
stand-requires c =
    let s = c.self.inside in
    got-within s.standings.items c.args.pid stands.Running (phase-runs s.standings.items s.waiting s.joins.numbers c.args.pid (ap (λ (a : Agenda). slice_get a.phases c.args.pid) c.self.view_is ∙ c.requires.runs))

pub invariant_of-self : goal.invariant_of-self
invariant_of-self c =
    let s = c.self.inside in
    let runs = phase-runs s.standings.items s.waiting s.joins.numbers c.args.pid (ap (λ (a : Agenda). slice_get a.phases c.args.pid) c.self.view_is ∙ c.requires.runs) in
    let there : AreThere (length s.standings.items) c.args.numbers.now = subst (λ (n : ℕ). AreThere n c.args.numbers.now) (sym (ap (λ (a : Agenda). length a.phases) c.self.view_is) ∙ phases-length 0 s.standings.items s.waiting s.joins.numbers) c.requires.there in
    kept-failed s.clock s.standings.items s.finished.items s.waiting s.ready s.dues s.joins c.self.invariant c.args.pid runs c.args.numbers.now c.join.new.ready c.join.new.joins there c.in_err-join.ensures.err

pub invariant_of-self-2 : goal.invariant_of-self-2
invariant_of-self-2 c =
    let s = c.self.inside in
    let runs = phase-runs s.standings.items s.waiting s.joins.numbers c.args.pid (ap (λ (a : Agenda). slice_get a.phases c.args.pid) c.self.view_is ∙ c.requires.runs) in
    let there : AreThere (length s.standings.items) c.args.numbers.now = subst (λ (n : ℕ). AreThere n c.args.numbers.now) (sym (ap (λ (a : Agenda). length a.phases) c.self.view_is) ∙ phases-length 0 s.standings.items s.waiting s.joins.numbers) c.requires.there in
    subst (λ (ss : List Standing). IsKept s.clock ss s.finished.items s.waiting c.join.new.ready s.dues c.join.new.joins.numbers c.join.new.joins.left.items c.join.new.joins.watchers) (sym c.stand.ensures)
    (kept-began s.clock s.standings.items s.finished.items s.waiting s.ready s.dues s.joins c.self.invariant c.args.pid runs c.args.numbers.now c.join.new.ready c.join.new.joins there c.in_ok-join.ensures.ok)

pub returns-clause-ok : goal.returns-clause-ok
returns-clause-ok c =
    let s = c.self.inside in
    let runs = phase-runs s.standings.items s.waiting s.joins.numbers c.args.pid (ap (λ (a : Agenda). slice_get a.phases c.args.pid) c.self.view_is ∙ c.requires.runs) in
    let w = got-within s.standings.items c.args.pid stands.Running runs in
    let room = c.self.invariant.room.numbers in
    let b = c.in_ok-join.ensures.ok.numbers in
    let row : numbers_at c.join.new.joins.numbers c.args.pid ≡ c.args.numbers.now =
    ap (λ l. numbers_at l c.args.pid) b ∙ or-there s.joins.numbers c.args.pid c.args.numbers.now [] (omega (arith, w, room)) in
    let set = phases-set s.standings.items s.waiting s.waiting s.joins.numbers c.join.new.joins.numbers c.args.pid stands.Joining (Joining c.args.numbers.now) w (ap Joining row) (λ q n. refl)
    (λ q n. ap (λ l. numbers_at l q) b ∙ or-other s.joins.numbers c.args.pid q c.args.numbers.now [] n) in
    (λ j. record { clock = s.clock; until = s.until; phases = phases_from 0 (c.stand.ensures j) s.waiting c.join.new.joins.numbers })
    ∙ ap (λ (ps : List Phase). record { clock = s.clock; until = s.until; phases = ps }) set
    ∙ ap (λ (a : Agenda). with_phase a c.args.pid (Joining c.args.numbers.now)) c.self.view_is

pub returns-in_err-join-clause-err : goal.returns-in_err-join-clause-err
returns-in_err-join-clause-err c =
    let s = c.self.inside in
    let runs = phase-runs s.standings.items s.waiting s.joins.numbers c.args.pid (ap (λ (a : Agenda). slice_get a.phases c.args.pid) c.self.view_is ∙ c.requires.runs) in
    let f = c.in_err-join.ensures.err in
    on-err c.from_residual.result _
    (ap (λ (ps : List Phase). record { clock = s.clock; until = s.until; phases = ps })
    (phases-but s.standings.items s.waiting s.joins.numbers c.join.new.joins.numbers c.args.pid runs
    (λ q n. ap (λ l. numbers_at l q) f.numbers ∙ or-other s.joins.numbers c.args.pid q f.row [] n)) ∙ c.self.view_is)
