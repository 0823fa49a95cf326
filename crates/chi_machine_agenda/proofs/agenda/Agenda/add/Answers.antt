use Rattle.std.proofs.Common.{◌≡◌, ◌+◌, ◌++◌, ◌∷◌, [], ℕ, suc, Bool, true, List, length, sym, ◌∙◌, ap, subst, refl, arith}
use Rattle.std.specs.Prelude.{slice_set}
use Rattle.chi_machine_agenda.specs.declared.standing.Standing.{Standing}
use Rattle.chi_machine_agenda.specs.declared.standing.Standing.TheVariants as stands
use Rattle.chi_machine_agenda.specs.Kept.{phases_from, HasRoom, IsKept}
use Rattle.chi_machine_agenda.specs.Phases.{Agenda, Phase, with_more}
use Rattle.chi_machine_agenda.proofs.Lists.{on-err}
use Rattle.chi_machine_agenda.proofs.Phases.{phases-length, phases-kept, phases-more}
use Rattle.chi_machine_agenda.proofs.More.{kept-roomier, kept-more}
use Rattle.chi_machine_agenda.proofs.agenda.Agenda.add.Goals as goal

pub make_room-requires : goal.make_room-requires
make_room-requires c =
    let s = c.self.inside in
    let v = ap (λ (a : Agenda). length a.phases) c.self.view_is in
    let l = phases-length 0 s.standings.items s.waiting s.joins.numbers in
    let e = c.count-pid.ensures in
    let r = c.requires in
    omega (arith, v, l, e, r)

pub insert-requires : goal.insert-requires
insert-requires c = let r = c.in_ok-make_room.ensures.room.ready in omega (arith, r)

pub invariant_of-self : goal.invariant_of-self
invariant_of-self c =
    let s = c.self.inside in
    kept-roomier s.clock s.standings.items s.finished.items s.waiting s.ready s.dues s.joins c.self.invariant c.make_room.new.ready c.make_room.new.dues c.make_room.new.joins c.in_err-make_room.ensures.kept

pub invariant_of-self-in_err-enlist : goal.invariant_of-self-in_err-enlist
invariant_of-self-in_err-enlist c =
    let s = c.self.inside in
    let joins = c.make_room.new.joins in
    subst (λ (ss : List Standing). IsKept s.clock ss c.enlist.new.finished.items s.waiting c.make_room.new.ready c.make_room.new.dues joins.numbers joins.left.items joins.watchers)
    (sym c.in_err-enlist.ensures.standings_err)
    (subst (λ (fs : List Bool). IsKept s.clock s.standings.items fs s.waiting c.make_room.new.ready c.make_room.new.dues joins.numbers joins.left.items joins.watchers)
    (sym c.in_err-enlist.ensures.finished_err) (kept-roomier s.clock s.standings.items s.finished.items s.waiting s.ready s.dues s.joins c.self.invariant c.make_room.new.ready c.make_room.new.dues c.make_room.new.joins c.make_room.ensures.kept))

pub invariant_of-self-2 : goal.invariant_of-self-2
invariant_of-self-2 c =
    let s = c.self.inside in
    let joins = c.make_room.new.joins in
    let e = c.count-pid.ensures in
    let one : c.count-pid.result + 1 ≡ suc (length s.standings.items) = omega (arith, e) in
    let room = subst (λ (n : ℕ). HasRoom n c.make_room.new.ready c.make_room.new.dues joins.numbers joins.left.items joins.watchers) one c.in_ok-make_room.ensures.room in
    subst (λ (ss : List Standing). IsKept s.clock ss c.enlist.new.finished.items s.waiting c.insert.new.self c.make_room.new.dues joins.numbers joins.left.items joins.watchers)
    (sym c.in_ok-enlist.ensures.standings)
    (subst (λ (fs : List Bool). IsKept s.clock (s.standings.items ++ stands.Running ∷ []) fs s.waiting c.insert.new.self c.make_room.new.dues joins.numbers joins.left.items joins.watchers)
    (sym c.in_ok-enlist.ensures.finished)
    (kept-more s.clock s.standings.items s.finished.items s.waiting c.make_room.new.ready c.make_room.new.dues joins (kept-roomier s.clock s.standings.items s.finished.items s.waiting s.ready s.dues s.joins c.self.invariant c.make_room.new.ready c.make_room.new.dues c.make_room.new.joins c.make_room.ensures.kept)
    c.insert.new.self room (c.insert.ensures ∙ ap (λ (n : ℕ). slice_set c.make_room.new.ready n true) e)))

pub returns-clause-ok : goal.returns-clause-ok
returns-clause-ok c =
    let s = c.self.inside in
    let joins = c.make_room.new.joins in
    (λ j. record { clock = s.clock; until = s.until; phases = phases_from 0 (c.in_ok-enlist.ensures.standings j) s.waiting joins.numbers })
    ∙ ap (λ (ps : List Phase). record { clock = s.clock; until = s.until; phases = ps }) (phases-more s.standings.items s.waiting s.joins.numbers joins.numbers c.make_room.ensures.kept.joins.numbers)
    ∙ ap with_more c.self.view_is

pub returns-in_err-make_room-clause-err : goal.returns-in_err-make_room-clause-err
returns-in_err-make_room-clause-err c =
    let s = c.self.inside in
    let joins = c.make_room.new.joins in
    on-err c.from_residual.result _
    (ap (λ (ps : List Phase). record { clock = s.clock; until = s.until; phases = ps })
    (phases-kept s.standings.items s.waiting s.waiting s.joins.numbers joins.numbers (λ q. refl) c.make_room.ensures.kept.joins.numbers) ∙ c.self.view_is)

pub returns-in_err-enlist-clause-err : goal.returns-in_err-enlist-clause-err
returns-in_err-enlist-clause-err c =
    let s = c.self.inside in
    let joins = c.make_room.new.joins in
    on-err c.from_residual-in_err-enlist.result _
    ((λ j. record { clock = s.clock; until = s.until; phases = phases_from 0 (c.in_err-enlist.ensures.standings_err j) s.waiting joins.numbers })
    ∙ ap (λ (ps : List Phase). record { clock = s.clock; until = s.until; phases = ps })
    (phases-kept s.standings.items s.waiting s.waiting s.joins.numbers joins.numbers (λ q. refl) c.make_room.ensures.kept.joins.numbers) ∙ c.self.view_is)
