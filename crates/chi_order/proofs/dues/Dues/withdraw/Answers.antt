use Rattle.std.proofs.Common.{◌≡◌, ◌≢◌, ℤ, List, Option, None, ap, sym, ◌∙◌, subst, arith}
use Rattle.std.specs.Prelude.{slice_set}
use Rattle.std.specs.Vec.{vec_capacity}
use Rattle.chi_order.specs.declared.heap.TheConstants.{NOWHERE}
use Rattle.chi_order.specs.Heaped.{place, IsDues}
use Rattle.chi_order.proofs.Dating.{few, found, found-due, take-times, take-dues, set-none, room-of-dues, heap-within}
use Rattle.chi_order.proofs.dues.Dues.withdraw.Goals as goal

pub take_out-requires-clause-few : goal.take_out-requires-clause-few
take_out-requires-clause-few g c = few c.self.inside.dues.items c.self.inside.places.items (vec_capacity c.self.inside.dues) c.self.invariant

pub take_out-requires-clause-room : goal.take_out-requires-clause-room
take_out-requires-clause-room g c =
    let e = c.place_of-at.ensures in
    let f = found c.self.inside.dues.items c.self.inside.places.items (vec_capacity c.self.inside.dues) c.self.invariant c.args.number (λ n. c.if-at.true (e ∙ n)) in f.0

pub take_out-requires-clause-some : goal.take_out-requires-clause-some
take_out-requires-clause-some g c =
    let e = c.place_of-at.ensures in
    let f = found c.self.inside.dues.items c.self.inside.places.items (vec_capacity c.self.inside.dues) c.self.invariant c.args.number (λ n. c.if-at.true (e ∙ n)) in
    let a = f.1 in omega (arith, a, e)

pub invariant_of-self : goal.invariant_of-self
invariant_of-self g c =
    let e = c.place_of-at.ensures in
    let z : place c.self.inside.places.items c.args.number ≢ NOWHERE = λ n. c.if-at.true (e ∙ n) in
    let f = found c.self.inside.dues.items c.self.inside.places.items (vec_capacity c.self.inside.dues) c.self.invariant c.args.number z in
    let d = found-due c.self.inside.dues.items c.self.inside.places.items (vec_capacity c.self.inside.dues) c.self.invariant c.args.number z in
    subst (IsDues c.take_out.new.dues.items c.take_out.new.places.items) (sym c.take_out.ensures.capacity)
    (take-dues c.self.inside.dues.items c.self.inside.places.items (vec_capacity c.self.inside.dues) c.self.invariant c.args.number f.0 d.0 d.1 c.take_out.new.dues.items c.take_out.new.places.items c.take_out.ensures.taken)

pub returns-then-at-clause-taken : goal.returns-then-at-clause-taken
returns-then-at-clause-taken g c =
    let e = c.place_of-at.ensures in
    let z : place c.self.inside.places.items c.args.number ≢ NOWHERE = λ n. c.if-at.true (e ∙ n) in
    let f = found c.self.inside.dues.items c.self.inside.places.items (vec_capacity c.self.inside.dues) c.self.invariant c.args.number z in
    let d = found-due c.self.inside.dues.items c.self.inside.places.items (vec_capacity c.self.inside.dues) c.self.invariant c.args.number z in
    take-times c.self.inside.dues.items c.self.inside.places.items (vec_capacity c.self.inside.dues) c.self.invariant c.args.number f.0 d.0 d.1 c.take_out.new.dues.items c.take_out.new.places.items c.take_out.ensures.taken
    ∙ ap (λ (ts : List (Option ℤ)). slice_set ts c.args.number None) c.self.view_is

pub returns-then-at-clause-cost : goal.returns-then-at-clause-cost
returns-then-at-clause-cost g c k less =
    let l = room-of-dues c.self.inside.dues.items c.self.inside.places.items c.args.self.now c.self.view_is in
    let w = heap-within c.self.inside.dues.items c.self.inside.places.items (vec_capacity c.self.inside.dues) c.self.invariant in
    c.take_out.ensures.cost k (omega (arith, l, w, less))

pub returns-else-at-clause-taken : goal.returns-else-at-clause-taken
returns-else-at-clause-taken g c =
    subst (λ (ts : List (Option ℤ)). ts ≡ slice_set ts c.args.number None) c.self.view_is
    (sym (set-none c.self.inside.dues.items c.self.inside.places.items (vec_capacity c.self.inside.dues) c.self.invariant c.args.number (sym c.place_of-at.ensures ∙ c.if-at.false)))
