use Rattle.std.proofs.Common.{◌≡◌, ℕ, ◌<◌, ℤ, List, [], ◌∷◌, ◌++◌, Option, None, Some, length, ap, sym, ◌∙◌, subst, arith, length-append}
use Rattle.std.specs.Prelude.{slice_set}
use Rattle.std.specs.Vec.{vec_capacity}
use Rattle.std.proofs.lemmas.Int.{to_z-of_z}
use mir.Val.{to_z, of_z}
use mir.Syntax.{w64}
use Rattle.chi_order.specs.declared.heap.Due.{Due}
use Rattle.chi_order.specs.Dated.{due_of}
use Rattle.chi_order.specs.Heaped.{times, IsDues, Hole, Apart, Over, Fills}
use Rattle.chi_order.proofs.Dating.{room-left, put-hole, put-apart, put-over, put-times, put-dues, room-of-dues}
use Rattle.chi_order.proofs.dues.Dues.put.Goals as goal

abbrev made : ℤ → ℕ → Due
made due x = record { time = to_z w64 (of_z w64 due); number = x }

pub push_reserved-requires : goal.push_reserved-requires
push_reserved-requires g c =
    let l = room-of-dues c.self.inside.dues.items c.self.inside.places.items c.args.self.now c.self.view_is in
    let r = c.requires.room in
    let left = room-left c.self.inside.dues.items c.self.inside.places.items (vec_capacity c.self.inside.dues) c.self.invariant c.args.number (omega (arith, l, r))
    (ap (λ (ts : List (Option ℤ)). due_of ts c.args.number) c.self.view_is ∙ c.requires.none) in
    let room = c.self.invariant.room in omega (arith, left, room)

pub rise-requires-clause-hole : goal.rise-requires-clause-hole
rise-requires-clause-hole g c =
    let l = room-of-dues c.self.inside.dues.items c.self.inside.places.items c.args.self.now c.self.view_is in
    let r = c.requires.room in
    let h : c.args.number < length c.self.inside.places.items = omega (arith, l, r) in
    let none : due_of (times c.self.inside.dues.items c.self.inside.places.items) c.args.number ≡ None
    = ap (λ (ts : List (Option ℤ)). due_of ts c.args.number) c.self.view_is ∙ c.requires.none in
    subst (λ (ds : List Due). Hole ds c.self.inside.places.items c.size-at.result c.args.number) (sym c.push_reserved.ensures.items)
    (subst (λ (n : ℕ). Hole (c.self.inside.dues.items ++ made c.args.due c.args.number ∷ []) c.self.inside.places.items n c.args.number) (sym c.size-at.ensures)
    (put-hole c.self.inside.dues.items c.self.inside.places.items (vec_capacity c.self.inside.dues) c.self.invariant (made c.args.due c.args.number) h none))

pub rise-requires-clause-apart : goal.rise-requires-clause-apart
rise-requires-clause-apart g c =
    let l = room-of-dues c.self.inside.dues.items c.self.inside.places.items c.args.self.now c.self.view_is in
    let r = c.requires.room in
    let h : c.args.number < length c.self.inside.places.items = omega (arith, l, r) in
    let none : due_of (times c.self.inside.dues.items c.self.inside.places.items) c.args.number ≡ None
    = ap (λ (ts : List (Option ℤ)). due_of ts c.args.number) c.self.view_is ∙ c.requires.none in
    subst (λ (ds : List Due). Apart ds c.size-at.result) (sym c.push_reserved.ensures.items)
    (subst (λ (n : ℕ). Apart (c.self.inside.dues.items ++ made c.args.due c.args.number ∷ []) n) (sym c.size-at.ensures)
    (put-apart c.self.inside.dues.items c.self.inside.places.items (vec_capacity c.self.inside.dues) c.self.invariant (made c.args.due c.args.number) h none))

pub rise-requires-clause-over : goal.rise-requires-clause-over
rise-requires-clause-over g c =
    let l = room-of-dues c.self.inside.dues.items c.self.inside.places.items c.args.self.now c.self.view_is in
    let r = c.requires.room in
    let h : c.args.number < length c.self.inside.places.items = omega (arith, l, r) in
    let none : due_of (times c.self.inside.dues.items c.self.inside.places.items) c.args.number ≡ None
    = ap (λ (ts : List (Option ℤ)). due_of ts c.args.number) c.self.view_is ∙ c.requires.none in
    subst (λ (ds : List Due). Over ds c.size-at.result (made c.args.due c.args.number)) (sym c.push_reserved.ensures.items)
    (subst (λ (n : ℕ). Over (c.self.inside.dues.items ++ made c.args.due c.args.number ∷ []) n (made c.args.due c.args.number)) (sym c.size-at.ensures)
    (put-over c.self.inside.dues.items c.self.inside.places.items (vec_capacity c.self.inside.dues) c.self.invariant (made c.args.due c.args.number) h none))

pub invariant_of-self : goal.invariant_of-self
invariant_of-self g c =
    let l = room-of-dues c.self.inside.dues.items c.self.inside.places.items c.args.self.now c.self.view_is in
    let r = c.requires.room in
    let h : c.args.number < length c.self.inside.places.items = omega (arith, l, r) in
    let none : due_of (times c.self.inside.dues.items c.self.inside.places.items) c.args.number ≡ None
    = ap (λ (ts : List (Option ℤ)). due_of ts c.args.number) c.self.view_is ∙ c.requires.none in
    let f = subst (λ (ds : List Due). Fills (made c.args.due c.args.number) ds c.self.inside.places.items c.rise.new.dues.items c.rise.new.places.items) c.push_reserved.ensures.items c.rise.ensures.filled in
    subst (IsDues c.rise.new.dues.items c.rise.new.places.items) (sym (c.rise.ensures.capacity ∙ c.push_reserved.ensures.capacity))
    (put-dues c.self.inside.dues.items c.self.inside.places.items (vec_capacity c.self.inside.dues) c.self.invariant (made c.args.due c.args.number) h none c.rise.new.dues.items c.rise.new.places.items f)

pub returns-clause-put : goal.returns-clause-put
returns-clause-put g c =
    let l = room-of-dues c.self.inside.dues.items c.self.inside.places.items c.args.self.now c.self.view_is in
    let r = c.requires.room in
    let h : c.args.number < length c.self.inside.places.items = omega (arith, l, r) in
    let none : due_of (times c.self.inside.dues.items c.self.inside.places.items) c.args.number ≡ None
    = ap (λ (ts : List (Option ℤ)). due_of ts c.args.number) c.self.view_is ∙ c.requires.none in
    let f = subst (λ (ds : List Due). Fills (made c.args.due c.args.number) ds c.self.inside.places.items c.rise.new.dues.items c.rise.new.places.items) c.push_reserved.ensures.items c.rise.ensures.filled in
    put-times c.self.inside.dues.items c.self.inside.places.items (vec_capacity c.self.inside.dues) c.self.invariant (made c.args.due c.args.number) h none c.rise.new.dues.items c.rise.new.places.items f
    ∙ ap (λ (ts : List (Option ℤ)). slice_set ts c.args.number (Some (to_z w64 (of_z w64 c.args.due)))) c.self.view_is
    ∙ ap (λ (t : ℤ). slice_set c.args.self.now c.args.number (Some t)) (to_z-of_z w64 c.args.due c.ranges.due)

pub returns-clause-cost : goal.returns-clause-cost
returns-clause-cost g c k less =
    let l = room-of-dues c.self.inside.dues.items c.self.inside.places.items c.args.self.now c.self.view_is in
    let r = c.requires.room in
    let h : c.args.number < length c.self.inside.places.items = omega (arith, l, r) in
    let none : due_of (times c.self.inside.dues.items c.self.inside.places.items) c.args.number ≡ None
    = ap (λ (ts : List (Option ℤ)). due_of ts c.args.number) c.self.view_is ∙ c.requires.none in
    let left = room-left c.self.inside.dues.items c.self.inside.places.items (vec_capacity c.self.inside.dues) c.self.invariant c.args.number h none in
    let n = ap (λ (ds : List Due). length ds) c.push_reserved.ensures.items in
    let more = length-append c.self.inside.dues.items (made c.args.due c.args.number ∷ []) in
    let cost = c.rise.ensures.cost k (omega (arith, left, n, more, l, less)) in omega (arith, cost)
