use Rattle.std.proofs.Common.{◌<◌, ℤ, List, Option, length, sym, ◌∙◌, subst, rules, arith}
use Rattle.std.proofs.lemmas.Int.{to_z-of_z}
use mir.Val.{SFits}
use mir.Syntax.{w64}
use Rattle.chi_order.specs.declared.heap.Due.{Due}
use Rattle.chi_order.specs.Dated.{IsLeast, NoneDue}
use Rattle.chi_order.specs.Heaped.{times}
use Rattle.chi_order.proofs.Dating.{is-least, none-due}
use Rattle.std.specs.Vec.{vec_capacity}
use Rattle.chi_order.proofs.dues.Dues.least.Goals as goal

pub returns : goal.returns
returns c =
    let z = c.if-size-eq0.false in
    let n = c.size.ensures in
    let some : 0 < length c.self.inside.dues.items = omega (arith, z, n) in
    let f : SFits w64 c.due_at-due.result.time = search rules in
    subst (λ (t : ℤ). IsLeast c.args.self.now t c.due_at-due.result.number) (sym (to_z-of_z w64 c.due_at-due.result.time f))
    (subst (λ (ts : List (Option ℤ)). IsLeast ts c.due_at-due.result.time c.due_at-due.result.number) c.self.view_is
    (subst (λ (d : Due). IsLeast (times c.self.inside.dues.items c.self.inside.places.items) d.time d.number) (sym c.due_at-due.ensures)
    (is-least c.self.inside.dues.items c.self.inside.places.items (vec_capacity c.self.inside.dues) c.self.invariant some)))

pub returns-then-size-eq0 : goal.returns-then-size-eq0
returns-then-size-eq0 c =
    subst (λ (ts : List (Option ℤ)). NoneDue ts) c.self.view_is
    (none-due c.self.inside.dues.items c.self.inside.places.items (vec_capacity c.self.inside.dues) c.self.invariant (sym c.size.ensures ∙ c.if-size-eq0.true))
