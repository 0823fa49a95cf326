use Rattle.std.proofs.Common.{suc, length, ◌∙◌, subst, rules, arith}
use Rattle.chi_order.specs.declared.heap.Due.{Due}
use Rattle.chi_order.specs.Heaped.{Before}
use Rattle.chi_order.proofs.Sifting.{last-one, rise-next, climbs, climbed}
use Rattle.chi_order.proofs.heap.rise.Goals as goal

pub returns-then-not-is_before-clause-filled : goal.returns-then-not-is_before-clause-filled
returns-then-not-is_before-clause-filled g c =
    let i = c.loop-at.invariant in
    last-one c.args.due c.args.dues.now.items c.args.places.now.items c.loop-at.dues.items c.loop-at.places.items c.loop-at.at i.moving i.apart
    c.stand.new.dues.items c.stand.new.places.items c.stand.ensures.dues c.stand.ensures.places i.over
    (λ some. subst (λ (d : Due). Before d c.args.due) c.due_at-above.ensures (c.is_before.ensures.no (search rules)))

pub returns-then-not-is_before-clause-cost : goal.returns-then-not-is_before-clause-cost
returns-then-not-is_before-clause-cost g c k less =
    let m = c.loop-at.invariant.cost in
    let l = climbed m.0 c.loop-at.at (length c.args.dues.now.items) k m.1 less in
    let s = m.2 in
    let t = c.tick.ensures in omega (arith, l, s, t)

pub loop-at-preserved : goal.loop-at-preserved
loop-at-preserved g c =
    let i = c.loop-at.invariant in
    let some = c.loop-at-test.true in
    let n = rise-next c.args.due c.args.dues.now.items c.args.places.now.items c.loop-at.dues.items c.loop-at.places.items c.loop-at.at i.moving i.apart
    c.due_at-above.result c.stand-in-loop-at.new.dues.items c.stand-in-loop-at.new.places.items c.stand-in-loop-at.ensures.dues c.stand-in-loop-at.ensures.places
    c.due_at-above.ensures some i.over (c.is_before.ensures.yes (search rules)) in
    let m = i.cost in
    let s = m.2 in
    let t = c.tick.ensures in
    record {
      moving = n.0;
      apart = n.1;
      over = n.2;
      capacity = c.stand-in-loop-at.ensures.capacity ∙ i.capacity;
      cost = (suc m.0, climbs m.0 c.loop-at.at (length c.args.dues.now.items) m.1 some, omega (arith, s, t));
    }

pub returns-clause-filled : goal.returns-clause-filled
returns-clause-filled g c =
    let i = c.loop-at.invariant in
    last-one c.args.due c.args.dues.now.items c.args.places.now.items c.loop-at.dues.items c.loop-at.places.items c.loop-at.at i.moving i.apart
    c.stand-2.new.dues.items c.stand-2.new.places.items c.stand-2.ensures.dues c.stand-2.ensures.places i.over
    (λ some. absurd (let z = c.loop-at-test.false in omega (arith, z, some)))

pub returns-clause-cost : goal.returns-clause-cost
returns-clause-cost g c k less =
    let m = c.loop-at.invariant.cost in
    let l = climbed m.0 c.loop-at.at (length c.args.dues.now.items) k m.1 less in
    let s = m.2 in omega (arith, l, s)
