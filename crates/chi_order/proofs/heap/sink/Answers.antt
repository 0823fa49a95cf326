use Rattle.std.proofs.Common.{suc, length, ◌∙◌, subst, rules, arith}
use Rattle.chi_order.specs.Heaped.{Before}
use Rattle.chi_order.proofs.Sifting.{last-one, sink-next, sinks, pow-less, stays-over, none-under}
use Rattle.chi_order.proofs.heap.sink.Goals as goal

pub returns-then-not-is_before-clause-filled : goal.returns-then-not-is_before-clause-filled
returns-then-not-is_before-clause-filled g c =
    let i = c.loop-at.invariant in
    let l = c.lesser-child.ensures in
    let e = l.either in
    last-one c.args.due c.args.dues.now.items c.args.places.now.items c.loop-at.dues.items c.loop-at.places.items c.loop-at.at i.moving i.apart
    c.stand.new.dues.items c.stand.new.places.items c.stand.ensures.dues c.stand.ensures.places
    (stays-over c.loop-at.dues.items c.loop-at.at c.args.due i.moving.hole.within i.apart c.lesser-child.result l.within e.0 e.1 l.first l.second
    (subst (Before c.args.due) c.due_at-below.ensures (c.is_before.ensures.no (search rules))))
    i.under

pub returns-then-not-is_before-clause-cost : goal.returns-then-not-is_before-clause-cost
returns-then-not-is_before-clause-cost g c k less =
    let m = c.loop-at.invariant.cost in
    let w = c.loop-at.invariant.moving.hole.within in
    let n = c.loop-at.invariant.moving.same_length in
    let p = m.1 in
    let l = pow-less m.0 k (length c.args.dues.now.items) (omega (arith, p, w, n)) less in
    let s = m.2 in
    let t = c.tick.ensures in
    let u = c.lesser-child.ensures.cost in omega (arith, l, s, t, u)

pub loop-at-preserved : goal.loop-at-preserved
loop-at-preserved g c =
    let i = c.loop-at.invariant in
    let l = c.lesser-child.ensures in
    let e = l.either in
    let n = sink-next c.args.due c.args.dues.now.items c.args.places.now.items c.loop-at.dues.items c.loop-at.places.items c.loop-at.at i.moving i.apart
    c.due_at-below.result c.stand-in-loop-at.new.dues.items c.stand-in-loop-at.new.places.items c.stand-in-loop-at.ensures.dues c.stand-in-loop-at.ensures.places
    c.lesser-child.result c.due_at-below.ensures l.within e.0 e.1 l.first l.second i.under (c.is_before.ensures.yes (search rules)) in
    let m = i.cost in
    let s = m.2 in
    let t = c.tick.ensures in
    let u = l.cost in
    record {
      moving = n.0;
      apart = n.1;
      under = n.2;
      capacity = c.stand-in-loop-at.ensures.capacity ∙ i.capacity;
      cost = (suc m.0, sinks m.0 c.loop-at.at c.lesser-child.result 0 m.1 e.0, omega (arith, s, t, u));
    }

pub returns-clause-filled : goal.returns-clause-filled
returns-clause-filled g c =
    let i = c.loop-at.invariant in
    let past = c.loop-at-test.false in
    let n = c.size.ensures in
    last-one c.args.due c.args.dues.now.items c.args.places.now.items c.loop-at.dues.items c.loop-at.places.items c.loop-at.at i.moving i.apart
    c.stand-2.new.dues.items c.stand-2.new.places.items c.stand-2.ensures.dues c.stand-2.ensures.places
    (none-under c.loop-at.dues.items c.loop-at.at c.args.due i.moving.hole.within i.apart (omega (arith, past, n)))
    i.under

pub returns-clause-cost : goal.returns-clause-cost
returns-clause-cost g c k less =
    let m = c.loop-at.invariant.cost in
    let w = c.loop-at.invariant.moving.hole.within in
    let n = c.loop-at.invariant.moving.same_length in
    let p = m.1 in
    let l = pow-less m.0 k (length c.args.dues.now.items) (omega (arith, p, w, n)) less in
    let s = m.2 in omega (arith, l, s)
