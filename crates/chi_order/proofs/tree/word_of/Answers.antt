use Rattle.std.proofs.Common.{◌≡◌, ◌<◌, ◌+◌, ◌*◌, ◌/◌, ℕ, subst, arith}
use Rattle.chi_order.specs.Counted.{below}
use Rattle.chi_order.proofs.Trees.{quarter, started, down-stands}
use Rattle.chi_order.proofs.tree.word_of.Goals as goal

pub loop-span-init : goal.loop-span-init
loop-span-init g c =
    started c.args.words.now.items c.args.rank c.size-span.result c.args.steps.now c.size-span.ensures c.requires.counted.whole c.requires.some

pub child_of-branch-requires-clause-power : goal.child_of-branch-requires-clause-power
child_of-branch-requires-clause-power g c =
    let p = c.loop-span.invariant.power in
    let q = quarter p.0 c.loop-span.span p.1 c.loop-span-test.true in (q.0, q.2)

pub child_of-branch-requires-clause-stands : goal.child_of-branch-requires-clause-stands
child_of-branch-requires-clause-stands g c =
    let p = c.loop-span.invariant.power in
    down-stands c.args.words.now.items c.args.rank p.0 c.loop-span.span c.loop-span.branch.node c.loop-span.branch.start c.loop-span.branch.seen p.1 c.loop-span-test.true c.loop-span.invariant.stands

pub child_of-branch-requires-clause-after : goal.child_of-branch-requires-clause-after
child_of-branch-requires-clause-after g c =
    let p = c.loop-span.invariant.power in
    let q = quarter p.0 c.loop-span.span p.1 c.loop-span-test.true in
    let a = q.2 in
    let b = q.3 in
    subst (λ (n : ℕ). c.args.rank < below c.args.words.now.items (64 * (c.loop-span.branch.start + n)))
    (let e : c.loop-span.span ≡ 4 * (c.loop-span.span / 4) = omega (arith, a, b) in e) c.loop-span.invariant.after

pub loop-span-preserved : goal.loop-span-preserved
loop-span-preserved g c =
    let p = c.loop-span.invariant.power in
    let q = quarter p.0 c.loop-span.span p.1 c.loop-span-test.true in record {
      stands = c.child_of-branch.ensures.stands;
      within = c.child_of-branch.ensures.within;
      after = c.child_of-branch.ensures.after;
      power = (q.0, q.2, λ m e. let old = p.2 m e in let s = q.1 in let cost = c.child_of-branch.ensures.cost in omega (arith, old, s, cost));
    }
