use Rattle.std.proofs.Common.{ℕ, suc, ◌+◌, ap, ◌∙◌, arith}
use Rattle.chi_order.specs.Counted.{weight}
use Rattle.chi_order.proofs.Trees.{over-node, over-within, over-next, recounting-next, recounted-all}
use Rattle.chi_order.proofs.Words.{read}
use Rattle.chi_order.proofs.tree.recount.Goals as goal

pub moved-requires-clause-more : goal.moved-requires-clause-more
moved-requires-clause-more c =
    let r = c.loop-span.invariant.0 in
    let o = c.loop-span.invariant.1 in
    let n = over-node c.args.words c.args.place c.args.up o.0 o.1 c.loop-span.span c.loop-span.node o.2 o.3 c.loop-span-test.true c.requires.place in
    let at = read c.loop-span.counts.items c.loop-span.node c.index.result.now c.index.ensures (let w = over-within c.args.words c.args.place c.args.up o.0 o.1 c.loop-span.span c.loop-span.node o.2 o.3 c.loop-span-test.true c.requires.place in let l = r.same_length in let l' = c.requires.nodes in omega (arith, w, l, l')) in
    let same = r.same o.0 c.loop-span.node o.2 n (let p = o.3.power in omega (arith, p)) in
    let few = c.requires.more o.0 c.loop-span.node o.2 n in omega (arith, same, few, at)

pub moved-requires-clause-less : goal.moved-requires-clause-less
moved-requires-clause-less c =
    let r = c.loop-span.invariant.0 in
    let o = c.loop-span.invariant.1 in
    let n = over-node c.args.words c.args.place c.args.up o.0 o.1 c.loop-span.span c.loop-span.node o.2 o.3 c.loop-span-test.true c.requires.place in
    let p = o.3.power in
    let at = read c.loop-span.counts.items c.loop-span.node c.index.result.now c.index.ensures (let w = over-within c.args.words c.args.place c.args.up o.0 o.1 c.loop-span.span c.loop-span.node o.2 o.3 c.loop-span-test.true c.requires.place in let l = r.same_length in let l' = c.requires.nodes in omega (arith, w, l, l')) in
    let same = r.same o.0 c.loop-span.node o.2 n (omega (arith, p)) in
    let first = o.3.first in
    let last = o.3.last in
    let some = c.requires.less o.0 c.loop-span.node o.2 n first (omega (arith, last, p)) in omega (arith, same, some, at)

pub loop-span-preserved : goal.loop-span-preserved
loop-span-preserved c =
    let r = c.loop-span.invariant.0 in
    let o = c.loop-span.invariant.1 in
    let at = read c.loop-span.counts.items c.loop-span.node c.index.result.now c.index.ensures (let w = over-within c.args.words c.args.place c.args.up o.0 o.1 c.loop-span.span c.loop-span.node o.2 o.3 c.loop-span-test.true c.requires.place in let l = r.same_length in let l' = c.requires.nodes in omega (arith, w, l, l')) in
    let next = over-next c.args.words c.args.place c.args.up o.0 o.1 c.loop-span.span c.loop-span.node o.2 o.3 c.loop-span-test.true in (
      recounting-next c.args.words c.args.place c.args.up o.0 o.1 c.loop-span.span c.loop-span.node o.2 o.3 c.loop-span-test.true
          c.args.counts.now.items c.loop-span.counts.items c.moved.result r c.requires.place c.requires.nodes (c.moved.ensures ∙ ap (λ (n : ℕ). n + weight c.args.up) at),
      (suc o.0, next.0, next.1, next.2),
    )

pub returns : goal.returns
returns c =
    recounted-all c.args.words c.args.place c.args.up c.args.counts.now.items c.loop-span.counts.items c.loop-span.span c.loop-span.invariant.0 c.loop-span-test.false
