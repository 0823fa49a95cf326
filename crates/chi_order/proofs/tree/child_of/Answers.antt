use Rattle.std.proofs.Common.{arith}
use Rattle.chi_order.proofs.Trees.{turn-within, node-within, stands-on, stands-here}
use Rattle.chi_order.proofs.Words.{read}
use Rattle.chi_order.proofs.tree.child_of.Goals as goal

pub index-here-requires : goal.index-here-requires
index-here-requires g c =
    let i = c.loop-turn.invariant in
    let w = turn-within _ c.args.span c.args.branch.start c.loop-turn.branch.start c.loop-turn._turn i.start c.loop-turn-test.true c.requires.within in
    let n = node-within c.args.words.now.items _ c.args.counts.now.items c.requires.counted c.args.rank c.args.span c.loop-turn.branch.node c.loop-turn.branch.start c.loop-turn.branch.seen c.requires.power i.stands i.inner w in omega (arith, n)

pub returns-then-rank-branch-clause-within : goal.returns-then-rank-branch-clause-within
returns-then-rank-branch-clause-within g c =
    let i = c.loop-turn.invariant in
    turn-within _ c.args.span c.args.branch.start c.loop-turn.branch.start c.loop-turn._turn i.start c.loop-turn-test.true c.requires.within

pub returns-then-rank-branch-clause-after : goal.returns-then-rank-branch-clause-after
returns-then-rank-branch-clause-after g c =
    let i = c.loop-turn.invariant in
    let w = turn-within _ c.args.span c.args.branch.start c.loop-turn.branch.start c.loop-turn._turn i.start c.loop-turn-test.true c.requires.within in
    stands-here c.args.words.now.items _ c.args.counts.now.items c.requires.counted c.args.rank c.args.span c.loop-turn.branch.node c.loop-turn.branch.start c.loop-turn.branch.seen c.requires.power i.stands i.inner w
    c.index-here.result.now (read c.args.counts.now.items c.loop-turn.branch.node c.index-here.result.now c.index-here.ensures (node-within c.args.words.now.items _ c.args.counts.now.items c.requires.counted c.args.rank c.args.span c.loop-turn.branch.node c.loop-turn.branch.start c.loop-turn.branch.seen c.requires.power i.stands i.inner w)) c.if-rank-branch.true

pub loop-turn-preserved : goal.loop-turn-preserved
loop-turn-preserved g c =
    let i = c.loop-turn.invariant in
    let s = i.start in
    let inner = i.inner in
    let cost = i.cost in
    let tick = c.tick.ensures in
    let w = turn-within _ c.args.span c.args.branch.start c.loop-turn.branch.start c.loop-turn._turn i.start c.loop-turn-test.true c.requires.within in
    record {
      stands = stands-on c.args.words.now.items _ c.args.counts.now.items c.requires.counted c.args.rank c.args.span c.loop-turn.branch.node c.loop-turn.branch.start c.loop-turn.branch.seen c.requires.power i.stands i.inner w c.index-here.result.now (read c.args.counts.now.items c.loop-turn.branch.node c.index-here.result.now c.index-here.ensures (node-within c.args.words.now.items _ c.args.counts.now.items c.requires.counted c.args.rank c.args.span c.loop-turn.branch.node c.loop-turn.branch.start c.loop-turn.branch.seen c.requires.power i.stands i.inner w)) c.if-rank-branch.false;
      inner = omega (arith, inner);
      start = omega (arith, s);
      cost = omega (arith, cost, tick);
    }
