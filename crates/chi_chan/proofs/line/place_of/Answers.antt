use Rattle.std.proofs.Common.{◌+◌, ◌-◌, ◌/◌, ap, ◌∙◌, arith}
use Rattle.chi_chan.specs.Lined.{code}
use Rattle.chi_chan.proofs.Lining.{ascends-order, placed}
use Rattle.chi_chan.proofs.line.place_of.Goals as goal

pub loop-low-preserved-then-code-key : goal.loop-low-preserved-then-code-key
loop-low-preserved-then-code-key c =
    let i = c.loop-low.invariant in
    let t = c.loop-low-test.true in
    let w = i.within in
    let e = c.code.ensures ∙ ap code c.party_at.ensures in
    let less = c.if-code-key.true in
    let xs = c.args.parties.now.items in
    let middle = c.loop-low.low + (c.loop-low.high - c.loop-low.low) / 2 in
    record {
      order = omega (arith, t);
      within = w;
      before = λ j h. let o = ascends-order 0 xs c.requires j middle (omega (arith, h)) (omega (arith, t, w)) in omega (arith, o, e, less);
      after = i.after;
    }

pub loop-low-preserved : goal.loop-low-preserved
loop-low-preserved c =
    let i = c.loop-low.invariant in
    let t = c.loop-low-test.true in
    let w = i.within in
    let e = c.code.ensures ∙ ap code c.party_at.ensures in
    let more = c.if-code-key.false in
    let xs = c.args.parties.now.items in
    let middle = c.loop-low.low + (c.loop-low.high - c.loop-low.low) / 2 in
    record {
      order = omega (arith, t);
      within = omega (arith, t, w);
      before = i.before;
      after = λ j h l. let o = ascends-order 0 xs c.requires middle j h l in omega (arith, o, e, more);
    }

pub returns-clause-place : goal.returns-clause-place
returns-clause-place c =
    let i = c.loop-low.invariant in
    let o = i.order in
    let w = i.within in
    let t = c.loop-low-test.false in
    placed c.args.parties.now.items c.args.key c.loop-low.low (omega (arith, o, w)) i.before (λ j h l. i.after j (omega (arith, h, t)) l)
