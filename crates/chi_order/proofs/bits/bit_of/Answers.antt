use Rattle.std.proofs.Common.{◌≡◌, ◌%◌, ◌^◌, ◌/◌, ◌<◌, ◌≤◌, ℕ, ◌+◌, suc, ap, ◌∙◌, subst, arith}
use Rattle.std.specs.Int.Count.{ones as count_ones}
use Rattle.std.proofs.lemmas.Nat.{pow_pos}
use Rattle.chi_order.proofs.Words.{ones-bit, halved, bit-found}
use Rattle.chi_order.proofs.bits.bit_of.Goals as goal

pub loop-width-init : goal.loop-width-init
loop-width-init g c = record {
  before =
      let m : c.args.word % 2 ^ 0 ≡ 0 = omega arith in
      let z : count_ones (c.args.word % 2 ^ 0) ≡ 0 = ap count_ones m ∙ ones-bit 0 (omega arith) in omega (arith, z);
  after =
      let n = c.ranges.word.fits in
      let m : c.args.word % 2 ^ 64 ≡ c.args.word = omega (arith, n) in
      let o : count_ones (c.args.word % 2 ^ 64) ≡ count_ones c.args.word = ap count_ones m in
      let r = c.requires in omega (arith, o, r);
  power = (6, omega arith, omega arith);
  within = omega arith;
}

pub loop-width-preserved-then-low_bits-rank : goal.loop-width-preserved-then-low_bits-rank
loop-width-preserved-then-low_bits-rank g c =
    let low = c.loop-width.low in
    let i = c.loop-width.invariant in
    let p = i.power in
    let h = halved p.0 c.loop-width.width p.1 c.loop-width-test.true in
    let twice = h.3 in
    let steps = p.2 in
    let w = i.within in
    let tick = c.tick-in-loop-width.ensures in
    record {
      before = subst (λ (n : ℕ). count_ones n ≤ c.args.rank) c.low_bits.ensures c.if-low_bits-rank.true;
      after = subst (λ (n : ℕ). c.args.rank < count_ones (c.args.word % 2 ^ n)) (let half : low + c.loop-width.width ≡ low + c.loop-width.width / 2 + c.loop-width.width / 2 = omega (arith, twice) in half) i.after;
      power = (h.0, h.2, let e = h.1 in omega (arith, e, steps, tick));
      within = omega (arith, twice, w);
    }

pub loop-width-preserved : goal.loop-width-preserved
loop-width-preserved g c =
    let i = c.loop-width.invariant in
    let p = i.power in
    let h = halved p.0 c.loop-width.width p.1 c.loop-width-test.true in
    let twice = h.3 in
    let steps = p.2 in
    let w = i.within in
    let tick = c.tick-in-loop-width.ensures in
    record {
      before = i.before;
      after = subst (λ (n : ℕ). c.args.rank < count_ones n) c.low_bits.ensures c.if-low_bits-rank.false;
      power = (h.0, h.2, let e = h.1 in omega (arith, e, steps, tick));
      within = omega (arith, twice, w);
    }

pub returns-clause-set : goal.returns-clause-set
returns-clause-set g c =
    let i = c.loop-width.invariant in
    let p = i.power in
    let two = pow_pos p.0 in
    let e = p.1 in
    let less = c.loop-width-test.false in
    let after = subst (λ (n : ℕ). c.args.rank < count_ones (c.args.word % 2 ^ n)) (let one : c.loop-width.low + c.loop-width.width ≡ suc c.loop-width.low = omega (arith, two, e, less) in one) i.after in
    let found = bit-found c.args.word c.loop-width.low c.args.rank i.before after in found.0

pub returns-clause-before : goal.returns-clause-before
returns-clause-before g c =
    let i = c.loop-width.invariant in
    let p = i.power in
    let two = pow_pos p.0 in
    let e = p.1 in
    let less = c.loop-width-test.false in
    let after = subst (λ (n : ℕ). c.args.rank < count_ones (c.args.word % 2 ^ n)) (let one : c.loop-width.low + c.loop-width.width ≡ suc c.loop-width.low = omega (arith, two, e, less) in one) i.after in
    let found = bit-found c.args.word c.loop-width.low c.args.rank i.before after in found.1
