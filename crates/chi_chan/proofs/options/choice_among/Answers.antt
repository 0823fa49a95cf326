use Rattle.std.proofs.Common.{◌≡◌, ◌+◌, ◌-◌, ℤ, List, Some, length, get_or, drop, sym, ◌∙◌, ap, subst, arith}
use Rattle.std.proofs.lemmas.Int.{to_z-of_z}
use mir.Val.{to_z, of_z}
use mir.Syntax.{w64}
use Rattle.std.specs.List.{slice_get}
use Rattle.chi_chan.specs.declared.offers.Offer.TheVariants.{Send}
use Rattle.chi_chan.specs.declared.offers.Choice.{Choice}
use Rattle.chi_chan.specs.Kept.{choices_by, choices_from}
use Rattle.chi_chan.proofs.Scanning.{next-choices, next-length, slice-left, slice-right}
use Rattle.chi_chan.proofs.options.choice_among.Goals as goal

pub choice_by-requires-clause-some : goal.choice_by-requires-clause-some
choice_by-requires-clause-some c =
    let e = c.count_by-count.ensures.count c.loop-number.number in
    let l = c.if-i-seen.true in (to_z w64 (of_z w64 c.args.clock), omega (arith, e, l))

pub returns-then-i-seen : goal.returns-then-i-seen
returns-then-i-seen c =
    let k = to_z w64 (of_z w64 c.args.clock) in
    let i = c.loop-number.invariant in
    let h = c.loop-number-test.true in
    let e = c.count_by-count.ensures.count c.loop-number.number in
    let l = c.if-i-seen.true in
    subst (λ (t : ℤ). slice_get (choices_from c.args.receivers.now t c.args.pid 0 c.args.offers.now) c.args.i ≡ Some c.choice_by.result) (to_z-of_z w64 c.args.clock c.ranges.clock)
    (sym i.same ∙ ap (λ (cs : List Choice). slice_get cs (c.args.i - c.loop-number.seen)) (next-choices c.args.receivers.now k c.args.pid c.args.offers.now c.loop-number.number (Send 0) h)
    ∙ slice-left _ _ (c.args.i - c.loop-number.seen) (omega (arith, e, l))
    ∙ c.choice_by.ensures k (omega (arith, e, l)))

pub loop-number-preserved : goal.loop-number-preserved
loop-number-preserved c =
    let k = to_z w64 (of_z w64 c.args.clock) in
    let i = c.loop-number.invariant in
    let h = c.loop-number-test.true in
    let n = next-length c.args.receivers.now k c.args.pid c.args.offers.now c.loop-number.number (Send 0) h in
    let e = c.count_by-count.ensures.count c.loop-number.number in
    let g = c.if-i-seen.false in
    let t = i.total in
    let s = i.seen in
    let by = choices_by c.args.receivers.now k c.args.pid c.loop-number.number (get_or c.args.offers.now c.loop-number.number (Send 0)) in
    let rest = choices_from c.args.receivers.now k c.args.pid (c.loop-number.number + 1) (drop (c.loop-number.number + 1) c.args.offers.now) in
    let z : c.args.i - c.loop-number.seen - length by ≡ c.args.i - (c.loop-number.seen + c.count_by-count.result) = omega (arith, e) in
    record {
      total = omega (arith, n, e, t);
      seen = omega (arith, s, g);
      same =
          ap (slice_get rest) (sym z)
          ∙ sym (slice-right by rest (c.args.i - c.loop-number.seen) (omega (arith, e, g)))
          ∙ ap (λ (cs : List Choice). slice_get cs (c.args.i - c.loop-number.seen)) (sym (next-choices c.args.receivers.now k c.args.pid c.args.offers.now c.loop-number.number (Send 0) h))
          ∙ i.same;
    }
