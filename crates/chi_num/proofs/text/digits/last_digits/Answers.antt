use Rattle.std.proofs.Common.{◌∙◌, ◌^◌, refl, ap}
use Rattle.chi_num.proofs.Decimal.{last_digits_more}
use Rattle.chi_num.proofs.text.digits.last_digits.Goals as goal

pub loop-place-preserved : goal.loop-place-preserved
loop-place-preserved c =
    last_digits_more _ _ _ _ c.pow.result _ c.loop-place-test.true (c.pow.ensures ∙ ap (λ n. 10 ^ n) c.into.ensures) refl c.in_ok-push.ensures.items
    ∙ c.loop-place.invariant
