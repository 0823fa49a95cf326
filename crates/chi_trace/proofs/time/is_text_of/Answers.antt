-- The text is cut after its sign and its whole part, and then it is the point and the decimals that tell.
use Rattle.std.proofs.Common.{◌≡◌, ◌∙◌, ◌/◌, ap, pos, int_lt, nat_abs, w64}
use Rattle.std.proofs.Math.Facts.{to_z-of_z}
use Rattle.std.specs.Fmt.{decimal}
use Rattle.chi_num.specs.Decimal.{last_digits, sign_text}
use Rattle.chi_num.specs.RealText.{trimmed}
use Rattle.chi_trace.proofs.Reading.{cut_so, no_point, is_text}
use Rattle.chi_trace.proofs.time.is_text_of.Goals as goal

pub returns-in_default-after-2 : goal.returns-in_default-after-2
returns-in_default-after-2 c =
    let size = c.unsigned_abs-size.ensures.value ∙ ap nat_abs (to_z-of_z {w = w64} c.ranges.units) in
    let whole = c.as_bytes.ensures.value ∙ c.format.ensures.text ∙ ap (λ n. decimal (n / 1_000_000_000)) size in
    let sign = c.sign_of.ensures.text ∙ ap (λ units. sign_text (int_lt units (pos 0))) (to_z-of_z {w = w64} c.ranges.units) in
    let cut = cut_so c.args.units c.args.text.now _ _ _ _ c.in-Some.ensures.rest c.in-Some-after.ensures.rest sign whole in
    record { tells = ((λ yes. absurd (cc)), (λ e. absurd (no_point c.args.units c.args.text.now _ cut c.in_default-after-2.ensures.rest e))) }

pub returns : goal.returns
returns c =
    let size = c.unsigned_abs-size.ensures.value ∙ ap nat_abs (to_z-of_z {w = w64} c.ranges.units) in
    let whole = c.as_bytes.ensures.value ∙ c.format.ensures.text ∙ ap (λ n. decimal (n / 1_000_000_000)) size in
    let sign = c.sign_of.ensures.text ∙ ap (λ units. sign_text (int_lt units (pos 0))) (to_z-of_z {w = w64} c.ranges.units) in
    let cut = cut_so c.args.units c.args.text.now _ _ _ _ c.in-Some.ensures.rest c.in-Some-after.ensures.rest sign whole in
    let kept = c.trimmed.ensures.trimmed ∙ ap (λ digits. trimmed digits) (c.last_digits.ensures.digits ∙ ap (λ n. last_digits 9 n) size) in
    record { tells = is_text c.args.units c.args.text.now _ _ _ c.eq.result cut c.in-Some-after-2.ensures.rest kept c.eq.ensures }
