-- A text in its field, and the nearest step of a real.
use Rattle.std.proofs.Common.{◌≡◌, ℕ, ◌-◌, ◌^◌, ◌<◌, ◌≤◌, ℤ, pos, nat_abs, int_lt, true, false, cond, List, ◌++◌, length, replicate, refl, sym, ap, ◌∙◌, arith}
use Rattle.std.proofs.lemmas.List.{append_assoc}
use Rattle.chi_num.specs.FixedText.{fixed_text_of}
use Rattle.chi_num.specs.Nearest.{IsNearest, nearest}
use Rattle.chi_num.proofs.Nearest.{one_nearest, rounded_is}
use Rattle.chi_num.proofs.Decimal.{power_pos}
use Rattle.chi_value.specs.declared.format.Field.{Field}
use Rattle.chi_format.specs.Format.{filled, steps_of}

pub before_spaces : (field : Field) (text spaces old new : List ℕ) → field.left ≡ true → spaces ≡ replicate (field.width - length text) 32
    → new ≡ (old ++ text) ++ spaces → new ≡ old ++ filled field text
before_spaces field text spaces old new left are is =
    is ∙ append_assoc old text spaces ∙ ap (λ s. old ++ (text ++ s)) are
    ∙ ap (λ b. old ++ cond b (text ++ replicate (field.width - length text) 32) (replicate (field.width - length text) 32 ++ text)) (sym left)

pub after_spaces : (field : Field) (text spaces old new : List ℕ) → field.left ≡ false → spaces ≡ replicate (field.width - length text) 32
    → new ≡ (old ++ spaces) ++ text → new ≡ old ++ filled field text
after_spaces field text spaces old new right are is =
    is ∙ append_assoc old spaces text ∙ ap (λ s. old ++ (s ++ text)) are
    ∙ ap (λ b. old ++ cond b (text ++ replicate (field.width - length text) 32) (replicate (field.width - length text) 32 ++ text)) (sym right)

-- the nearest number of steps is the one of the definition
pub fixed_is : (k : ℕ) (units : ℤ) (old new : List ℕ) → k ≤ 9 → (r : ℤ) × IsNearest units (10 ^ (9 - k)) r × (new ≡ old ++ fixed_text_of k r)
    → new ≡ old ++ fixed_text_of k (steps_of k units)
fixed_is k units old new le h =
    let some = power_pos (9 - k) in
    h.2 ∙ ap (λ r. old ++ fixed_text_of k r)
    (one_nearest units (10 ^ (9 - k)) h.0 (steps_of k units) some h.1 (rounded_is units (10 ^ (9 - k)) (nearest (nat_abs units) (10 ^ (9 - k))) some refl))
