-- Powers in closed form, and the powers that are out of range.
use Rattle.std.proofs.Common.{◌≡◌, ◌≢◌, ℕ, zero, suc, ◌*◌, ◌%◌, ◌^◌, ◌≤◌, ℤ, pos, negsuc, ◌*ℤ◌, neg_ℤ, ◌<ℤ◌, ◌≤ℤ◌, refl, ap, sym, ◌∙◌, ◌⊎◌, inl, inr, FitsSigned, arith}
use Rattle.std.specs.Prelude.{unsigned_abs}
use Rattle.std.specs.Int.{w64, int_pow}
use Rattle.std.proofs.lemmas.Int.{ints, unsigned_abs-mul}
use Rattle.std.proofs.Math.Nat.{le_trans, pow-zero, pow-suc, pow-le-pow_left, pow-le-pow_right}
use Rattle.chi_num.specs.Power.{power}

-- the two equations of a power
power-suc : (a : ℤ) (n : ℕ) → power a (suc n) ≡ a *ℤ power a n
unfolding power
power-suc a n = refl

power-zero : (a : ℤ) → power a zero ≡ pos 1
unfolding power
power-zero a = refl

-- a base of 0 or more
power-pos : (a n : ℕ) → power (pos a) n ≡ pos (a ^ n)
power-pos a zero = power-zero (pos a) ∙ ap pos (sym (pow-zero a))
power-pos a (suc n) = power-suc (pos a) n ∙ ap (λ x. pos a *ℤ x) (power-pos a n) ∙ ap pos (grind (arith, pow-suc))

-- the size of a power
power-size : (a : ℤ) (n : ℕ) → unsigned_abs (power a n) ≡ unsigned_abs a ^ n
power-size a zero = ap unsigned_abs (power-zero a) ∙ sym (pow-zero (unsigned_abs a))
power-size a (suc n) = ap unsigned_abs (power-suc a n) ∙ unsigned_abs-mul a (power a n) ∙ ap (λ x. unsigned_abs a * x) (power-size a n) ∙ grind (arith, pow-suc)

-- 64 factors of size 2 or more are out of range
size_out : (a n : ℕ) → 2 ≤ a → 64 ≤ n → 2 ^ 64 ≤ a ^ n
size_out a n p q = le_trans (pow-le-pow_right {n = 2} (omega arith) q) (pow-le-pow_left p n)

pub power_out : (a : ℤ) (n : ℕ) → 2 ≤ unsigned_abs a → 64 ≤ n → (r : ℤ) → r ≡ power a n → FitsSigned w64 r → ⊥
power_out a n p q r e f = omega (arith, ints, size_out (unsigned_abs a) n p q, power-size a n, ap unsigned_abs e)

-- a negative base, by the parity of the count
negsuc-*ℤ-neg : (a k : ℕ) → negsuc a *ℤ neg_ℤ (pos k) ≡ pos (suc a * k)
negsuc-*ℤ-neg a zero = omega (arith, ints)
negsuc-*ℤ-neg a (suc k) = refl

power-negsuc : (a n : ℕ) → ((n % 2 ≡ 0) × (power (negsuc a) n ≡ pos (suc a ^ n))) ⊎ ((n % 2 ≡ 1) × (power (negsuc a) n ≡ neg_ℤ (pos (suc a ^ n))))
power-negsuc a zero = inl (refl, power-zero (negsuc a) ∙ ap pos (sym (pow-zero (suc a))))
power-negsuc a (suc n) =
    let next = power-suc (negsuc a) n in
    let more : suc a * suc a ^ n ≡ suc a ^ suc n = grind (arith, pow-suc) in
    elim (power-negsuc a n) [
      | inl (p, e) ↦ inr (omega arith, next ∙ ap (λ x. negsuc a *ℤ x) e ∙ ap (λ k. neg_ℤ (pos k)) more)
      | inr (p, e) ↦ inl (omega arith, next ∙ ap (λ x. negsuc a *ℤ x) e ∙ negsuc-*ℤ-neg a (suc a ^ n) ∙ ap pos more)
    ]

-- the closed form
pub int_pow_is : (a : ℤ) (n : ℕ) → int_pow a n ≡ power a n
int_pow_is (pos a) n = sym (power-pos a n)
int_pow_is (negsuc a) n = elim (power-negsuc a n) [ inl (p, e) ↦ rw p (sym e) | inr (p, e) ↦ rw p (sym e) ]

-- the powers of -1, 0 and 1
one-pow : (n : ℕ) → 1 ^ n ≡ 1
one-pow zero = pow-zero 1
one-pow (suc n) = grind (arith, pow-suc 1 n, one-pow n)

pub unit_none : (a : ℤ) (n : ℕ) → n ≡ 0 → power a n ≡ pos 1
unit_none a n e = rw e (power-zero a)

pub unit_even : (a : ℤ) (n : ℕ) → a <ℤ pos 0 → unsigned_abs a ≤ 1 → n % 2 ≡ 0 → power a n ≡ pos 1
unit_even (pos a) n p q e = absurd (omega (arith, ints))
unit_even (negsuc zero) n p q e = elim (power-negsuc zero n) [ inl (_, h) ↦ h ∙ ap pos (one-pow n) | inr (d, _) ↦ absurd (omega arith) ]
unit_even (negsuc (suc a)) n p q e = absurd (omega arith)

pub unit_odd : (a : ℤ) (n : ℕ) → a <ℤ pos 0 → unsigned_abs a ≤ 1 → n % 2 ≢ 0 → power a n ≡ a
unit_odd (pos a) n p q e = absurd (omega (arith, ints))
unit_odd (negsuc zero) n p q e = elim (power-negsuc zero n) [ inl (d, _) ↦ absurd (e d) | inr (_, h) ↦ h ∙ ap (λ k. neg_ℤ (pos k)) (one-pow n) ]
unit_odd (negsuc (suc a)) n p q e = absurd (omega arith)

pub unit_up : (a : ℤ) (n : ℕ) → pos 0 ≤ℤ a → unsigned_abs a ≤ 1 → n ≢ 0 → power a n ≡ a
unit_up a zero p q e = absurd (e refl)
unit_up (negsuc a) (suc n) p q e = absurd (omega (arith, ints))
unit_up (pos zero) (suc n) p q e = power-suc (pos zero) n ∙ omega (arith, ints)
unit_up (pos (suc zero)) (suc n) p q e = power-pos (suc zero) (suc n) ∙ ap pos (one-pow (suc n))
unit_up (pos (suc (suc a))) (suc n) p q e = absurd (omega arith)
