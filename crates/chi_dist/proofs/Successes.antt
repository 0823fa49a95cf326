-- Successes, one draw after the other.
use Rattle.std.proofs.Common.{◌≡◌, ℕ, ◌+◌, ◌^◌, ◌<◌, ◌≤◌, Bool, true, false, cond, ℤ, refl, sym, ap, ◌∙◌, arith}
use Rattle.std.specs.Int.{from_bool}
use Rattle.std.specs.Prelude.{count_by}
use Rattle.std.proofs.lemmas.List.FromFn.{sum_by-map-range_with_len_more}
use Rattle.chi_dist.specs.Draws.{draw, draws_from, succeeds, taken_after}
use Rattle.chi_dist.proofs.Period.{draw_modulo}

pub one_more : (seed number k n taken word successes one : ℕ) (chance : ℤ) → taken ≡ taken_after k n → word ≡ draw seed number taken
    → one ≡ cond (succeeds chance word) 1 0 → successes ≡ count_by (succeeds chance) (draws_from seed number k n)
    → successes + one ≡ count_by (succeeds chance) (draws_from seed number k (n + 1))
one_more seed number k n taken word successes one chance t w o s =
    let next : word ≡ draw seed number (k + n) = w ∙ ap (draw seed number) t ∙ draw_modulo seed number (k + n) in
    rw (s, o, next) (sym (sum_by-map-range_with_len_more (λ x. cond (succeeds chance x) 1 0) (draw seed number) k n (k + n) refl))

pub taken_more : (k n taken new : ℕ) → taken ≡ taken_after k n → new ≡ taken_after taken 1 → new ≡ taken_after k (n + 1)
taken_more k n taken new t e = omega (arith, t, e)

pub taken_none : (k taken : ℕ) → k < 2 ^ 64 → taken ≡ k → taken ≡ taken_after k 0
taken_none k taken below e = omega (arith, below, e)

pub is_one : (b c : Bool) (one : ℕ) → b ≡ c → one ≡ from_bool b → one ≡ cond c 1 0
is_one true c one e o = rw (← e) o
is_one false c one e o = rw (← e) o

pub one_at_most : (b : Bool) (one successes n : ℕ) → one ≡ from_bool b → successes ≤ n → successes + one ≤ n + 1
one_at_most true one successes n o h = omega (arith, o, h)
one_at_most false one successes n o h = omega (arith, o, h)
