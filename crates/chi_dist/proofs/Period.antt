-- A stream begins again after 2 ^ 64 words.
use Rattle.std.proofs.Common.{◌≡◌, ℕ, zero, suc, ◌+◌, ◌*◌, ◌/◌, ◌%◌, ◌^◌, ◌<◌, refl, sym, ap, ◌∙◌, arith, suc-add, zero-add}
use Rattle.std.proofs.Math.Nat.{add-mod-mod, div-add-mod, mod-lt, pow-suc, mul_assoc}
use Rattle.std.proofs.lemmas.Nat.{mul-mod_first, mul-mod_second}
use Rattle.rand_pcg.specs.Lcg.{next_state, state_after}
use Rattle.rand_pcg.specs.Pcg.{multiplier_64}
use Rattle.rand_pcg.proofs.LcgLemmas.{state_after_double}
use Rattle.chi_dist.specs.Draws.{draw, stream_of, next_draw}

-- the multiplier of 2 ^ i steps in one, and by what they multiply the increment
unfoldable multiplier_of : ℕ → ℕ
multiplier_of zero = multiplier_64
multiplier_of (suc i) = multiplier_of i * multiplier_of i % 2 ^ 64

unfoldable factor_of : ℕ → ℕ
factor_of zero = 1
factor_of (suc i) = (multiplier_of i + 1) % 2 ^ 64 * factor_of i % 2 ^ 64

-- 2 ^ 64 steps in one change nothing
multiplier_64_times : multiplier_of 64 ≡ 1
unfolding multiplier_of
multiplier_64_times = refl

factor_64_times : factor_of 64 ≡ 0
unfolding multiplier_of factor_of
factor_64_times = refl

-- an increment counts modulo 2 ^ w
increment_modulo : (w m p n s : ℕ) → state_after w m (p % 2 ^ w) n s ≡ state_after w m p n s
unfolding state_after
increment_modulo w m p zero s = refl
increment_modulo w m p (suc n) s =
    rw (add-mod-mod (s * m % 2 ^ w) p (2 ^ w)) (increment_modulo w m p n (next_state w m p s))

-- 2 ^ i steps are one of that multiplier and increment
steps_in_one : (i k p s : ℕ)
    → state_after 64 (multiplier_of i) (factor_of i * p % 2 ^ 64) k s ≡ state_after 64 multiplier_64 p (k * 2 ^ i) s
unfolding multiplier_of factor_of
steps_in_one zero k p s =
    let one : 1 * p ≡ p = omega arith in
    let all : k * 2 ^ 0 ≡ k = omega arith in
    rw (one, all) (increment_modulo 64 multiplier_64 p k s)
steps_in_one (suc i) k p s =
    let m = multiplier_of i in
    let f = factor_of i in
    let same : (m + 1) % 2 ^ 64 * f % 2 ^ 64 * p % 2 ^ 64 ≡ (m + 1) % 2 ^ 64 * (f * p % 2 ^ 64) % 2 ^ 64 =
    mul-mod_first ((m + 1) % 2 ^ 64 * f) p (2 ^ 64) ∙ ap (λ x. x % 2 ^ 64) (mul_assoc ((m + 1) % 2 ^ 64) f p)
    ∙ sym (mul-mod_second ((m + 1) % 2 ^ 64) (f * p) (2 ^ 64))
    in
    let twice : (k + k) * 2 ^ i ≡ k * 2 ^ suc i = rw (pow-suc 2 i) (omega arith) in
    ap (λ q. state_after 64 (m * m % 2 ^ 64) q k s) same ∙ state_after_double 64 m (f * p % 2 ^ 64) k s
    ∙ steps_in_one i (k + k) p s ∙ ap (λ n. state_after 64 multiplier_64 p n s) twice

one_step : (m p s : ℕ) → state_after 64 m p 1 s ≡ next_state 64 m p s
unfolding state_after
one_step m p s = refl

no_change : (p s : ℕ) → s < 2 ^ 64 → next_state 64 1 (0 * p % 2 ^ 64) s ≡ s
no_change p s below = omega arith

once_around : (p s : ℕ) → s < 2 ^ 64 → state_after 64 multiplier_64 p (2 ^ 64) s ≡ s
once_around p s below =
    let all : 1 * 2 ^ 64 ≡ 2 ^ 64 = refl in
    let whole = rw (multiplier_64_times, factor_64_times, one_step, all) at (steps_in_one 64 1 p s) in
    sym whole ∙ no_change p s below

-- steps after steps
pub steps_after : (w m p a b s : ℕ) → state_after w m p (a + b) s ≡ state_after w m p b (state_after w m p a s)
unfolding state_after
steps_after w m p zero b s = rw (zero-add b) refl
steps_after w m p (suc a) b s = rw (suc-add a b) (steps_after w m p a b (next_state w m p s))

pub around : (p q n s : ℕ) → s < 2 ^ 64 → state_after 64 multiplier_64 p (q * 2 ^ 64 + n) s ≡ state_after 64 multiplier_64 p n s
around p zero n s below = let all : 0 * 2 ^ 64 + n ≡ n = omega arith in rw all refl
around p (suc q) n s below =
    let more : suc q * 2 ^ 64 + n ≡ 2 ^ 64 + (q * 2 ^ 64 + n) = omega arith in
    rw (more, steps_after 64 multiplier_64 p (2 ^ 64) (q * 2 ^ 64 + n) s, once_around p s below) (around p q n s below)

pub start_below : (seed stream : ℕ) → (stream_of seed stream).state < 2 ^ 64
unfolding stream_of
start_below seed stream = mod-lt _ (omega arith)

-- draws begin again too
pub draws_again : (seed stream k q : ℕ) → draw seed stream (k + q * 2 ^ 63) ≡ draw seed stream k
unfolding draw
draws_again seed stream k q =
    let start = (stream_of seed stream).state in
    let step = (stream_of seed stream).increment in
    let words : 2 * (k + q * 2 ^ 63) ≡ q * 2 ^ 64 + 2 * k = omega arith in
    let same : state_after 64 multiplier_64 step (2 * (k + q * 2 ^ 63)) start ≡ state_after 64 multiplier_64 step (2 * k) start =
    rw words (around step q (2 * k) start (start_below seed stream))
    in
    ap (λ s. next_draw (record { state = s; increment = step })) same

pub draw_again : (seed stream k : ℕ) → draw seed stream (k + 2 ^ 63) ≡ draw seed stream k
draw_again seed stream k = let once : 1 * 2 ^ 63 ≡ 2 ^ 63 = refl in rw once at (draws_again seed stream k 1)

pub draw_modulo : (seed stream n : ℕ) → draw seed stream (n % 2 ^ 64) ≡ draw seed stream n
draw_modulo seed stream n =
    let whole : n % 2 ^ 64 + (2 * (n / 2 ^ 64)) * 2 ^ 63 ≡ n = omega (arith, div-add-mod n (2 ^ 64)) in
    sym (draws_again seed stream (n % 2 ^ 64) (2 * (n / 2 ^ 64))) ∙ ap (draw seed stream) whole
