-- What a draw makes of a stream that is kept.
use Rattle.std.proofs.Common.{◌≡◌, ℕ, ◌+◌, ◌*◌, ◌/◌, ◌%◌, ◌^◌, ◌<◌, refl, sym, ap, ◌∙◌, arith}
use Rattle.std.proofs.Math.Nat.{div-add-mod}
use Rattle.rand_pcg.specs.Lcg.{Lcg, advance, next_state, state_after, started, increment_of}
use Rattle.rand_pcg.specs.Pcg.{multiplier_64}
use Rattle.rand_pcg.proofs.LcgLemmas.{advance_zero}
use Rattle.chi_dist.specs.Draws.{draw, stream_of, next_draw, taken_after}
use Rattle.chi_dist.specs.Streams.{words_at, past_draw}
use Rattle.chi_dist.proofs.Period.{around, start_below, steps_after}

pub kept_new : (seed number state : ℕ) (words : Lcg) → words ≡ started 64 multiplier_64 seed (increment_of 64 number)
    → state ≡ words.state → words_at number state ≡ advance 64 multiplier_64 0 (stream_of seed number)
unfolding stream_of
kept_new seed number state words new e = rw (e, new, advance_zero) refl

-- so many words are passed at once, whose number wraps
pub kept_after : (seed number taken state : ℕ) (start words : Lcg) → start ≡ started 64 multiplier_64 seed (increment_of 64 number)
    → words ≡ advance 64 multiplier_64 (taken * 2 % 2 ^ 64) start → state ≡ words.state
    → words_at number state ≡ advance 64 multiplier_64 (2 * taken) (stream_of seed number)
unfolding stream_of
kept_after seed number taken state start words new jumped e =
    let s = (stream_of seed number).state in
    let p = increment_of 64 number in
    let whole : 2 * taken ≡ taken * 2 / 2 ^ 64 * 2 ^ 64 + taken * 2 % 2 ^ 64 = omega (arith, div-add-mod (taken * 2) (2 ^ 64)) in
    let same : state_after 64 multiplier_64 p (2 * taken) s ≡ state_after 64 multiplier_64 p (taken * 2 % 2 ^ 64) s =
    ap (λ n. state_after 64 multiplier_64 p n s) whole ∙ around p (taken * 2 / 2 ^ 64) (taken * 2 % 2 ^ 64) s (start_below seed number)
    in
    rw (e, jumped, new) (ap (words_at number) (sym same))

pub kept_draws : (seed number k : ℕ) (words : Lcg) → words ≡ advance 64 multiplier_64 (2 * k) (stream_of seed number)
    → next_draw words ≡ draw seed number k
unfolding draw
kept_draws seed number k words kept = rw kept refl

two_steps : (w m p s : ℕ) → state_after w m p 2 s ≡ next_state w m p (next_state w m p s)
unfolding state_after
two_steps w m p s = refl

two_more : (p k s : ℕ) → s < 2 ^ 64
    → next_state 64 multiplier_64 p (next_state 64 multiplier_64 p (state_after 64 multiplier_64 p (2 * k) s))
    ≡ state_after 64 multiplier_64 p (2 * taken_after k 1) s
two_more p k s below =
    let whole : 2 * k + 2 ≡ 2 * ((k + 1) / 2 ^ 64) * 2 ^ 64 + 2 * taken_after k 1 = omega (arith, div-add-mod (k + 1) (2 ^ 64)) in
    sym (two_steps 64 multiplier_64 p (state_after 64 multiplier_64 p (2 * k) s)) ∙ sym (steps_after 64 multiplier_64 p (2 * k) 2 s)
    ∙ ap (λ n. state_after 64 multiplier_64 p n s) whole ∙ around p (2 * ((k + 1) / 2 ^ 64)) (2 * taken_after k 1) s below

pub kept_past : (seed number k : ℕ) (words : Lcg) → words ≡ advance 64 multiplier_64 (2 * k) (stream_of seed number)
    → past_draw words ≡ advance 64 multiplier_64 (2 * taken_after k 1) (stream_of seed number)
kept_past seed number k words kept =
    let g = stream_of seed number in
    rw (kept, two_more g.increment k g.state (start_below seed number)) refl
