-- A sampling keeps the number of streams, and is wrong exactly where its stream isn't there.
use Rattle.std.proofs.Common.{◌≡◌, ℕ, ◌<◌, ◌≤◌, ◌↔◌, Bool, true, false, List, length, Option, Some, None, slice_get, slice_set, nat_lt, refl, sym, ap, ◌∙◌, rules}
use Rattle.std.specs.Prelude.{unsigned_abs}
use Rattle.std.proofs.lemmas.List.{length-set}
use Rattle.std.proofs.lemmas.Option.{slice_get-get_or, slice_get_past}
use Rattle.chi_num.specs.declared.dist.Dist.{Dist}
use Rattle.chi_num.specs.declared.dist.Dist.TheVariants as dist
use Rattle.chi_dist.specs.declared.drawn.Drawn.{Drawn}
use Rattle.chi_dist.specs.declared.fault.DistFault.{DistFault}
use Rattle.chi_dist.specs.Draws.{has_stream, sampled, draws, wrong, unless_faulty, taken_after}

stored : (k : Option ℕ) (fault : Option DistFault) (taken : List ℕ) (stream count : ℕ) (made : ℕ → Drawn) (x : Drawn) (after : List ℕ)
    → unless_faulty k fault (λ k. draws (made k) (slice_set taken stream (taken_after k count))) ≡ draws x after → length after ≡ length taken
stored None fault taken stream count made x after e = absurd (cc)
stored (Some k) (Some f) taken stream count made x after e = absurd (cc)
stored (Some k) None taken stream count made x after e =
    let same : slice_set taken stream (taken_after k count) ≡ after = cc in
    ap length (sym same) ∙ length-set taken stream (taken_after k count)

kept : (taken : List ℕ) (x y : Drawn) (after : List ℕ) → draws y taken ≡ draws x after → length after ≡ length taken
kept taken x y after e = let same : taken ≡ after = cc in ap length (sym same)

pub same_streams : (seed : ℕ) (taken : List ℕ) (d : Dist) (x : Drawn) (after : List ℕ) → sampled seed taken d ≡ draws x after → length after ≡ length taken
unfolding sampled
same_streams seed taken (dist.ConstBool b) x after e = kept taken x _ after e
same_streams seed taken (dist.ConstInt n) x after e = kept taken x _ after e
same_streams seed taken (dist.ConstReal r) x after e = kept taken x _ after e
same_streams seed taken (dist.UniformInt a b stream) x after e = stored (slice_get taken stream) _ taken stream 1 _ x after e
same_streams seed taken (dist.UniformReal a b stream) x after e = stored (slice_get taken stream) _ taken stream 1 _ x after e
same_streams seed taken (dist.Bernoulli p stream) x after e = stored (slice_get taken stream) _ taken stream 1 _ x after e
same_streams seed taken (dist.Binomial n p stream) x after e = stored (slice_get taken stream) _ taken stream (unsigned_abs n) _ x after e
same_streams seed taken (dist.Exponential m stream) x after e = stored (slice_get taken stream) _ taken stream 1 _ x after e

-- ---- where the stream isn't there

not_wrong : (k : ℕ) (fault : Option DistFault) (made : ℕ → Drawn) (after : ℕ → List ℕ) → unless_faulty (Some k) fault (λ k. draws (made k) (after k)) ≡ wrong → ⊥
not_wrong k (Some f) made after e = cc
not_wrong k None made after e = cc

told : (taken : List ℕ) (stream : ℕ) (fault : Option DistFault) (made : ℕ → Drawn) (after : ℕ → List ℕ) → length taken ≡ 64
    → (unless_faulty (slice_get taken stream) fault (λ k. draws (made k) (after k)) ≡ wrong) ↔ (nat_lt stream 64 ≡ false)
told taken stream fault made after all = by_place (nat_lt stream 64) refl
  where
    by_place : (b : Bool) → nat_lt stream 64 ≡ b → (unless_faulty (slice_get taken stream) fault (λ k. draws (made k) (after k)) ≡ wrong) ↔ (b ≡ false)
    by_place true e =
        let less : stream < 64 = search (rules, e) in
        let here = slice_get-get_or taken stream 0 (rw all less) in
        ((λ q. absurd (not_wrong _ fault made after (rw here at q))), (λ q. absurd (cc)))
    by_place false e =
        let past : 64 ≤ stream = search (rules, e) in
        ((λ q. refl), (λ q. rw (slice_get_past taken stream (rw all past)) refl))

none : (taken : List ℕ) (x : Drawn) → (draws x taken ≡ wrong) ↔ (true ≡ false)
none taken x = ((λ q. absurd (cc)), (λ q. absurd (cc)))

pub wrong_told : (seed : ℕ) (taken : List ℕ) (d : Dist) → length taken ≡ 64 → (sampled seed taken d ≡ wrong) ↔ (has_stream d ≡ false)
unfolding sampled
wrong_told seed taken (dist.ConstBool b) all = none taken _
wrong_told seed taken (dist.ConstInt n) all = none taken _
wrong_told seed taken (dist.ConstReal r) all = none taken _
wrong_told seed taken (dist.UniformInt a b stream) all = told taken stream _ _ _ all
wrong_told seed taken (dist.UniformReal a b stream) all = told taken stream _ _ _ all
wrong_told seed taken (dist.Bernoulli p stream) all = told taken stream _ _ _ all
wrong_told seed taken (dist.Binomial n p stream) all = told taken stream _ _ _ all
wrong_told seed taken (dist.Exponential m stream) all = told taken stream _ _ _ all
