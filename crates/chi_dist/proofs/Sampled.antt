-- What `sampled` says of each distribution, by what was drawn.
use Rattle.std.proofs.Common.{◌≡◌, ℕ, ◌<◌, List, length, Option, Some, None, IsSomeAnd, slice_get, Bool, ℤ, pos, ◌<ℤ◌, ◌≤ℤ◌, true, false, nat_lt, refl, sym, ap, subst, rules}
use Rattle.std.specs.Int.Signed.{lt_z_yes, le_z_yes}
use Rattle.std.specs.Prelude.{T, count_by, unsigned_abs, int_lt, int_le, ◌&&◌, if◌then◌else◌}
use Rattle.std.proofs.lemmas.Option.{slice_get-get_or}
use Rattle.chi_num.specs.declared.dist.Dist.{Dist}
use Rattle.chi_num.specs.declared.dist.Dist.TheVariants as dist
use Rattle.chi_dist.specs.declared.drawn.Drawn.{Drawn}
use Rattle.chi_dist.specs.declared.drawn.Drawn.TheVariants as drawn
use Rattle.chi_dist.specs.declared.fault.DistFault.{DistFault}
use Rattle.chi_dist.specs.declared.fault.DistFault.TheVariants.{BadBounds}
use Rattle.chi_dist.specs.Draws.{Draws, draw, draws_from, between, succeeds, bounds_fault, chance_fault, trials_fault, mean_fault, draws, refuses, taking, sampled, after_draws, fault_of, has_stream}
use Rattle.chi_dist.specs.Exponential.{most_mean, exponential_units}

-- so many draws were taken from a stream, and what is made of them has a property
abbrev Took : Draws → Draws → ℕ → ℕ → (ℕ → Type 0) → Type 0
Took g new stream count IsResult = IsSomeAnd (slice_get g.taken stream) (λ k. IsResult k × (new ≡ after_draws g stream k count))

took : (g new : Draws) (stream count : ℕ) (fault : Option DistFault) (made : ℕ → Drawn) (x : Drawn) → fault ≡ None
    → Took g new stream count (λ k. made k ≡ x) → taking g.taken stream count fault made ≡ draws x new.taken
took g new stream count fault made x good t = by_stream (slice_get g.taken stream) refl t
  where
    by_stream : (o : Option ℕ) → slice_get g.taken stream ≡ o → IsSomeAnd o (λ k. (made k ≡ x) × (new ≡ after_draws g stream k count))
        → taking g.taken stream count fault made ≡ draws x new.taken
    by_stream None e t = absurd t
    by_stream (Some k) e t = rw (e, good, t.1, t.0) refl

took_one : (g new : Draws) (stream word : ℕ) (fault : Option DistFault) (made : ℕ → Drawn) → fault ≡ None
    → Took g new stream 1 (λ k. word ≡ draw g.seed stream k)
    → taking g.taken stream 1 fault (λ k. made (draw g.seed stream k)) ≡ draws (made word) new.taken
took_one g new stream word fault made good t =
    took g new stream 1 fault (λ k. made (draw g.seed stream k)) (made word) good (by_stream (slice_get g.taken stream) t)
  where
    by_stream : (o : Option ℕ) → IsSomeAnd o (λ k. (word ≡ draw g.seed stream k) × (new ≡ after_draws g stream k 1))
        → IsSomeAnd o (λ k. (made (draw g.seed stream k) ≡ made word) × (new ≡ after_draws g stream k 1))
    by_stream None t = t
    by_stream (Some k) t = (ap made (sym t.0), t.1)

refused : (taken : List ℕ) (stream count : ℕ) (o : Option DistFault) (fault : DistFault) (made : ℕ → Drawn) → stream < length taken → o ≡ Some fault
    → taking taken stream count o made ≡ refuses fault
refused taken stream count o fault made there bad = rw (slice_get-get_or taken stream 0 there, bad) refl

within : (stream : ℕ) → nat_lt stream 64 ≡ true → stream < 64
within stream there = search (rules, there)

-- ---- what a distribution draws

pub draws_bool_const : (g : Draws) (d : Dist) (x : Bool) → d ≡ dist.ConstBool x → sampled g.seed g.taken d ≡ draws (drawn.Bool x) g.taken
unfolding sampled
draws_bool_const g d x is = rw is refl

pub draws_int_const : (g : Draws) (d : Dist) (x r : ℤ) → d ≡ dist.ConstInt x → r ≡ x → sampled g.seed g.taken d ≡ draws (drawn.Int r) g.taken
unfolding sampled
draws_int_const g d x r is e = rw (is, e) refl

pub draws_real_const : (g : Draws) (d : Dist) (x : ℤ) → d ≡ dist.ConstReal x → sampled g.seed g.taken d ≡ draws (drawn.Real x) g.taken
unfolding sampled
draws_real_const g d x is = rw is refl

pub draws_int : (g new : Draws) (d : Dist) (a b r : ℤ) (stream word : ℕ) → d ≡ dist.UniformInt a b stream → fault_of d ≡ None
    → Took g new stream 1 (λ k. word ≡ draw g.seed stream k) → r ≡ between a b word → sampled g.seed g.taken d ≡ draws (drawn.Int r) new.taken
unfolding sampled
draws_int g new d a b r stream word is good t e =
    rw (is, e) (took_one g new stream word _ (λ w. drawn.Int (between a b w)) (rw is at good) t)

pub draws_real : (g new : Draws) (d : Dist) (a b r : ℤ) (stream word : ℕ) → d ≡ dist.UniformReal a b stream → fault_of d ≡ None
    → Took g new stream 1 (λ k. word ≡ draw g.seed stream k) → r ≡ between a b word → sampled g.seed g.taken d ≡ draws (drawn.Real r) new.taken
unfolding sampled
draws_real g new d a b r stream word is good t e =
    rw (is, e) (took_one g new stream word _ (λ w. drawn.Real (between a b w)) (rw is at good) t)

pub draws_bool : (g new : Draws) (d : Dist) (chance : ℤ) (stream word : ℕ) (r : Bool) → d ≡ dist.Bernoulli chance stream → fault_of d ≡ None
    → Took g new stream 1 (λ k. word ≡ draw g.seed stream k) → r ≡ succeeds chance word → sampled g.seed g.taken d ≡ draws (drawn.Bool r) new.taken
unfolding sampled
draws_bool g new d chance stream word r is good t e =
    rw (is, e) (took_one g new stream word _ (λ w. drawn.Bool (succeeds chance w)) (rw is at good) t)

pub draws_count : (g new : Draws) (d : Dist) (trials chance r : ℤ) (stream size count : ℕ) → d ≡ dist.Binomial trials chance stream → fault_of d ≡ None
    → Took g new stream size (λ k. count ≡ count_by (succeeds chance) (draws_from g.seed stream k size)) → size ≡ unsigned_abs trials → r ≡ pos count
    → sampled g.seed g.taken d ≡ draws (drawn.Int r) new.taken
unfolding sampled
draws_count g new d trials chance r stream size count is good t e q =
    rw (is, q, ← e) (took g new stream size _ (λ k. drawn.Int (pos (count_by (succeeds chance) (draws_from g.seed stream k size)))) (drawn.Int (pos count)) (rw is at good)
    (by_stream (slice_get g.taken stream) t))
  where
    by_stream : (o : Option ℕ)
        → IsSomeAnd o (λ k. (count ≡ count_by (succeeds chance) (draws_from g.seed stream k size)) × (new ≡ after_draws g stream k size))
        → IsSomeAnd o (λ k. (drawn.Int (pos (count_by (succeeds chance) (draws_from g.seed stream k size))) ≡ drawn.Int (pos count)) × (new ≡ after_draws g stream k size))
    by_stream None t = t
    by_stream (Some k) t = (ap (λ n. drawn.Int (pos n)) (sym t.0), t.1)

pub draws_wait : (g new : Draws) (d : Dist) (mean r : ℤ) (stream word : ℕ) → d ≡ dist.Exponential mean stream → fault_of d ≡ None
    → Took g new stream 1 (λ k. word ≡ draw g.seed stream k) → r ≡ exponential_units mean word → sampled g.seed g.taken d ≡ draws (drawn.Real r) new.taken
unfolding sampled
draws_wait g new d mean r stream word is good t e =
    rw (is, e) (took_one g new stream word _ (λ w. drawn.Real (exponential_units mean w)) (rw is at good) t)

-- ---- what refuses it

pub refuses_all : (seed : ℕ) (taken : List ℕ) (d : Dist) (fault : DistFault) → length taken ≡ 64 → has_stream d ≡ true → fault_of d ≡ Some fault
    → sampled seed taken d ≡ refuses fault
unfolding sampled
refuses_all seed taken (dist.ConstBool x) fault all there bad = absurd (cc)
refuses_all seed taken (dist.ConstInt x) fault all there bad = absurd (cc)
refuses_all seed taken (dist.ConstReal x) fault all there bad = absurd (cc)
refuses_all seed taken (dist.UniformInt a b stream) fault all there bad =
    refused taken stream 1 (bounds_fault a b) fault _ (rw all (within stream there)) bad
refuses_all seed taken (dist.UniformReal a b stream) fault all there bad =
    refused taken stream 1 (bounds_fault a b) fault _ (rw all (within stream there)) bad
refuses_all seed taken (dist.Bernoulli chance stream) fault all there bad =
    refused taken stream 1 (chance_fault chance) fault _ (rw all (within stream there)) bad
refuses_all seed taken (dist.Binomial trials chance stream) fault all there bad =
    refused taken stream (unsigned_abs trials) (trials_fault trials chance) fault _ (rw all (within stream there)) bad
refuses_all seed taken (dist.Exponential mean stream) fault all there bad =
    refused taken stream 1 (mean_fault mean) fault _ (rw all (within stream there)) bad

-- ---- a mean without a fault lies in its range

pub mean_within : (mean : ℤ) → mean_fault mean ≡ None → (pos 0 <ℤ mean) × (mean ≤ℤ most_mean)
mean_within mean good = by_tests (int_lt (pos 0) mean) (int_le mean most_mean) refl refl good
  where
    by_tests : (a b : Bool) → int_lt (pos 0) mean ≡ a → int_le mean most_mean ≡ b → (if a && b then None else Some BadBounds) ≡ None
        → (pos 0 <ℤ mean) × (mean ≤ℤ most_mean)
    by_tests true true e f good = (lt_z_yes (subst T (sym e) tt), le_z_yes (subst T (sym f) tt))
    by_tests true false e f good = absurd (cc)
    by_tests false b e f good = absurd (cc)
