-- Distributions, and what is drawn from them.
use Rattle.std.proofs.Common.{◌≡◌, ◌≢◌, ℕ, ◌<◌, ℤ, pos, negsuc, Bool, true, false, IsTrue, List, length, Option, Some, None, nat_lt, refl, sym, ap, ◌∙◌, ◌≤ℤ◌, ◌<ℤ◌, rules, arith}
use Rattle.std.specs.Prelude.{if◌then◌else◌}
use Rattle.std.proofs.lemmas.Int.{ints, to_z-of_z}
use Rattle.chi_num.specs.declared.dist.Dist.{Dist}
use Rattle.chi_num.specs.declared.dist.Dist.TheVariants as dist
use Rattle.chi_dist.specs.declared.drawn.Drawn.{Drawn}
use Rattle.chi_dist.specs.declared.fault.DistFault.{DistFault}
use Rattle.chi_dist.specs.Draws.{Sampling, draws, refuses, wrong, sampled, has_stream}
use Rattle.chi_dist.proofs.SampledLaws.{wrong_told}
use Rattle.chi_value.specs.declared.value.TheConstants.{MOST_ELEMENTS}
use Rattle.chi_value.specs.declared.value.Value.{Value, Value-F, out-Value}
use Rattle.chi_value.specs.declared.value.Value.TheVariants as value
use Rattle.chi_core.specs.declared.fault.FaultKind.TheVariants.{BadDistribution}
use Rattle.chi_core.specs.declared.view.View.{View}
use Rattle.chi_core.specs.Answer.{Gives, Fails, Amiss, then_do, wanted}
use Rattle.chi_core.specs.Distributions.{stream_in, uniform_in, bernoulli_in, binomial_in, exponential_in, distribution, by_stream, value_drawn, after_drawing, draw_from, sample_of}
use Rattle.chi_core.specs.Reading.{int_in, int_of, real_in, real_of}

-- the stream that is named

stream_int_in : (o : Value-F Value) → stream_in o ≢ None → int_in o ≢ None
stream_int_in (Value-F.Int x) h = λ e. absurd (cc)
stream_int_in _ h = absurd (h refl)

stream_number : (n : ℕ) (b : Bool) → nat_lt n 64 ≡ b → (if b then Some n else None) ≢ None → (n < 64) × ((if b then Some n else None) ≡ Some n)
stream_number n true e h = (search (rules, e), refl)
stream_number n false e h = absurd (h refl)

stream_few_in : (o : Value-F Value) → stream_in o ≢ None → (n : ℕ) × (int_in o ≡ Some (pos n)) × (n < 64) × (stream_in o ≡ Some n)
stream_few_in (Value-F.Int (pos n)) h = let f = stream_number n (nat_lt n 64) refl h in (n, refl, f.0, f.1)
stream_few_in (Value-F.Int (negsuc n)) h = absurd (h refl)
stream_few_in _ h = absurd (h refl)

pub stream_int : (v : Value) → stream_in (out-Value v) ≢ None → int_of v ≢ None
stream_int v h = stream_int_in (out-Value v) h

pub stream_is : (v : Value) (n : ℕ) → stream_in (out-Value v) ≢ None → int_of v ≡ Some (pos n) → stream_in (out-Value v) ≡ Some n
stream_is v n h e =
    let f = stream_few_in (out-Value v) h in
    let same : f.0 ≡ n = let z : pos f.0 ≡ pos n = some_is (sym f.1 ∙ e) in omega (arith, ints, z) in
    f.3 ∙ ap Some same
  where
    some_is : {a b : ℤ} → Some a ≡ Some b → a ≡ b
    some_is e = cc

pub stream_few : (v : Value) → stream_in (out-Value v) ≢ None → ((n : ℕ) → int_of v ≡ Some (pos n) → MOST_ELEMENTS < n) → ⊥
stream_few v h over =
    let f = stream_few_in (out-Value v) h in
    let past : MOST_ELEMENTS < f.0 = over f.0 f.1 in
    let below : f.0 < 64 = f.2 in
    few_most f.0 below past
  where
    few_most : (n : ℕ) → n < 64 → 1_048_576 < n → ⊥
    few_most n below past = omega (arith, below, past)

pub ruleset streams = (to_z-of_z, stream_int, stream_is, stream_few)

module _ (made : ℕ → Option Dist) (stream : Value) (view : View) where
  pub by_there : by_stream made stream view ≢ Amiss → stream_in (out-Value stream) ≢ None
  by_there h e = h (ap (λ o. then_do (wanted o view) (λ number. distribution (made number))) e)

  pub by_is : (n : ℕ) → stream_in (out-Value stream) ≡ Some n → by_stream made stream view ≡ distribution (made n) view
  by_is n e = ap (λ o. then_do (wanted o view) (λ number. distribution (made number))) e

  pub by_made : (n : ℕ) → stream_in (out-Value stream) ≡ Some n → by_stream made stream view ≢ Amiss → distribution (made n) view ≢ Amiss
  by_made n e h a = h (by_is n e ∙ a)

pub ruleset by_streams = (by_there, by_is, by_made)

-- what is made of operands
module _ (n : ℕ) (view : View) where
  int_second_in : (x : ℤ) (b : Value-F Value) → distribution (uniform_in (Value-F.Int x) b n) view ≢ Amiss → int_in b ≢ None
  int_second_in x (Value-F.Int y) h = λ e. absurd (cc)
  int_second_in x _ h = absurd (h refl)

  real_second_in : (x : ℤ) (b : Value-F Value) → distribution (uniform_in (Value-F.Real x) b n) view ≢ Amiss → real_in b ≢ None
  real_second_in x (Value-F.Real y) h = λ e. absurd (cc)
  real_second_in x _ h = absurd (h refl)

  ints_are_in : (x y : ℤ) (b : Value-F Value) → int_in b ≡ Some y → distribution (uniform_in (Value-F.Int x) b n) view ≡ Gives (value.Dist (dist.UniformInt x y n)) view
  ints_are_in x y (Value-F.Int z) e = let same : z ≡ y = cc in ap (λ y. Gives (value.Dist (dist.UniformInt x y n)) view) same
  ints_are_in x y _ e = absurd (cc)

  reals_are_in : (x y : ℤ) (b : Value-F Value) → real_in b ≡ Some y → distribution (uniform_in (Value-F.Real x) b n) view ≡ Gives (value.Dist (dist.UniformReal x y n)) view
  reals_are_in x y (Value-F.Real z) e = let same : z ≡ y = cc in ap (λ y. Gives (value.Dist (dist.UniformReal x y n)) view) same
  reals_are_in x y _ e = absurd (cc)

  pub int_second : (x : ℤ) (b : Value) → distribution (uniform_in (Value-F.Int x) (out-Value b) n) view ≢ Amiss → int_of b ≢ None
  int_second x b = int_second_in x (out-Value b)

  pub real_second : (x : ℤ) (b : Value) → distribution (uniform_in (Value-F.Real x) (out-Value b) n) view ≢ Amiss → real_of b ≢ None
  real_second x b = real_second_in x (out-Value b)

  pub ints_are : (x y : ℤ) (b : Value) → int_of b ≡ Some y → distribution (uniform_in (Value-F.Int x) (out-Value b) n) view ≡ Gives (value.Dist (dist.UniformInt x y n)) view
  ints_are x y b = ints_are_in x y (out-Value b)

  pub reals_are : (x y : ℤ) (b : Value) → real_of b ≡ Some y → distribution (uniform_in (Value-F.Real x) (out-Value b) n) view ≡ Gives (value.Dist (dist.UniformReal x y n)) view
  reals_are x y b = reals_are_in x y (out-Value b)

  chance_in : (c : Value-F Value) → distribution (bernoulli_in c n) view ≢ Amiss → real_in c ≢ None
  chance_in (Value-F.Real x) h = λ e. absurd (cc)
  chance_in _ h = absurd (h refl)

  bernoulli_is_in : (c : Value-F Value) (x : ℤ) → real_in c ≡ Some x → distribution (bernoulli_in c n) view ≡ Gives (value.Dist (dist.Bernoulli x n)) view
  bernoulli_is_in (Value-F.Real y) x e = let same : y ≡ x = cc in ap (λ x. Gives (value.Dist (dist.Bernoulli x n)) view) same
  bernoulli_is_in _ x e = absurd (cc)

  mean_in : (m : Value-F Value) → distribution (exponential_in m n) view ≢ Amiss → real_in m ≢ None
  mean_in (Value-F.Real x) h = λ e. absurd (cc)
  mean_in _ h = absurd (h refl)

  exponential_is_in : (m : Value-F Value) (x : ℤ) → real_in m ≡ Some x → distribution (exponential_in m n) view ≡ Gives (value.Dist (dist.Exponential x n)) view
  exponential_is_in (Value-F.Real y) x e = let same : y ≡ x = cc in ap (λ x. Gives (value.Dist (dist.Exponential x n)) view) same
  exponential_is_in _ x e = absurd (cc)

  count_first_in : (t c : Value-F Value) → distribution (binomial_in t c n) view ≢ Amiss → int_in t ≢ None
  count_first_in (Value-F.Int x) c h = λ e. absurd (cc)
  count_first_in _ c h = absurd (h refl)

  count_chance_in : (t c : Value-F Value) → distribution (binomial_in t c n) view ≢ Amiss → real_in c ≢ None
  count_chance_in (Value-F.Int x) (Value-F.Real y) h = λ e. absurd (cc)
  count_chance_in (Value-F.Int x) _ h = absurd (h refl)
  count_chance_in _ c h = absurd (h refl)

  binomial_is_in : (t c : Value-F Value) (x y : ℤ) → int_in t ≡ Some x → real_in c ≡ Some y → distribution (binomial_in t c n) view ≡ Gives (value.Dist (dist.Binomial x y n)) view
  binomial_is_in (Value-F.Int v) (Value-F.Real w) x y e f =
      let same : v ≡ x = cc in let alike : w ≡ y = cc in (λ i. Gives (value.Dist (dist.Binomial (same i) (alike i) n)) view)
  binomial_is_in (Value-F.Int v) _ x y e f = absurd (cc)
  binomial_is_in _ c x y e f = absurd (cc)

  pub chance : (c : Value) → distribution (bernoulli_in (out-Value c) n) view ≢ Amiss → real_of c ≢ None
  chance c = chance_in (out-Value c)

  pub bernoulli_is : (c : Value) (x : ℤ) → real_of c ≡ Some x → distribution (bernoulli_in (out-Value c) n) view ≡ Gives (value.Dist (dist.Bernoulli x n)) view
  bernoulli_is c = bernoulli_is_in (out-Value c)

  pub mean : (m : Value) → distribution (exponential_in (out-Value m) n) view ≢ Amiss → real_of m ≢ None
  mean m = mean_in (out-Value m)

  pub exponential_is : (m : Value) (x : ℤ) → real_of m ≡ Some x → distribution (exponential_in (out-Value m) n) view ≡ Gives (value.Dist (dist.Exponential x n)) view
  exponential_is m = exponential_is_in (out-Value m)

  pub count_first : (t c : Value) → distribution (binomial_in (out-Value t) (out-Value c) n) view ≢ Amiss → int_of t ≢ None
  count_first t c = count_first_in (out-Value t) (out-Value c)

  pub count_chance : (t c : Value) → distribution (binomial_in (out-Value t) (out-Value c) n) view ≢ Amiss → real_of c ≢ None
  count_chance t c = count_chance_in (out-Value t) (out-Value c)

  pub binomial_is : (t c : Value) (x y : ℤ) → int_of t ≡ Some x → real_of c ≡ Some y → distribution (binomial_in (out-Value t) (out-Value c) n) view ≡ Gives (value.Dist (dist.Binomial x y n)) view
  binomial_is t c = binomial_is_in (out-Value t) (out-Value c)

pub ruleset uniforms = (to_z-of_z, int_second, real_second, ints_are, reals_are)

pub ruleset trials = (to_z-of_z, count_first, count_chance, binomial_is)

pub ruleset means = (to_z-of_z, mean, exponential_is)

-- what is drawn
module _ (seed : ℕ) (d : Dist) (view : View) where
  not_wrong : after_drawing (sampled seed view.draws d) view ≢ Amiss → sampled seed view.draws d ≢ wrong
  not_wrong h e = h (ap (λ s. after_drawing s view) e)

  by_stream_there : (b : Bool) → has_stream d ≡ b → length view.draws ≡ 64 → sampled seed view.draws d ≢ wrong → b ≡ true
  by_stream_there true e all h = refl
  by_stream_there false e all h = absurd (h ((wrong_told seed view.draws d all).1 e))

  pub drawn_stream : length view.draws ≡ 64 → after_drawing (sampled seed view.draws d) view ≢ Amiss → IsTrue (has_stream d)
  drawn_stream all h = by_stream_there (has_stream d) refl all (not_wrong h)

  pub drawn_is : (x : Drawn) (taken : List ℕ) → sampled seed view.draws d ≡ draws x taken
      → after_drawing (sampled seed view.draws d) view ≡ Gives (value_drawn x) (record view { draws = taken })
  drawn_is x taken e = ap (λ s. after_drawing s view) e

  pub drawn_refused : (fault : DistFault) → sampled seed view.draws d ≡ refuses fault → after_drawing (sampled seed view.draws d) view ≡ Fails BadDistribution
  drawn_refused fault e = ap (λ s. after_drawing s view) e

pub ruleset drawing = (drawn_stream, drawn_is, drawn_refused)
