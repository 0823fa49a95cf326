-- The best of numbers, as one more is looked at.
use Rattle.std.proofs.Common.{◌≡◌, ◌≢◌, ℕ, ℤ, ◌+◌, ◌<◌, List, ◌∷◌, Some, None, length, drop, get_or, ap, sym, ◌∙◌}
use Rattle.std.proofs.lemmas.Int.{to_z-of_z}
use Rattle.std.proofs.lemmas.List.{drop_more}
use Rattle.chi_value.specs.declared.value.Value.{Value}
use Rattle.chi_core.specs.declared.view.View.{View}
use Rattle.chi_core.specs.Answer.{Amiss}
use Rattle.chi_core.specs.Arithmetic.{best_int, best_real}
use Rattle.chi_core.specs.Reading.{int_of, real_of}
use Rattle.chi_core_apply.proofs.Numbers.{int_first, int_is, real_first, real_is}

module _ (better : ℤ → ℤ → ℤ) (x : ℤ) (all : List Value) (i : ℕ) (b : Value) (view : View) (h : i < length all) (is : b ≡ get_or all i b) where
  ints : best_int better x (drop i all) view ≡ best_int better x (b ∷ drop (i + 1) all) view
  ints = ap (λ l. best_int better x l view) (drop_more all i b h) ∙ ap (λ c. best_int better x (c ∷ drop (i + 1) all) view) (sym is)

  pub next_int : best_int better x (drop i all) view ≢ Amiss → int_of b ≢ None
  next_int there = int_first (λ y. best_int better (better x y) (drop (i + 1) all)) view b (λ a. there (ints ∙ a))

  pub past_int : (y : ℤ) → int_of b ≡ Some y → best_int better x (drop i all) view ≡ best_int better (better x y) (drop (i + 1) all) view
  past_int y e = ints ∙ int_is (λ y. best_int better (better x y) (drop (i + 1) all)) view b y e

  reals : best_real better x (drop i all) view ≡ best_real better x (b ∷ drop (i + 1) all) view
  reals = ap (λ l. best_real better x l view) (drop_more all i b h) ∙ ap (λ c. best_real better x (c ∷ drop (i + 1) all) view) (sym is)

  pub next_real : best_real better x (drop i all) view ≢ Amiss → real_of b ≢ None
  next_real there = real_first (λ y. best_real better (better x y) (drop (i + 1) all)) view b (λ a. there (reals ∙ a))

  pub past_real : (y : ℤ) → real_of b ≡ Some y → best_real better x (drop i all) view ≡ best_real better (better x y) (drop (i + 1) all) view
  past_real y e = reals ∙ real_is (λ y. best_real better (better x y) (drop (i + 1) all)) view b y e

pub ruleset bests = (to_z-of_z, next_int, past_int, next_real, past_real)
