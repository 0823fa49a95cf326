-- The instances that have an option are those that are marked.
use Rattle.std.proofs.Common.{◌≡◌, ℕ, zero, suc, ◌≤◌, List, [], ◌∷◌, ◌++◌, Bool, false, cond, length, ◌⊎◌, inl, inr, ◌∙◌, ap, refl, arith}
use Rattle.std.specs.Prelude.{filter}
use Rattle.std.proofs.lemmas.Option.{slice_get_past}
use Rattle.chi_core.specs.Config.{Config}
use Rattle.chi_core.specs.Options.{numbers, actors}
use Rattle.chi_order.specs.Marked.{is_marked, members}
use Rattle.chi_order.specs.Marked.{numbers as numbers_below}
use Rattle.chi_plain_open.proofs.Numbers.{failing}
use Rattle.chi_plain_options.proofs.Havings.{acts-none}
use Rattle.chi_plain_options.specs.Acting.{acts}
use Rattle.chi_plain.specs.Watching.{IsMarked}

filter-same : (f g : ℕ → Bool) (xs : List ℕ) → ((x : ℕ) → f x ≡ g x) → filter f xs ≡ filter g xs
filter-same f g [] h = refl
filter-same f g (x ∷ xs) h = (λ k. cond (h x k) (x ∷ filter-same f g xs h k) (filter-same f g xs h k))

same-numbers : (n : ℕ) → numbers_below n ≡ numbers n
same-numbers zero = refl
same-numbers (suc n) = ap (λ (l : List ℕ). l ++ n ∷ []) (same-numbers n)

-- past the instances nobody has an option
module _ (config : Config) where
  none-past : (p : ℕ) → length config.instances ≤ p → acts config p ≡ false
  none-past p h = acts-none config p (slice_get_past config.instances p h)

  no-more : (n : ℕ) → length config.instances ≤ n → filter (acts config) (numbers n) ≡ actors config
  no-more zero h = let e : 0 ≡ length config.instances = omega (arith, h) in ap (λ (k : ℕ). filter (acts config) (numbers k)) e
  no-more (suc n) h = by_cases (no-more n) (let c : (length config.instances ≤ n) ⊎ (suc n ≡ length config.instances) = grind arith in c)
    where
      by_cases : (length config.instances ≤ n → filter (acts config) (numbers n) ≡ actors config)
          → (length config.instances ≤ n) ⊎ (suc n ≡ length config.instances) → filter (acts config) (numbers (suc n)) ≡ actors config
      by_cases before (inl l) = failing (acts config) n (none-past n l) ∙ before l
      by_cases before (inr e) = ap (λ (k : ℕ). filter (acts config) (numbers k)) e

  pub marked-actors : (marks : List Bool) → IsMarked config marks → members marks ≡ actors config
  unfolding members
  marked-actors marks h =
      ap (filter (is_marked marks)) (same-numbers (length marks)) ∙ filter-same (is_marked marks) (acts config) (numbers (length marks)) h.each
      ∙ no-more (length marks) h.room

  pub marked-count : (marks : List Bool) → IsMarked config marks → length (members marks) ≡ length (actors config)
  marked-count marks h = ap length (marked-actors marks h)

pub ruleset marked_is = (marked-actors, marked-count)
