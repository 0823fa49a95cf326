-- How many steps a run still takes: the measure of a loop that runs a machine.
use Rattle.std.proofs.Common.{◌≡◌, ℕ, zero, suc, ◌≤◌, ◌<◌, Option, Some, None, Bool, true, false, refl, sym, ap, ◌∙◌, arith}
use Rattle.std.proofs.Math.Logic.{∥∥₁_elim, ∥∥₁_prop}
use mathlib.Core.HLevel.{is_prop→PathP}
use Rattle.std.specs.Coded.{Coded-set, coded_ℕ, coded_bool}
use Rattle.chi_exec_law.specs.Runs.{End, Next, Goes, Ends, Stuck, go_on, runs, Halts}

abbrev counted : {S R : Type 0} → Next S R → (S → ℕ) → ℕ
counted (Goes s) next = suc (next s)
counted (Ends a) next = 1
counted Stuck next = 1

module _ {S R : Type 0} (step : S → Next S R) where
  -- how many of at most n steps are done
  pub count : ℕ → S → ℕ
  count zero s = 0
  count (suc n) s = counted (step s) (count n)

  abbrev pub IsOver : ℕ → S → Type 0
  IsOver n s = (a : End R) × (runs step n s ≡ Some a)

  longer : (n k : ℕ) (s : S) (a : End R) → n ≤ k → runs step n s ≡ Some a → runs step k s ≡ Some a
  unfolding runs
  longer zero k s a le h = absurd cc
  longer (suc n) zero s a le h = absurd (omega arith)
  longer (suc n) (suc k) s a le h = next (step s) (λ t. longer n k t a (omega arith)) h
    where
      next : (o : Next S R) → ((t : S) → runs step n t ≡ Some a → runs step k t ≡ Some a) → go_on step o (runs step n) ≡ Some a → go_on step o (runs step k) ≡ Some a
      next (Goes t) ih p = ih t p
      next (Ends o) ih p = p
      next Stuck ih p = p

  same_count : (n k : ℕ) (s : S) (a b : End R) → runs step n s ≡ Some a → runs step k s ≡ Some b → count n s ≡ count k s
  unfolding runs count
  same_count zero k s a b h l = absurd cc
  same_count (suc n) zero s a b h l = absurd cc
  same_count (suc n) (suc k) s a b h l = next (step s) (λ t. same_count n k t a b) h l
    where
      next : (o : Next S R) → ((t : S) → runs step n t ≡ Some a → runs step k t ≡ Some b → count n t ≡ count k t) → go_on step o (runs step n) ≡ Some a → go_on step o (runs step k) ≡ Some b → counted o (count n) ≡ counted o (count k)
      next (Goes t) ih p q = ap suc (ih t p q)
      next (Ends o) ih p q = refl
      next Stuck ih p q = refl

  -- the count suffices
  enough : (n : ℕ) (s : S) (a : End R) → runs step n s ≡ Some a → runs step (count n s) s ≡ Some a
  unfolding runs count
  enough zero s a h = h
  enough (suc n) s a h = next (step s) refl (λ t. enough n t a) h
    where
      next : (o : Next S R) → step s ≡ o → ((t : S) → runs step n t ≡ Some a → runs step (count n t) t ≡ Some a) → go_on step o (runs step n) ≡ Some a → runs step (counted o (count n)) s ≡ Some a
      next (Goes t) e ih p = ap (λ o. go_on step o (runs step (count n t))) e ∙ ih t p
      next (Ends o) e ih p = ap (λ o. go_on step o (runs step 0)) e ∙ p
      next Stuck e ih p = absurd cc

  -- the number of steps, of which there is only one
  abbrev Counts : S → ℕ → Type 0
  Counts s n = ∥ ((k : ℕ) × (a : End R) × (runs step k s ≡ Some a) × (n ≡ count k s)) ∥₁

  counts_same : (s : S) (n k : ℕ) → Counts s n → Counts s k → n ≡ k
  counts_same s n k x y = ∥∥₁_elim x (Coded-set coded_ℕ n k) (λ u. ∥∥₁_elim y (Coded-set coded_ℕ n k) (λ v. u.3 ∙ same_count u.0 v.0 s u.1 v.1 u.2 v.2 ∙ sym v.3))

  number_prop : (s : S) → IsProp ((n : ℕ) × Counts s n)
  number_prop s u v i = let p = counts_same s u.0 v.0 u.1 v.1 in (p i, is_prop→PathP (λ j. Counts s (p j)) (λ j. ∥∥₁_prop) u.1 v.1 i)

  number : (s : S) → ∥ Halts step s ∥₁ → (n : ℕ) × Counts s n
  number s h = ∥∥₁_elim h (number_prop s) (λ x. (count x.1.steps s, ∣ (x.1.steps, x.0, x.1.is, refl) ∣₁))

  -- after so many steps the run is over
  pub bound : (s : S) → ∥ Halts step s ∥₁ → ℕ
  bound s h = (number s h).0

  abbrev is_some : Option (End R) → Bool
  is_some None = false
  is_some (Some a) = true

  some_of : (o : Option (End R)) → is_some o ≡ true → (a : End R) × (o ≡ Some a)
  some_of None h = absurd cc
  some_of (Some a) h = (a, refl)

  pub over_within : (s : S) (h : ∥ Halts step s ∥₁) → IsOver (bound s h) s
  unfolding bound
  over_within s h =
      let n = number s h in
      some_of (runs step n.0 s) (∥∥₁_elim n.1 (Coded-set coded_bool _ _) (λ u. ap (λ n. is_some (runs step n s)) u.3 ∙ ap is_some (enough u.0 s u.1 u.2)))

  pub over_next : (n : ℕ) (s t : S) → IsOver n s → step s ≡ Goes t → IsOver n t
  unfolding runs
  over_next zero s t h e = let p = h.1 in absurd cc
  over_next (suc n) s t h e = (h.0, longer n (suc n) t h.0 (omega arith) (sym (ap (λ o. go_on step o (runs step n)) e) ∙ h.1))

  pub fewer_left : (n : ℕ) (s t : S) → IsOver n s → step s ≡ Goes t → count n t < count n s
  unfolding runs count
  fewer_left zero s t h e = let p = h.1 in absurd cc
  fewer_left (suc n) s t h e =
      let r : runs step n t ≡ Some h.0 = sym (ap (λ o. go_on step o (runs step n)) e) ∙ h.1 in
      let l : count (suc n) t ≡ count n t = same_count (suc n) n t h.0 h.0 (longer n (suc n) t h.0 (omega arith) r) r in
      let k : count (suc n) s ≡ suc (count n t) = ap (λ o. counted o (count n)) e in
      omega (arith, l, k)

  pub over_halts : (n : ℕ) (s : S) → IsOver n s → Halts step s
  over_halts n s h = (h.0, record { steps = n; is = h.1 })
