-- One list that stands for another, element by element.
use Rattle.std.proofs.Common.{◌≡◌, ℕ, zero, suc, List, [], ◌∷◌, ◌++◌, length, Some, refl, ap, subst}
use Rattle.std.specs.Prelude.{slice_get, slice_set}
use Rattle.chi_machine_laws.specs.Stands.{Pairwise, none, more}

module _ {A B : Type 0} (R : A → B → Type 0) where
  pub pairs_length : (xs : List A) (ys : List B) → Pairwise R xs ys → length ys ≡ length xs
  pairs_length _ _ none = refl
  pairs_length _ _ (more a b xs ys h r) = ap suc (pairs_length xs ys r)

  pub pairs_append : (xs us : List A) (ys vs : List B) → Pairwise R xs ys → Pairwise R us vs → Pairwise R (xs ++ us) (ys ++ vs)
  pairs_append _ us _ vs none k = k
  pairs_append _ us _ vs (more a b xs ys h r) k = more a b (xs ++ us) (ys ++ vs) h (pairs_append xs us ys vs r k)

  pub pairs_end : (xs : List A) (ys : List B) (a : A) (b : B) → Pairwise R xs ys → R a b → Pairwise R (xs ++ a ∷ []) (ys ++ b ∷ [])
  pairs_end xs ys a b r h = pairs_append xs (a ∷ []) ys (b ∷ []) r (more a b [] [] h none)

  pub pairs_set : (xs : List A) (ys : List B) (n : ℕ) (a : A) (b : B) → Pairwise R xs ys → R a b → Pairwise R (slice_set xs n a) (slice_set ys n b)
  pairs_set _ _ n a b none k = none
  pairs_set _ _ zero a b (more x y xs ys h r) k = more a b xs ys k r
  pairs_set _ _ (suc n) a b (more x y xs ys h r) k = more x y (slice_set xs n a) (slice_set ys n b) h (pairs_set xs ys n a b r k)

  pub pairs_get : (xs : List A) (ys : List B) (n : ℕ) (a : A) → Pairwise R xs ys → slice_get xs n ≡ Some a → (b : B) × (slice_get ys n ≡ Some b) × R a b
  pairs_get _ _ n a none e = absurd (cc)
  pairs_get _ _ zero a (more x y xs ys h r) e = let same : x ≡ a = cc in (y, refl, subst (λ a. R a y) same h)
  pairs_get _ _ (suc n) a (more x y xs ys h r) e = pairs_get xs ys n a r e
