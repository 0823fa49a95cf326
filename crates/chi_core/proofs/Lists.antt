-- Facts on lists: elements by their places.
use Rattle.std.proofs.Common.{◌≡◌, zero, suc, List, [], ◌∷◌, subst}
use Rattle.chi_core.specs.Kinds.{Every}

module _ {A : Type 0} (P : A → Type 0) where
  pub every_nil : Every P []
  every_nil k x e = absurd (cc)

  pub every_cons : (x : A) (xs : List A) → P x → Every P xs → Every P (x ∷ xs)
  every_cons x xs p ps zero y e = let same : x ≡ y = cc in subst P same p
  every_cons x xs p ps (suc k) y e = ps k y e
