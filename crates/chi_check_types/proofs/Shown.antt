-- Private to proofs. The entries of a map, with their names as bytes.
use Rattle.std.proofs.Common.{◌≡◌, ℕ, Bool, true, false, cond, List, [], ◌∷◌, ◌++◌, map, Option, Some, None, refl, ap}
use Rattle.std.specs.Map.{lookup}
use Rattle.std.specs.Str.{bytes_eq}
use Rattle.indexmap.specs.IndexMap.{insert_entry}
use Rattle.chi_check_types.specs.Names.{looked_up}

module _ {K V : Type 0} (bytes : K → List ℕ) where
  abbrev pub shown : K × V → List ℕ × V
  shown e = (bytes e.0, e.1)

  pub known_shown : (name : List ℕ) (es : List (K × V)) → lookup (λ k. bytes_eq name (bytes k)) es ≡ looked_up (map shown es) name
  known_shown name [] = refl
  known_shown name (e ∷ es) = ap (cond (bytes_eq name (bytes e.0)) (Some e.1)) (known_shown name es)

  added : (b : Bool) (x : Option V) (e : K × V) (es more : List (K × V)) (new : List ℕ × V) (v : V) → cond b (Some e.1) x ≡ None → (x ≡ None → map shown more ≡ map shown es ++ new ∷ []) → map shown (cond b ((e.0, v) ∷ es) (e ∷ more)) ≡ map shown (e ∷ es) ++ new ∷ []
  added true x e es more new v h go = absurd (cc)
  added false x e es more new v h go = ap (λ r. shown e ∷ r) (go h)

  pub insert_shown : (es : List (K × V)) (k : K) (v : V) → looked_up (map shown es) (bytes k) ≡ None → map shown (insert_entry (λ i j. bytes_eq (bytes i) (bytes j)) es k v) ≡ map shown es ++ (bytes k, v) ∷ []
  insert_shown [] k v h = refl
  insert_shown (e ∷ es) k v h = added (bytes_eq (bytes k) (bytes e.0)) _ e es (insert_entry (λ i j. bytes_eq (bytes i) (bytes j)) es k v) (bytes k, v) v h (insert_shown es k v)
