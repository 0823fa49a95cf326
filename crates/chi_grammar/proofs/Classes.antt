-- Classes of the next token: in a longer list of classes, in two lists at once, in none.
use Rattle.std.proofs.Common.{◌≡◌, ℕ, Bool, true, false, not, ◌||◌, if◌then◌else◌, ◌==◌, Option, Some, None, List, [], ◌∷◌, ◌++◌, ◌⊎◌, inl, inr, refl, sym, subst}
use Rattle.std.proofs.lemmas.Bool.{and_parts, or_cases, eqb-true, eq-eqb, not-true}
use Rattle.std.specs.List.{list_all}
use Rattle.chi_grammar.specs.Rules.{Grammar}
use Rattle.chi_grammar.specs.Lookahead.{holds, starts_in, Next}
use Rattle.chi_grammar.specs.Fine.{are_apart, are_among}

or_right : (a b : Bool) → b ≡ true → (a || b) ≡ true
or_right true b e = refl
or_right false b e = e

or_left : (a b : Bool) → a ≡ true → (a || b) ≡ true
or_left true b e = refl
or_left false b e = cc

holds_left : (xs ys : List ℕ) (c : ℕ) → holds xs c ≡ true → holds (xs ++ ys) c ≡ true
holds_left [] ys c h = cc
holds_left (x ∷ xs) ys c h =
    elim (or_cases (x == c) (holds xs c) h) [
      | inl e ↦ or_left (x == c) (holds (xs ++ ys) c) e
      | inr e ↦ or_right (x == c) (holds (xs ++ ys) c) (holds_left xs ys c e)
    ]

holds_right : (xs ys : List ℕ) (c : ℕ) → holds ys c ≡ true → holds (xs ++ ys) c ≡ true
holds_right [] ys c h = h
holds_right (x ∷ xs) ys c h = or_right (x == c) (holds (xs ++ ys) c) (holds_right xs ys c h)

holds_split : (xs ys : List ℕ) (c : ℕ) → holds (xs ++ ys) c ≡ true → (holds xs c ≡ true) ⊎ (holds ys c ≡ true)
holds_split [] ys c h = inr h
holds_split (x ∷ xs) ys c h =
    elim (or_cases (x == c) (holds (xs ++ ys) c) h) [
      | inl e ↦ inl (or_left (x == c) (holds xs c) e)
      | inr e ↦ elim (holds_split xs ys c e) [ inl f ↦ inl (or_right (x == c) (holds xs c) f) | inr f ↦ inr f ]
    ]

-- a test that each class of a list passes is passed by one that it holds
passes : (p : ℕ → Bool) (xs : List ℕ) (c : ℕ) → list_all p xs ≡ true → holds xs c ≡ true → p c ≡ true
passes p [] c all h = cc
passes p (x ∷ xs) c all h =
    let parts = and_parts (p x) (list_all p xs) all in
    elim (or_cases (x == c) (holds xs c) h) [
      | inl e ↦ subst (λ d. p d ≡ true) (eqb-true x c e) parts.0
      | inr e ↦ passes p xs c parts.1 e
    ]

-- the token at the index is of one of the classes
abbrev pub In : {A S : Type 0} → Grammar A S → List A → ℕ → List ℕ → Type 0
In g ts i classes = Next g ts i classes true

module _ {A : Type 0} (class_of : A → ℕ) where
  pub in_none : (o : Option A) → starts_in class_of [] o ≡ true → ⊥
  in_none None h = cc
  in_none (Some x) h = cc

  pub in_one : (c : ℕ) (x : A) → class_of x ≡ c → starts_in class_of (c ∷ []) (Some x) ≡ true
  in_one c x e = or_left (c == class_of x) false (eq-eqb c (class_of x) (sym e))

  pub of_one : (c : ℕ) (x : A) → starts_in class_of (c ∷ []) (Some x) ≡ true → class_of x ≡ c
  of_one c x h = elim (or_cases (c == class_of x) false h) [ inl e ↦ sym (eqb-true c (class_of x) e) | inr e ↦ cc ]

  pub in_left : (xs ys : List ℕ) (o : Option A) → starts_in class_of xs o ≡ true → starts_in class_of (xs ++ ys) o ≡ true
  in_left xs ys None h = cc
  in_left xs ys (Some x) h = holds_left xs ys (class_of x) h

  pub in_right : (xs ys : List ℕ) (o : Option A) → starts_in class_of ys o ≡ true → starts_in class_of (xs ++ ys) o ≡ true
  in_right xs ys None h = cc
  in_right xs ys (Some x) h = holds_right xs ys (class_of x) h

  pub in_split : (xs ys : List ℕ) (o : Option A) → starts_in class_of (xs ++ ys) o ≡ true
      → (starts_in class_of xs o ≡ true) ⊎ (starts_in class_of ys o ≡ true)
  in_split xs ys None h = inl h
  in_split xs ys (Some x) h = holds_split xs ys (class_of x) h

  pub in_apart : (xs ys : List ℕ) (o : Option A) → are_apart xs ys ≡ true
      → starts_in class_of xs o ≡ true → starts_in class_of ys o ≡ true → ⊥
  in_apart xs ys None apart h k = cc
  in_apart xs ys (Some x) apart h k =
      let not_there = not-true (holds ys (class_of x)) (passes (λ c. not (holds ys c)) xs (class_of x) apart h) in cc

  pub in_among : (xs ys : List ℕ) (o : Option A) → are_among xs ys ≡ true
      → starts_in class_of xs o ≡ true → starts_in class_of ys o ≡ true
  in_among xs ys None among h = h
  in_among xs ys (Some x) among h = passes (λ c. holds ys c) xs (class_of x) among h

  pub in_either : (b : Bool) (xs ys : List ℕ) (o : Option A) → starts_in class_of xs o ≡ true
      → starts_in class_of (if b then xs ++ ys else xs) o ≡ true
  in_either true xs ys o h = in_left xs ys o h
  in_either false xs ys o h = h

  pub in_second : (b : Bool) (xs ys : List ℕ) (o : Option A) → b ≡ true → starts_in class_of ys o ≡ true
      → starts_in class_of (if b then xs ++ ys else xs) o ≡ true
  in_second true xs ys o e h = in_right xs ys o h
  in_second false xs ys o e h = cc
