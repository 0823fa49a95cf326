-- Private to proofs. What stands where in lists: after more was put at the end, and with streams.
use Rattle.std.proofs.Common.{ℕ, zero, suc, ◌≡◌, ◌+◌, List, [], ◌∷◌, ◌++◌, map, length, Option, Some, None, refl, sym, ap, subst, arith}
use Rattle.std.specs.Prelude.{slice_get, option_map}
use Rattle.chi_core.specs.Kinds.{Every}
use Rattle.chi_check.specs.Below.chi_check_streams.specs.Streams.{Counting, each}
use Rattle.chi_check.specs.Below.chi_check_stat_lines.specs.Stated.{both, joined}
use Rattle.chi_check_expr.proofs.Kept.{Each}

pub length_join : {A : Type 0} (xs ys : List A) → length (xs ++ ys) ≡ length xs + length ys
length_join [] ys = sym (omega arith)
length_join (x ∷ xs) ys = let e = length_join xs ys in omega (arith, e)

-- what stands just after so many
pub get_seam : {A : Type 0} (xs ys : List A) (y : A) → slice_get (xs ++ y ∷ ys) (length xs) ≡ Some y
get_seam [] ys y = refl
get_seam (x ∷ xs) ys y = get_seam xs ys y

-- ---- each of a list

module _ {A : Type 0} (P : A → Type 0) where
  pub each_every : (xs : List A) → Each P xs → Every P xs
  each_every [] h k x e = absurd (cc)
  each_every (y ∷ xs) h zero x e =
      let same : y ≡ x = cc in
      subst P same h.0
  each_every (y ∷ xs) h (suc k) x e = each_every xs h.1 k x e

  pub each_join : (xs ys : List A) → Each P xs → Each P ys → Each P (xs ++ ys)
  each_join [] ys h k = k
  each_join (x ∷ xs) ys h k = (h.0, each_join xs ys h.1 k)

  pub every_each : (xs : List A) → Every P xs → Each P xs
  every_each [] h = tt
  every_each (x ∷ xs) h = (h 0 x refl, every_each xs (λ k y e. h (suc k) y e))

-- ---- lists one after another, where both are there

pub joined_parts : {A : Type 0} (a b : Option (List A)) (whole : List A) → joined a b ≡ Some whole → (x : List A) × (y : List A) × (a ≡ Some x) × (b ≡ Some y) × (x ++ y ≡ whole)
joined_parts None b whole e = absurd (cc)
joined_parts (Some x) None whole e = absurd (cc)
joined_parts (Some x) (Some y) whole e =
    let same : x ++ y ≡ whole = cc in
    (x, y, refl, refl, same)

pub both_parts : {A B C : Type 0} (f : A → B → C) (a : Option A) (b : Option B) (c : C) → both f a b ≡ Some c → (x : A) × (y : B) × (a ≡ Some x) × (b ≡ Some y) × (f x y ≡ c)
both_parts f None b c e = absurd (cc)
both_parts f (Some x) None c e = absurd (cc)
both_parts f (Some x) (Some y) c e =
    let same : f x y ≡ c = cc in
    (x, y, refl, refl, same)

pub map_parts : {A B : Type 0} (f : A → B) (a : Option A) (b : B) → option_map f a ≡ Some b → (x : A) × (a ≡ Some x) × (f x ≡ b)
map_parts f None b e = absurd (cc)
map_parts f (Some x) b e =
    let same : f x ≡ b = cc in
    (x, refl, same)

pub some_same : {A : Type 0} (a b : A) → Some a ≡ Some b → a ≡ b
some_same a b e = cc

-- ---- with streams

module _ {A : Type 0} (f : A → Counting A) where
  pub get_counted : (xs : List A) (start k : ℕ) (x : A) → slice_get xs k ≡ Some x → (count : ℕ) × (slice_get (each (map f xs) start).part k ≡ Some (f x count).part)
  get_counted [] start k x e = absurd (cc)
  get_counted (y ∷ xs) start zero x e =
      let same : y ≡ x = cc in
      (start, ap (λ z. Some (f z start).part) same)
  get_counted (y ∷ xs) start (suc k) x e = get_counted xs (f y start).next k x e

  pub counted_get : (xs : List A) (start k : ℕ) (z : A) → slice_get (each (map f xs) start).part k ≡ Some z → (x : A) × (count : ℕ) × (slice_get xs k ≡ Some x) × ((f x count).part ≡ z)
  counted_get [] start k z e = absurd (cc)
  counted_get (y ∷ xs) start zero z e =
      let same : (f y start).part ≡ z = cc in
      (y, start, refl, same)
  counted_get (y ∷ xs) start (suc k) z e = counted_get xs (f y start).next k z e
