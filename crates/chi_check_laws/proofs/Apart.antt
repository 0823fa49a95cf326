-- What unwinds bind is apart from all else that is set: of two fills of which an unwind has one, the slots differ.
use Rattle.std.proofs.Common.{◌≡◌, ◌⊎◌, inl, inr, ℕ, zero, suc, true, List, [], ◌∷◌, ◌++◌, map, Some, refl, sym, ap, subst, ◌∙◌, append_assoc}
use Rattle.std.specs.Prelude.{slice_get}
use Rattle.chi_core.specs.Fills.{Fill, Fills, unwound, one_after_another, SetOnce}
use Rattle.chi_check_expr.proofs.Kept.{Each}
use Rattle.chi_check_laws.proofs.Conversions.{some_is}

pub each_map : {A : Type 0} (P Q : A → Type 0) (xs : List A) → ((x : A) → P x → Q x) → Each P xs → Each Q xs
each_map P Q [] f h = tt
each_map P Q (x ∷ xs) f h = (f x h.0, each_map P Q xs f h.1)

abbrev pub Apart : Fill → Fill → Type 0
Apart f g = (f.by_unwind ≡ true) ⊎ (g.by_unwind ≡ true) → f.slot ≡ g.slot → ⊥

abbrev pub AllApart : Fills → Type 0
AllApart [] = Unit {0}
AllApart (f ∷ fs) = Each (Apart f) fs × AllApart fs

pub apart_append : (fs gs : Fills) → AllApart fs → AllApart gs → Each (λ f. Each (Apart f) gs) fs → AllApart (fs ++ gs)
apart_append [] gs h k cross = k
apart_append (f ∷ fs) gs h k cross = (each_both f fs gs h.0 cross.0, apart_append fs gs h.1 k cross.1)
  where
    each_both : (f : Fill) (fs gs : Fills) → Each (Apart f) fs → Each (Apart f) gs → Each (Apart f) (fs ++ gs)
    each_both f [] gs h k = k
    each_both f (g ∷ fs) gs h k = (h.0, each_both f fs gs h.1 k)

-- each of one from each of the other
pub crossed : {A : Type 0} (R : A → A → Type 0) (xs ys : List A) → Each (λ y. Each (λ x. R x y) xs) ys → Each (λ x. Each (R x) ys) xs
crossed {A = A} R [] ys h = tt
crossed {A = A} R (x ∷ xs) ys h = (firsts x xs ys h, crossed R xs ys (rests x xs ys h))
  where
    firsts : (x : A) (xs ys : List A) → Each (λ y. Each (λ x. R x y) (x ∷ xs)) ys → Each (R x) ys
    firsts x xs [] h = tt
    firsts x xs (y ∷ ys) h = (h.0.0, firsts x xs ys h.1)

    rests : (x : A) (xs ys : List A) → Each (λ y. Each (λ x. R x y) (x ∷ xs)) ys → Each (λ y. Each (λ x. R x y) xs) ys
    rests x xs [] h = tt
    rests x xs (y ∷ ys) h = (h.0.1, rests x xs ys h.1)

pub each_found : {A : Type 0} (P : A → Type 0) (xs : List A) (k : ℕ) (x : A) → Each P xs → slice_get xs k ≡ Some x → P x
each_found P [] k x h e = absurd (cc)
each_found P (y ∷ xs) zero x h e = subst P (some_is y x e) h.0
each_found P (y ∷ xs) (suc k) x h e = each_found P xs k x h.1 e

-- what an unwind binds is set once
pub set_once : (fs : Fills) → AllApart fs → (k slot : ℕ) → slice_get fs k ≡ Some (unwound slot) → SetOnce fs k slot
set_once [] h k slot e j other is same = absurd (cc)
set_once (f ∷ fs) h zero slot e zero other is same = refl
set_once (f ∷ fs) h zero slot e (suc j) other is same =
    let first : f ≡ unwound slot = some_is f (unwound slot) e in
    absurd (each_found (Apart f) fs j other h.0 is (inl (ap (λ (f : Fill). f.by_unwind) first)) (ap (λ (f : Fill). f.slot) first ∙ sym same))
set_once (f ∷ fs) h (suc k) slot e zero other is same =
    let first : f ≡ other = some_is f other is in
    absurd (each_found (Apart f) fs k (unwound slot) h.0 e (inr refl) (ap (λ (f : Fill). f.slot) first ∙ same))
set_once (f ∷ fs) h (suc k) slot e (suc j) other is same = ap suc (set_once fs h.1 k slot e j other is same)

pub in_two : {A : Type 0} (by : A → Fills) (xs ys : List A) → one_after_another (map by (xs ++ ys)) ≡ one_after_another (map by xs) ++ one_after_another (map by ys)
in_two by [] ys = refl
in_two by (x ∷ xs) ys = ap (λ rest. by x ++ rest) (in_two by xs ys) ∙ sym (append_assoc (by x) (one_after_another (map by xs)) (one_after_another (map by ys)))
