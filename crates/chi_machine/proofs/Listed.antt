-- Lists in which an element is set.
use Rattle.std.proofs.Common.{◌≡◌, ◌≢◌, ℕ, zero, suc, ◌<◌, List, [], ◌∷◌, ◌++◌, length, Some, refl, ap, arith}
use Rattle.std.specs.Prelude.{slice_get, slice_set}

pub set_own : {A : Type 0} (xs : List A) (p : ℕ) (x : A) → slice_get xs p ≡ Some x → slice_set xs p x ≡ xs
set_own [] p x e = refl
set_own (y ∷ ys) zero x e = let same : x ≡ y = cc in ap (λ z. z ∷ ys) same
set_own (y ∷ ys) (suc p) x e = ap (λ l. y ∷ l) (set_own ys p x e)

pub set_again : {A : Type 0} (xs : List A) (p : ℕ) (x y : A) → slice_set (slice_set xs p x) p y ≡ slice_set xs p y
set_again [] p x y = refl
set_again (z ∷ zs) zero x y = refl
set_again (z ∷ zs) (suc p) x y = ap (λ l. z ∷ l) (set_again zs p x y)

pub set_before : {A : Type 0} (xs ys : List A) (p : ℕ) (x : A) → p < length xs → slice_set (xs ++ ys) p x ≡ slice_set xs p x ++ ys
set_before [] ys p x h = absurd (omega (arith, h))
set_before (z ∷ zs) ys zero x h = refl
set_before (z ∷ zs) ys (suc p) x h = ap (λ l. z ∷ l) (set_before zs ys p x (omega (arith, h)))

pub set_last : {A : Type 0} (xs : List A) (p : ℕ) (x y : A) → p ≡ length xs → slice_set (xs ++ x ∷ []) p y ≡ xs ++ y ∷ []
set_last [] zero x y h = refl
set_last [] (suc p) x y h = absurd (omega (arith, h))
set_last (z ∷ zs) zero x y h = absurd (omega (arith, h))
set_last (z ∷ zs) (suc p) x y h = ap (λ l. z ∷ l) (set_last zs p x y (omega (arith, h)))

pub get_set : {A : Type 0} (xs : List A) (p : ℕ) (x : A) → p < length xs → slice_get (slice_set xs p x) p ≡ Some x
get_set [] p x h = absurd (omega (arith, h))
get_set (y ∷ ys) zero x h = refl
get_set (y ∷ ys) (suc p) x h = get_set ys p x (omega (arith, h))

pub get_other : {A : Type 0} (xs : List A) (p q : ℕ) (x : A) → q ≢ p → slice_get (slice_set xs p x) q ≡ slice_get xs q
get_other [] p q x others = refl
get_other (y ∷ ys) zero zero x others = absurd (others refl)
get_other (y ∷ ys) zero (suc q) x others = refl
get_other (y ∷ ys) (suc p) zero x others = refl
get_other (y ∷ ys) (suc p) (suc q) x others = get_other ys p q x (λ e. others (ap suc e))

pub get_before : {A : Type 0} (xs ys : List A) (p : ℕ) → p < length xs → slice_get (xs ++ ys) p ≡ slice_get xs p
get_before [] ys p h = absurd (omega (arith, h))
get_before (z ∷ zs) ys zero h = refl
get_before (z ∷ zs) ys (suc p) h = get_before zs ys p (omega (arith, h))

pub get_last : {A : Type 0} (xs : List A) (p : ℕ) (x : A) → p ≡ length xs → slice_get (xs ++ x ∷ []) p ≡ Some x
get_last [] zero x h = refl
get_last [] (suc p) x h = absurd (omega (arith, h))
get_last (z ∷ zs) zero x h = absurd (omega (arith, h))
get_last (z ∷ zs) (suc p) x h = get_last zs p x (omega (arith, h))

pub length_set : {A : Type 0} (xs : List A) (p : ℕ) (x : A) → length (slice_set xs p x) ≡ length xs
length_set [] p x = refl
length_set (y ∷ ys) zero x = refl
length_set (y ∷ ys) (suc p) x = ap suc (length_set ys p x)

-- where there are as many of another kind, an element is there too
pub there_too : {A B : Type 0} (xs : List A) (ys : List B) (p : ℕ) (y : B) → length ys ≡ length xs → slice_get ys p ≡ Some y → (x : A) × (slice_get xs p ≡ Some x)
there_too xs [] p y h e = absurd (cc)
there_too [] (z ∷ ys) p y h e = absurd (omega (arith, h))
there_too (x ∷ xs) (z ∷ ys) zero y h e = (x, refl)
there_too (x ∷ xs) (z ∷ ys) (suc p) y h e = there_too xs ys p y (omega (arith, h)) e
