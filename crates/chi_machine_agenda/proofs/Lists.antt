-- Facts on numbers and lists that several pages need.
use Rattle.std.proofs.Common.{◌≡◌, ◌≢◌, ℕ, zero, suc, ◌+◌, ◌<◌, ◌≤◌, List, [], ◌∷◌, ◌++◌, Option, Some, None, Bool, true, false, length, get_or, drop, ◌⊎◌, inl, inr, sym, ◌∙◌, ap, subst, refl, arith}
use Rattle.std.specs.Prelude.{nat_eq, nat_lt, slice_set, map, option_map, Result, Ok, Err, OnErr}
use Rattle.std.specs.List.{slice_get}
use Rattle.std.proofs.lemmas.Bool.{false≢true}

pub eq-cases : (x y : ℕ) → (x ≡ y) ⊎ (x ≢ y)
eq-cases zero zero = inl refl
eq-cases zero (suc y) = inr (λ e. cc)
eq-cases (suc x) zero = inr (λ e. cc)
eq-cases (suc x) (suc y) = by_rest (eq-cases x y)
  where
    by_rest : (x ≡ y) ⊎ (x ≢ y) → (suc x ≡ suc y) ⊎ (suc x ≢ suc y)
    by_rest (inl e) = inl (ap suc e)
    by_rest (inr d) = inr (λ e. d (omega (arith, e)))

pub eq-yes : (x y : ℕ) → x ≡ y → nat_eq x y ≡ true
eq-yes x y e = grind arith

pub eq-no : (x y : ℕ) → x ≢ y → nat_eq x y ≡ false
eq-no x y n = by_test (nat_eq x y) refl
  where
    by_test : (b : Bool) → nat_eq x y ≡ b → nat_eq x y ≡ false
    by_test true e = absurd (n (grind arith))
    by_test false e = e

pub eq-is : (x y : ℕ) → nat_eq x y ≡ true → x ≡ y
eq-is x y e = grind arith

pub same-bool : (a b : Bool) → (a ≡ true → b ≡ true) → (b ≡ true → a ≡ true) → a ≡ b
same-bool true b f g = sym (f refl)
same-bool false true f g = absurd (false≢true (g refl))
same-bool false false f g = refl

-- reading

pub got : {A : Type 0} (xs : List A) (i : ℕ) (d : A) → i < length xs → slice_get xs i ≡ Some (get_or xs i d)
got [] i d h = absurd (omega (arith, h))
got (x ∷ xs) zero d h = refl
got (x ∷ xs) (suc i) d h = got xs i d (omega (arith, h))

pub got-none : {A : Type 0} (xs : List A) (i : ℕ) → length xs ≤ i → slice_get xs i ≡ None
got-none [] i h = refl
got-none (x ∷ xs) zero h = absurd (omega (arith, h))
got-none (x ∷ xs) (suc i) h = got-none xs i (omega (arith, h))

pub got-within : {A : Type 0} (xs : List A) (i : ℕ) (x : A) → slice_get xs i ≡ Some x → i < length xs
got-within [] i x e = absurd (cc)
got-within (y ∷ ys) zero x e = omega arith
got-within (y ∷ ys) (suc i) x e = let r = got-within ys i x e in omega (arith, r)

pub got-or : {A : Type 0} (xs : List A) (i : ℕ) (x d : A) → slice_get xs i ≡ Some x → get_or xs i d ≡ x
got-or [] i x d e = absurd (cc)
got-or (y ∷ ys) zero x d e = cc
got-or (y ∷ ys) (suc i) x d e = got-or ys i x d e

pub or-past : {A : Type 0} (xs : List A) (i : ℕ) (d : A) → length xs ≤ i → get_or xs i d ≡ d
or-past [] i d h = refl
or-past (x ∷ xs) zero d h = absurd (omega (arith, h))
or-past (x ∷ xs) (suc i) d h = or-past xs i d (omega (arith, h))

pub map-got : {A B : Type 0} (f : A → B) (xs : List A) (i : ℕ) → slice_get (map f xs) i ≡ option_map f (slice_get xs i)
map-got f [] i = refl
map-got f (x ∷ xs) zero = refl
map-got f (x ∷ xs) (suc i) = map-got f xs i

-- two lists that have the same everywhere are one
pub same-list : {A : Type 0} (xs ys : List A) → ((i : ℕ) → slice_get xs i ≡ slice_get ys i) → xs ≡ ys
same-list [] [] h = refl
same-list [] (y ∷ ys) h = absurd (let e = h 0 in cc)
same-list (x ∷ xs) [] h = absurd (let e = h 0 in cc)
same-list (x ∷ xs) (y ∷ ys) h =
    let first : x ≡ y = (let e = h 0 in cc) in
    λ j. first j ∷ same-list xs ys (λ i. h (suc i)) j

-- setting

pub set-length : {A : Type 0} (xs : List A) (i : ℕ) (x : A) → length (slice_set xs i x) ≡ length xs
set-length [] i x = refl
set-length (y ∷ ys) zero x = refl
set-length (y ∷ ys) (suc i) x = ap suc (set-length ys i x)

pub set-there : {A : Type 0} (xs : List A) (i : ℕ) (x : A) → i < length xs → slice_get (slice_set xs i x) i ≡ Some x
set-there [] i x h = absurd (omega (arith, h))
set-there (y ∷ ys) zero x h = refl
set-there (y ∷ ys) (suc i) x h = set-there ys i x (omega (arith, h))

pub set-other : {A : Type 0} (xs : List A) (i k : ℕ) (x : A) → k ≢ i → slice_get (slice_set xs i x) k ≡ slice_get xs k
set-other [] i k x n = refl
set-other (y ∷ ys) zero zero x n = absurd (n refl)
set-other (y ∷ ys) zero (suc k) x n = refl
set-other (y ∷ ys) (suc i) zero x n = refl
set-other (y ∷ ys) (suc i) (suc k) x n = set-other ys i k x (λ e. n (ap suc e))

pub or-there : {A : Type 0} (xs : List A) (i : ℕ) (x d : A) → i < length xs → get_or (slice_set xs i x) i d ≡ x
or-there [] i x d h = absurd (omega (arith, h))
or-there (y ∷ ys) zero x d h = refl
or-there (y ∷ ys) (suc i) x d h = or-there ys i x d (omega (arith, h))

pub or-other : {A : Type 0} (xs : List A) (i k : ℕ) (x d : A) → k ≢ i → get_or (slice_set xs i x) k d ≡ get_or xs k d
or-other [] i k x d n = refl
or-other (y ∷ ys) zero zero x d n = absurd (n refl)
or-other (y ∷ ys) zero (suc k) x d n = refl
or-other (y ∷ ys) (suc i) zero x d n = refl
or-other (y ∷ ys) (suc i) (suc k) x d n = or-other ys i k x d (λ e. n (ap suc e))

-- what is set to what it was
pub set-same : {A : Type 0} (xs : List A) (i : ℕ) (x : A) → slice_get xs i ≡ Some x → slice_set xs i x ≡ xs
set-same [] i x e = refl
set-same (y ∷ ys) zero x e = let same : x ≡ y = cc in ap (λ z. z ∷ ys) same
set-same (y ∷ ys) (suc i) x e = ap (λ l. y ∷ l) (set-same ys i x e)

pub set-twice : {A : Type 0} (xs : List A) (i : ℕ) (x y : A) → slice_set (slice_set xs i x) i y ≡ slice_set xs i y
set-twice [] i x y = refl
set-twice (z ∷ zs) zero x y = refl
set-twice (z ∷ zs) (suc i) x y = ap (λ l. z ∷ l) (set-twice zs i x y)

pub map-set : {A B : Type 0} (f : A → B) (xs : List A) (i : ℕ) (x : A) → map f (slice_set xs i x) ≡ slice_set (map f xs) i (f x)
map-set f [] i x = refl
map-set f (y ∷ ys) zero x = refl
map-set f (y ∷ ys) (suc i) x = ap (λ l. f y ∷ l) (map-set f ys i x)

-- what is the same of the new as of the old
pub map-set-same : {A B : Type 0} (f : A → B) (xs : List A) (i : ℕ) (x y : A) → slice_get xs i ≡ Some y → f x ≡ f y → map f (slice_set xs i x) ≡ map f xs
map-set-same f [] i x y e g = refl
map-set-same f (z ∷ zs) zero x y e g = let same : y ≡ z = cc in ap (λ b. b ∷ map f zs) (g ∙ ap f same)
map-set-same f (z ∷ zs) (suc i) x y e g = ap (λ l. f z ∷ l) (map-set-same f zs i x y e g)

-- what holds at each place, where one is set
pub at-set : {A : Type 0} (xs : List A) (i : ℕ) (x : A) (P : ℕ → Option A → Type 0) → i < length xs → P i (Some x) → ((k : ℕ) → k ≢ i → P k (slice_get xs k))
    → (k : ℕ) → P k (slice_get (slice_set xs i x) k)
at-set xs i x P h it others k = by_place (eq-cases k i)
  where
    by_place : (k ≡ i) ⊎ (k ≢ i) → P k (slice_get (slice_set xs i x) k)
    by_place (inl e) = subst (λ (n : ℕ). P n (slice_get (slice_set xs i x) n)) (sym e) (subst (P i) (sym (set-there xs i x h)) it)
    by_place (inr n) = subst (P k) (sym (set-other xs i k x n)) (others k n)

-- what is left of a list

pub drop-step : {A : Type 0} (xs : List A) (i : ℕ) (d : A) → i < length xs → drop i xs ≡ get_or xs i d ∷ drop (i + 1) xs
drop-step [] i d h = absurd (omega (arith, h))
drop-step (x ∷ xs) zero d h = refl
drop-step (x ∷ xs) (suc i) d h =
    let one : suc (i + 1) ≡ suc i + 1 = omega arith in
    drop-step xs i d (omega (arith, h)) ∙ ap (λ n. get_or xs i d ∷ drop n (x ∷ xs)) one

pub drop-end : {A : Type 0} (xs : List A) (i : ℕ) → length xs ≤ i → drop i xs ≡ []
drop-end [] zero h = refl
drop-end [] (suc i) h = refl
drop-end (x ∷ xs) zero h = absurd (omega (arith, h))
drop-end (x ∷ xs) (suc i) h = drop-end xs i (omega (arith, h))

-- lists that have something

abbrev pub some : {A : Type 0} → List A → Bool
some [] = false
some (x ∷ xs) = true

pub some-length : {A : Type 0} (xs : List A) → nat_lt 0 (length xs) ≡ some xs
some-length [] = refl
some-length (x ∷ xs) = let more : 0 < length (x ∷ xs) = omega arith in grind arith

pub some-left : {A : Type 0} (xs ys : List A) → some xs ≡ true → some (xs ++ ys) ≡ true
some-left [] ys e = absurd (false≢true e)
some-left (x ∷ xs) ys e = refl

pub some-right : {A : Type 0} (xs ys : List A) → some ys ≡ true → some (xs ++ ys) ≡ true
some-right [] ys e = e
some-right (x ∷ xs) ys e = refl

pub some-either : {A : Type 0} (xs ys : List A) → some (xs ++ ys) ≡ true → (some xs ≡ true) ⊎ (some ys ≡ true)
some-either [] ys e = inr e
some-either (x ∷ xs) ys e = inl refl

pub some-map : {A B : Type 0} (f : A → B) (xs : List A) → some (map f xs) ≡ some xs
some-map f [] = refl
some-map f (x ∷ xs) = refl

-- whatever an error is, what holds anyway holds there
pub on-err : {A E : Type 0} (r : Result A E) (P : Type 0) → P → OnErr r P
on-err (Ok x) P p = tt
on-err (Err e) P p = p

-- one more

pub push-there : {A : Type 0} (xs : List A) (x : A) → slice_get (xs ++ x ∷ []) (length xs) ≡ Some x
push-there [] x = refl
push-there (y ∷ ys) x = push-there ys x

pub push-other : {A : Type 0} (xs : List A) (x : A) (k : ℕ) → k ≢ length xs → slice_get (xs ++ x ∷ []) k ≡ slice_get xs k
push-other [] x zero n = absurd (n refl)
push-other [] x (suc k) n = refl
push-other (y ∷ ys) x zero n = refl
push-other (y ∷ ys) x (suc k) n = push-other ys x k (λ e. n (ap suc e))

pub at-push : {A : Type 0} (xs : List A) (x : A) (P : ℕ → Option A → Type 0) → P (length xs) (Some x) → ((k : ℕ) → k ≢ length xs → P k (slice_get xs k))
    → (k : ℕ) → P k (slice_get (xs ++ x ∷ []) k)
at-push xs x P it others k = by_place (eq-cases k (length xs))
  where
    by_place : (k ≡ length xs) ⊎ (k ≢ length xs) → P k (slice_get (xs ++ x ∷ []) k)
    by_place (inl e) = subst (λ (n : ℕ). P n (slice_get (xs ++ x ∷ []) n)) (sym e) (subst (P (length xs)) (sym (push-there xs x)) it)
    by_place (inr n) = subst (P k) (sym (push-other xs x k n)) (others k n)

pub push-length : {A : Type 0} (xs : List A) (x : A) → length (xs ++ x ∷ []) ≡ suc (length xs)
push-length [] x = refl
push-length (y ∷ ys) x = ap suc (push-length ys x)

pub push-or : {A : Type 0} (xs : List A) (d : A) (k : ℕ) → get_or (xs ++ d ∷ []) k d ≡ get_or xs k d
push-or [] d zero = refl
push-or [] d (suc k) = refl
push-or (y ∷ ys) d zero = refl
push-or (y ∷ ys) d (suc k) = push-or ys d k

pub map-push : {A B : Type 0} (f : A → B) (xs : List A) (x : A) → map f (xs ++ x ∷ []) ≡ map f xs ++ f x ∷ []
map-push f [] x = refl
map-push f (y ∷ ys) x = ap (λ l. f y ∷ l) (map-push f ys x)

pub map-map : {A B C : Type 0} (f : A → B) (g : B → C) (xs : List A) → map g (map f xs) ≡ map (λ x. g (f x)) xs
map-map f g [] = refl
map-map f g (x ∷ xs) = ap (λ l. g (f x) ∷ l) (map-map f g xs)
