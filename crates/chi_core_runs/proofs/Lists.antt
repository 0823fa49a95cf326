-- Facts on lists: elements by their places.
use Rattle.std.proofs.Common.{◌≡◌, ℕ, zero, suc, ◌+◌, ◌*◌, ◌<◌, ◌≤◌, List, [], ◌∷◌, ◌++◌, Option, Some, None, Bool, true, false, length, ◌⊎◌, inl, inr, sym, ◌∙◌, ap, subst, refl, arith, length-append}
use Rattle.std.specs.Prelude.{filter, cond, map}
use Rattle.std.specs.List.{slice_get, Contains, flat_map}
use Rattle.std.specs.Option.{option_map}
use Rattle.std.proofs.lemmas.Option.{slice_get_within, get_or_from_slice_get, slice_get-get_or, slice_get-map}
use Rattle.std.proofs.lemmas.List.Elements.{Contains-append_left, Contains-append_right}
use Rattle.chi_core.specs.Options.{numbers}
use Rattle.chi_core_runs.specs.Once.{StandsOnce}

pub contains-at : {A : Type 0} (xs : List A) (k : ℕ) (x : A) → slice_get xs k ≡ Some x → Contains xs x
contains-at xs k x e = (k, slice_get_within xs k x e, get_or_from_slice_get xs k x x e)

pub at-contains : {A : Type 0} (xs : List A) (x : A) (c : Contains xs x) → slice_get xs c.0 ≡ Some x
at-contains xs x c = slice_get-get_or xs c.0 x c.1 ∙ ap Some c.2

pub some_below : {A : Type 0} (xs : List A) (k : ℕ) → k < length xs → (x : A) × (slice_get xs k ≡ Some x)
some_below [] k h = absurd (omega arith)
some_below (x ∷ xs) zero h = (x, refl)
some_below (x ∷ xs) (suc k) h = some_below xs k (omega arith)

-- joined lists

pub append_cases : {A : Type 0} (xs ys : List A) (k : ℕ) (x : A) → slice_get (xs ++ ys) k ≡ Some x
    → (slice_get xs k ≡ Some x) ⊎ ((j : ℕ) × (slice_get ys j ≡ Some x))
append_cases [] ys k x e = inr (k, e)
append_cases (z ∷ zs) ys zero x e = inl e
append_cases (z ∷ zs) ys (suc k) x e = append_cases zs ys k x e

-- where an element of lists joined stands: in which of them, and where there
pub record Joined {A B : Type 0} (f : A → List B) (xs : List A) (y : B) : Type 0 where
  pub from : A
  pub place : ℕ
  pub at : slice_get xs place ≡ Some from
  pub inner : ℕ
  pub has : slice_get (f from) inner ≡ Some y

pub joined-at : {A B : Type 0} (f : A → List B) (xs : List A) (k : ℕ) (y : B) → slice_get (flat_map f xs) k ≡ Some y → Joined f xs y
joined-at f [] k y e = absurd (cc)
joined-at {A} {B} f (x ∷ xs) k y e = by_cases (λ j g. joined-at f xs j y g) (append_cases (f x) (flat_map f xs) k y e)
  where
    by_cases : ((j : ℕ) → slice_get (flat_map f xs) j ≡ Some y → Joined f xs y)
        → (slice_get (f x) k ≡ Some y) ⊎ ((j : ℕ) × (slice_get (flat_map f xs) j ≡ Some y)) → Joined f (x ∷ xs) y
    by_cases later (inl here) = record { from = x; place = 0; at = refl; inner = k; has = here }
    by_cases later (inr there) =
        let r : Joined f xs y = later there.0 there.1 in
        record { from = r.from; place = suc r.place; at = r.at; inner = r.inner; has = r.has }

pub contains-joined : {A B : Type 0} (f : A → List B) (xs : List A) (k : ℕ) (x : A) (y : B) → slice_get xs k ≡ Some x
    → Contains (f x) y → Contains (flat_map f xs) y
contains-joined f [] k x y e c = absurd (cc)
contains-joined f (z ∷ zs) zero x y e c =
    let same : x ≡ z = cc in
    Contains-append_left (f z) (flat_map f zs) y (subst (λ (w : _). Contains (f w) y) same c)
contains-joined f (z ∷ zs) (suc k) x y e c = Contains-append_right (f z) (flat_map f zs) y (contains-joined f zs k x y e c)

append-none_left : {A : Type 0} (xs ys : List A) → xs ++ ys ≡ [] → xs ≡ []
append-none_left [] ys e = refl
append-none_left (x ∷ xs) ys e = absurd (cc)

append-none_right : {A : Type 0} (xs ys : List A) → xs ++ ys ≡ [] → ys ≡ []
append-none_right [] ys e = e
append-none_right (x ∷ xs) ys e = absurd (cc)

-- lists that join to nothing are empty
pub joined-none : {A B : Type 0} (f : A → List B) (xs : List A) (k : ℕ) (x : A) → flat_map f xs ≡ [] → slice_get xs k ≡ Some x → f x ≡ []
joined-none f [] k x none e = absurd (cc)
joined-none {A} {B} f (z ∷ zs) zero x none e =
    let same : z ≡ x = cc in
    let P : A → Type 0 = λ w. f w ≡ [] in
    subst P same (append-none_left (f z) (flat_map f zs) none)
joined-none f (z ∷ zs) (suc k) x none e = joined-none f zs k x (append-none_right (f z) (flat_map f zs) none) e

-- each of them so long at most
pub joined-length : {A B : Type 0} (f : A → List B) (most : ℕ) → ((x : A) → length (f x) ≤ most) → (xs : List A) → length (flat_map f xs) ≤ length xs * most
joined-length f most short [] = omega arith
joined-length f most short (x ∷ xs) =
    let here : length (f x) ≤ most = short x in
    let rest : length (flat_map f xs) ≤ length xs * most = joined-length f most short xs in
    let sum : length (flat_map f (x ∷ xs)) ≡ length (f x) + length (flat_map f xs) = length-append (f x) (flat_map f xs) in
    let more : length (x ∷ xs) * most ≡ length xs * most + most = next_row most (length xs) in
    omega arith
  where
    next_row : (m n : ℕ) → suc n * m ≡ n * m + m
    next_row m n = omega arith

-- filters

-- an element that a filter keeps passes the test, and was there
pub kept : {A : Type 0} (test : A → Bool) (xs : List A) (k : ℕ) (x : A) → slice_get (filter test xs) k ≡ Some x
    → (test x ≡ true) × Contains xs x
kept test [] k x e = absurd (cc)
kept {A} test (z ∷ zs) k x e = by_test (λ n g. kept test zs n x g) (test z) refl e
  where
    more : (test x ≡ true) × Contains zs x → (test x ≡ true) × Contains (z ∷ zs) x
    more h = (h.0, contains-at (z ∷ zs) (suc h.1.0) x (at-contains zs x h.1))

    by_test : ((n : ℕ) → slice_get (filter test zs) n ≡ Some x → (test x ≡ true) × Contains zs x)
        → (b : Bool) → test z ≡ b → slice_get (cond b (z ∷ filter test zs) (filter test zs)) k ≡ Some x → (test x ≡ true) × Contains (z ∷ zs) x
    by_test below false t e' = more (below k e')
    by_test below true t e' = at k e'
      where
        at : (n : ℕ) → slice_get (z ∷ filter test zs) n ≡ Some x → (test x ≡ true) × Contains (z ∷ zs) x
        at zero g = let same : z ≡ x = cc in (subst (λ (w : A). test w ≡ true) same t, contains-at (z ∷ zs) 0 x g)
        at (suc n) g = more (below n g)

-- what passes is kept
pub keeps : {A : Type 0} (test : A → Bool) (xs : List A) (k : ℕ) (x : A) → slice_get xs k ≡ Some x → test x ≡ true → Contains (filter test xs) x
keeps test [] k x e t = absurd (cc)
keeps {A} test (z ∷ zs) zero x e t =
    let same : z ≡ x = cc in
    let passes : test z ≡ true = ap test same ∙ t in
    let P : Bool → Type 0 = λ b. Contains (cond b (z ∷ filter test zs) (filter test zs)) x in
    subst P (sym passes) (contains-at (z ∷ filter test zs) 0 x e)
keeps {A} test (z ∷ zs) (suc k) x e t = by_test (test z) (keeps test zs k x e t)
  where
    by_test : (b : Bool) → Contains (filter test zs) x → Contains (cond b (z ∷ filter test zs) (filter test zs)) x
    by_test true c = contains-at (z ∷ filter test zs) (suc c.0) x (at-contains (filter test zs) x c)
    by_test false c = c

pub filter-length : {A : Type 0} (test : A → Bool) (xs : List A) → length (filter test xs) ≤ length xs
filter-length test [] = omega arith
filter-length {A} test (z ∷ zs) = by_test (test z) (filter-length test zs)
  where
    by_test : (b : Bool) → length (filter test zs) ≤ length zs → length (cond b (z ∷ filter test zs) (filter test zs)) ≤ length (z ∷ zs)
    by_test true h = omega arith
    by_test false h = omega arith

-- maps

-- where an element of a mapped list comes from
pub mapped : {A B : Type 0} (f : A → B) (o : Option A) (y : B) → option_map f o ≡ Some y → (x : A) × (o ≡ Some x) × (y ≡ f x)
mapped f None y e = absurd (cc)
mapped f (Some x) y e = (x, refl, cc)

pub mapped-at : {A B : Type 0} (f : A → B) (xs : List A) (k : ℕ) (y : B) → slice_get (map f xs) k ≡ Some y
    → (x : A) × (slice_get xs k ≡ Some x) × (y ≡ f x)
mapped-at f xs k y e = mapped f (slice_get xs k) y (sym (slice_get-map f xs k) ∙ e)

-- each element stands at one place
abbrev pub Distinct : {A : Type 0} → List A → Type 0
Distinct {A} xs = (j k : ℕ) (x : A) → slice_get xs j ≡ Some x → slice_get xs k ≡ Some x → j ≡ k

pub once-of : {A : Type 0} (xs : List A) (x : A) → Distinct xs → Contains xs x → StandsOnce xs x
once-of xs x d c = record {
  place = c.0;
  there = at-contains xs x c;
  nowhere_else = λ other e. d other c.0 x e (at-contains xs x c);
}

pub distinct-none : (A : Type 0) → Distinct {A = A} []
distinct-none A j k x e g = absurd (cc)

pub distinct-one : {A : Type 0} (y : A) → Distinct (y ∷ [])
distinct-one y zero zero x e g = refl
distinct-one y zero (suc k) x e g = absurd (cc)
distinct-one y (suc j) k x e g = absurd (cc)

pub distinct-tail : {A : Type 0} (z : A) (zs : List A) → Distinct (z ∷ zs) → Distinct zs
distinct-tail z zs d j k x e g = let h : suc j ≡ suc k = d (suc j) (suc k) x e g in omega arith

distinct-more : {A : Type 0} (z : A) (zs : List A) → ((k : ℕ) → slice_get zs k ≡ Some z → ⊥) → Distinct zs → Distinct (z ∷ zs)
distinct-more z zs new d zero zero x e g = refl
distinct-more z zs new d zero (suc k) x e g = absurd (new k (g ∙ sym e))
distinct-more z zs new d (suc j) zero x e g = absurd (new j (e ∙ sym g))
distinct-more z zs new d (suc j) (suc k) x e g = ap suc (d j k x e g)

pub distinct-append : {A : Type 0} (xs ys : List A) → Distinct xs → Distinct ys
    → ((j k : ℕ) (x : A) → slice_get xs j ≡ Some x → slice_get ys k ≡ Some x → ⊥) → Distinct (xs ++ ys)
distinct-append [] ys d c apart = c
distinct-append (z ∷ zs) ys d c apart =
    distinct-more z (zs ++ ys) (λ k e. new k (append_cases zs ys k z e))
    (distinct-append zs ys (distinct-tail z zs d) c (λ j k x e g. apart (suc j) k x e g))
  where
    new : (k : ℕ) → (slice_get zs k ≡ Some z) ⊎ ((j : ℕ) × (slice_get ys j ≡ Some z)) → ⊥
    new k (inl h) = let e : 0 ≡ suc k = d 0 (suc k) z refl h in omega arith
    new k (inr h) = apart 0 h.0 z refl h.1

-- lists joined, each of them distinct and with nothing in common
pub distinct-joined : {A B : Type 0} (f : A → List B) → ((x : A) → Distinct (f x))
    → ((x z : A) (j k : ℕ) (y : B) → slice_get (f x) j ≡ Some y → slice_get (f z) k ≡ Some y → x ≡ z)
    → (xs : List A) → Distinct xs → Distinct (flat_map f xs)
distinct-joined {A} {B} f each apart [] d = distinct-none B
distinct-joined {A} {B} f each apart (x ∷ xs) d =
    distinct-append (f x) (flat_map f xs) (each x) (distinct-joined f each apart xs (distinct-tail x xs d))
    (λ j k y e g. other j y e (joined-at f xs k y g))
  where
    other : (j : ℕ) (y : B) → slice_get (f x) j ≡ Some y → Joined f xs y → ⊥
    other j y e r =
        let same : x ≡ r.from = apart x r.from j r.inner y e r.has in
        let h : 0 ≡ suc r.place = d 0 (suc r.place) x refl (r.at ∙ ap Some (sym same)) in
        omega arith

pub distinct-filter : {A : Type 0} (test : A → Bool) (xs : List A) → Distinct xs → Distinct (filter test xs)
distinct-filter test [] d = d
distinct-filter {A} test (z ∷ zs) d = by_test (test z) (distinct-filter test zs (distinct-tail z zs d))
  where
    new : (k : ℕ) → slice_get (filter test zs) k ≡ Some z → ⊥
    new k e =
        let c : Contains zs z = (kept test zs k z e).1 in
        let h : 0 ≡ suc c.0 = d 0 (suc c.0) z refl (at-contains zs z c) in
        omega arith

    by_test : (b : Bool) → Distinct (filter test zs) → Distinct (cond b (z ∷ filter test zs) (filter test zs))
    by_test true rest = distinct-more z (filter test zs) new rest
    by_test false rest = rest

pub distinct-map : {A B : Type 0} (f : A → B) → ((x z : A) → f x ≡ f z → x ≡ z) → (xs : List A) → Distinct xs → Distinct (map f xs)
distinct-map f one xs d j k y e g =
    let a = mapped-at f xs j y e in
    let b = mapped-at f xs k y g in
    d j k a.0 a.1 (b.1 ∙ ap Some (one b.0 a.0 (sym b.2 ∙ a.2)))

-- the numbers below one

append-get : {A : Type 0} (xs ys : List A) (k : ℕ) (x : A) → slice_get xs k ≡ Some x → slice_get (xs ++ ys) k ≡ Some x
append-get [] ys k x e = absurd (cc)
append-get (z ∷ zs) ys zero x e = e
append-get (z ∷ zs) ys (suc k) x e = append-get zs ys k x e

append-last : {A : Type 0} (xs : List A) (y : A) (n : ℕ) → length xs ≡ n → slice_get (xs ++ y ∷ []) n ≡ Some y
append-last [] y zero e = refl
append-last [] y (suc n) e = absurd (omega arith)
append-last (z ∷ zs) y zero e = absurd (omega arith)
append-last (z ∷ zs) y (suc n) e = append-last zs y n (omega arith)

pub length-numbers : (n : ℕ) → length (numbers n) ≡ n
length-numbers zero = refl
length-numbers (suc n) = let l = length-numbers n in simp length-append (omega arith)

pub number-at : (n k : ℕ) → k < n → slice_get (numbers n) k ≡ Some k
number-at zero k h = absurd (omega arith)
number-at (suc n) k h = by_cases (λ g. number-at n k g) (let c : (k < n) ⊎ (k ≡ n) = grind arith in c)
  where
    by_cases : (k < n → slice_get (numbers n) k ≡ Some k) → (k < n) ⊎ (k ≡ n) → slice_get (numbers n ++ n ∷ []) k ≡ Some k
    by_cases below (inl l) = append-get (numbers n) (n ∷ []) k k (below l)
    by_cases below (inr e) =
        let P : ℕ → Type 0 = λ j. slice_get (numbers n ++ n ∷ []) k ≡ Some j in
        subst P (sym e) (append-last (numbers n) n k (length-numbers n ∙ sym e))

-- a number stands at its own place
pub number-is : (n k x : ℕ) → slice_get (numbers n) k ≡ Some x → x ≡ k
number-is n k x e =
    let within : k < length (numbers n) = slice_get_within (numbers n) k x e in
    let l : length (numbers n) ≡ n = length-numbers n in
    let at : slice_get (numbers n) k ≡ Some k = number-at n k (omega arith) in
    cc

pub distinct-numbers : (n : ℕ) → Distinct (numbers n)
distinct-numbers n j k x e g = sym (number-is n j x e) ∙ number-is n k x g
