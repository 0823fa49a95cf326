-- Where tokens stand in a list of them, token by token.
use Rattle.std.proofs.Common.{◌≡◌, ℕ, zero, suc, ◌+◌, ◌-◌, ◌<◌, ◌≤◌, Some, None, List, [], ◌∷◌, ◌++◌, length, take, drop, slice_get, slice_range, get_or, ◌⊎◌, inl, inr, refl, sym, ap, subst, ◌∙◌, arith, drop-cons}
use Rattle.std.proofs.lemmas.Option.{slice_get_cases, slice_get_within, get_or_from_slice_get}
use Rattle.chi_grammar.specs.Exact.{Stands}

-- the tokens from one index to before another are these
pub data At {A : Type 0} (ts : List A) : ℕ → List A → ℕ → Type 0 where
  here : {i : ℕ} → At ts i [] i
  on : {i j : ℕ} {x : A} {xs : List A} → slice_get ts i ≡ Some x → At ts (suc i) xs j → At ts i (x ∷ xs) j

pub At-ordered : {A : Type 0} {ts : List A} {i j : ℕ} {xs : List A} → At ts i xs j → i ≤ j
At-ordered here = omega arith
At-ordered (on e h) = omega (arith, At-ordered h)

pub At-inside : {A : Type 0} {ts : List A} {i j : ℕ} {xs : List A} → At ts i xs j → i ≤ length ts → j ≤ length ts
At-inside here in_it = in_it
At-inside {ts = ts} (on {i = i} {x = x} e h) in_it = At-inside h (slice_get_within ts i x e)

pub At-end : {A : Type 0} {ts : List A} {i j k : ℕ} {xs : List A} → At ts i xs j → At ts i xs k → j ≡ k
At-end here here = refl
At-end (on e h) (on e' h') = At-end h h'

-- tokens and more after them
pub record Seam {A : Type 0} (ts : List A) (i : ℕ) (xs ys : List A) (j : ℕ) : Type 0 where
  pub mid : ℕ
  pub front : At ts i xs mid
  pub back : At ts mid ys j

pub At-split : {A : Type 0} {ts : List A} {i j : ℕ} → (xs ys : List A) → At ts i (xs ++ ys) j → Seam ts i xs ys j
At-split {i = i} [] ys h = record { mid = i; front = here; back = h }
At-split (x ∷ xs) ys (on e h) = let s = At-split xs ys h in record { mid = s.mid; front = on e s.front; back = s.back }

pub At-parts : {A : Type 0} {ts : List A} {i j : ℕ} {f : List A} → (xs ys : List A) → f ≡ xs ++ ys → At ts i f j → Seam ts i xs ys j
At-parts {ts = ts} {i = i} {j = j} xs ys e h = At-split xs ys (subst (λ f. At ts i f j) e h)

pub At-join : {A : Type 0} {ts : List A} {i m j : ℕ} {xs ys : List A} → At ts i xs m → At ts m ys j → At ts i (xs ++ ys) j
At-join here h = h
At-join (on e g) h = on e (At-join g h)

-- no tokens stand from an index to itself
pub At-none : {A : Type 0} {ts : List A} {i j : ℕ} {xs : List A} → At ts i xs j → i ≡ j → xs ≡ []
At-none here e = refl
At-none (on e h) eq = absurd (omega (arith, At-ordered h))

pub At-of_none : {A : Type 0} {ts : List A} {i j : ℕ} {xs : List A} → At ts i xs j → xs ≡ [] → i ≡ j
At-of_none here e = refl
At-of_none (on e h) eq = cc

-- the same, with the list as std gives it

slice_range-cons : {A : Type 0} (ts : List A) (i j : ℕ) (x : A) → slice_get ts i ≡ Some x → i < j → slice_range ts i j ≡ x ∷ slice_range ts (suc i) j
slice_range-cons ts i j x e lt =
    let inside : i < length ts = slice_get_within ts i x e in
    let split : drop i ts ≡ x ∷ drop (suc i) ts =
    subst (λ y. drop i ts ≡ y ∷ drop (suc i) ts) (get_or_from_slice_get ts i x x e) (drop-cons ts i x inside) in
    let more : j - i ≡ suc (j - suc i) = omega arith in
    ap (λ n. take n (drop i ts)) more ∙ ap (take (suc (j - suc i))) split

pub Stands-from_At : {A : Type 0} {ts : List A} {i j : ℕ} {xs : List A} → At ts i xs j → i ≤ length ts → Stands ts i xs j
Stands-from_At {ts = ts} (here {i = i}) in_it =
    let none : i - i ≡ 0 = omega arith in
    record { ordered = omega arith; inside = in_it; same = ap (λ n. take n (drop i ts)) none }
Stands-from_At {ts = ts} (on {i = i} {j = j} {x = x} e h) in_it =
    let rest = Stands-from_At h (slice_get_within ts i x e) in
    let order = rest.ordered in
    let lt : i < j = order in
    record { ordered = omega arith; inside = rest.inside; same = slice_range-cons ts i j x e lt ∙ ap (λ ys. x ∷ ys) rest.same }

at_from : {A : Type 0} (ts : List A) (n i j : ℕ) → i + n ≡ j → j ≤ length ts → At ts i (slice_range ts i j) j
at_from {A} ts zero i j e in_it =
    let none : j - i ≡ 0 = omega arith in
    let same : i ≡ j = omega arith in
    subst (λ xs. At ts i xs j) (sym (ap (λ n. take n (drop i ts)) none)) (subst (λ k. At ts i [] k) same here)
at_from {A} ts (suc n) i j e in_it = by (slice_get_cases ts i).1 (at_from ts n (suc i) j (omega arith) in_it)
  where
    by : ((x : A) × (i < length ts) × (slice_get ts i ≡ Some x) × (get_or ts i x ≡ x)) ⊎ ((length ts ≤ i) × (slice_get ts i ≡ None))
        → At ts (suc i) (slice_range ts (suc i) j) j → At ts i (slice_range ts i j) j
    by (inl p) rest =
        let lt : i < j = omega arith in
        subst (λ xs. At ts i xs j) (sym (slice_range-cons ts i j p.0 p.2 lt)) (on p.2 rest)
    by (inr p) rest = absurd (omega (arith, p.0))

pub At-from_Stands : {A : Type 0} {ts : List A} {i j : ℕ} {xs : List A} → Stands ts i xs j → At ts i xs j
At-from_Stands {ts = ts} {i = i} {j = j} s =
    let e : i + (j - i) ≡ j = omega (arith, s.ordered) in
    subst (λ xs. At ts i xs j) s.same (at_from ts (j - i) i j e s.inside)
