-- Ascending numbers: a number more among them, and what they are joined to.
use Rattle.std.proofs.Common.{◌≡◌, ℕ, zero, suc, ◌+◌, ◌<◌, ◌≤◌, List, [], ◌∷◌, ◌++◌, length, get_or, ◌⊎◌, inl, inr, sym, ◌∙◌, ap, subst, refl, arith}
use Rattle.std.specs.List.{Contains, flat_map, insert}
use Rattle.std.proofs.lemmas.List.{append-nil, append_assoc}
use Rattle.chi_core.specs.Options.{numbers}
use Rattle.chi_plain_options.specs.Ascending.{Ascends}
use Rattle.chi_plain_options.proofs.Lists.{get_or-within}

-- the same numbers, from an earlier or a later one on
ascends-from : (k m n : ℕ) (xs : List ℕ) → Ascends m n xs → k ≤ m → Ascends k n xs
ascends-from k m n [] up h = tt
ascends-from k m n (x ∷ xs) up h = ((let a = up.0 in omega (arith, a, h)), up.1, up.2)

ascends-past : (k m n : ℕ) (xs : List ℕ) → Ascends m n xs → (0 < length xs → k ≤ get_or xs 0 0) → Ascends k n xs
ascends-past k m n [] up h = tt
ascends-past k m n (x ∷ xs) up h = (h (omega arith), up.1, up.2)

-- there are no more of them than numbers
pub ascends-length : (m n : ℕ) (xs : List ℕ) → Ascends m n xs → m ≤ n → m + length xs ≤ n
ascends-length m n [] up h = omega (arith, h)
ascends-length m n (x ∷ xs) up h =
    let a = up.0 in
    let less = up.1 in
    let rest = ascends-length (suc x) n xs up.2 (omega (arith, less)) in
    omega (arith, a, rest)

ascends-all : (m n : ℕ) (xs : List ℕ) → Ascends m n xs → (k : ℕ) → k < length xs → m ≤ get_or xs k 0
ascends-all m n [] up k h = absurd (omega (arith, h))
ascends-all m n (x ∷ xs) up zero h = up.0
ascends-all m n (x ∷ xs) up (suc k) h =
    let a = up.0 in
    let rest = ascends-all (suc x) n xs up.2 k (omega (arith, h)) in
    omega (arith, a, rest)

pub ascends-order : (m n : ℕ) (xs : List ℕ) → Ascends m n xs → (i j : ℕ) → i ≤ j → j < length xs → get_or xs i 0 ≤ get_or xs j 0
ascends-order m n [] up i j h l = absurd (omega (arith, l))
ascends-order m n (x ∷ xs) up zero zero h l = omega arith
ascends-order m n (x ∷ xs) up zero (suc j) h l =
    let rest = ascends-all (suc x) n xs up.2 j (omega (arith, l)) in omega (arith, rest)
ascends-order m n (x ∷ xs) up (suc i) zero h l = absurd (omega (arith, h))
ascends-order m n (x ∷ xs) up (suc i) (suc j) h l = ascends-order (suc x) n xs up.2 i j (omega (arith, h)) (omega (arith, l))

-- one more stands among them
pub ascends-insert : (m n : ℕ) (xs : List ℕ) (i x : ℕ) → Ascends m n xs → m ≤ x → x < n → i ≤ length xs → ((k : ℕ) → k < i → get_or xs k 0 < x)
    → ((k : ℕ) → i ≤ k → k < length xs → x < get_or xs k 0) → Ascends m n (insert xs i x)
ascends-insert m n xs zero x up a b h below above =
    (a, b, ascends-past (suc x) m n xs up (λ some. let s = above 0 (omega arith) some in omega (arith, s)))
ascends-insert m n [] (suc i) x up a b h below above = absurd (omega (arith, h))
ascends-insert m n (y ∷ ys) (suc i) x up a b h below above =
    let first = below 0 (omega arith) in (
      up.0,
      up.1,
      ascends-insert (suc y) n ys i x up.2 (omega (arith, first)) b (omega (arith, h)) (λ k l. below (suc k) (omega (arith, l)))
          (λ k g l. above (suc k) (omega (arith, g)) (omega (arith, l))),
    )

-- who is among them isn't earlier
contains-first : (m n : ℕ) (xs : List ℕ) (q : ℕ) → Ascends m n xs → Contains xs q → m ≤ q
contains-first m n xs q up c =
    let a = ascends-all m n xs up c.0 c.1 in
    let e : get_or xs c.0 0 ≡ q = get_or-within xs c.0 0 q c.1 ∙ c.2 in omega (arith, a, e)

contains-rest : (x : ℕ) (xs : List ℕ) (q : ℕ) → Contains (x ∷ xs) q → suc x ≤ q → Contains xs q
contains-rest x xs q (zero, h, e) later = absurd (omega (arith, e, later))
contains-rest x xs q (suc k, h, e) later = (k, (omega (arith, h)), e)

-- the numbers from m on, k of them
abbrev span : ℕ → ℕ → List ℕ
span m zero = []
span m (suc k) = m ∷ span (suc m) k

numbers-span : (m k : ℕ) → numbers m ++ span m k ≡ numbers (m + k)
numbers-span m zero = append-nil (numbers m) ∙ (let e : m ≡ m + 0 = omega arith in ap numbers e)
numbers-span m (suc k) =
    let e : suc m + k ≡ m + suc k = omega arith in
    sym (append_assoc (numbers m) (m ∷ []) (span (suc m) k)) ∙ numbers-span (suc m) k ∙ ap numbers e

-- what is joined of them where no other number has anything
module _ {B : Type 0} (f : ℕ → List B) where
  joined-past : (m n : ℕ) (xs : List ℕ) → Ascends m n xs → ((q : ℕ) → m ≤ q → f q ≡ []) → flat_map f xs ≡ []
  joined-past m n [] up none = refl
  joined-past m n (x ∷ xs) up none =
      ap (λ l. l ++ flat_map f xs) (none x up.0)
      ∙ joined-past (suc x) n xs up.2 (λ q h. none q (let a = up.0 in omega (arith, a, h)))

  abbrev Among : ℕ → ℕ → List ℕ → Type 0
  Among m k xs = (q : ℕ) → m ≤ q → q < m + k → (f q ≡ []) ⊎ Contains xs q

  joined-span : (m n k : ℕ) (xs : List ℕ) → Ascends m n xs → Among m k xs → ((q : ℕ) → m + k ≤ q → f q ≡ []) → flat_map f xs ≡ flat_map f (span m k)
  joined-span m n zero xs up among none = joined-past m n xs up (λ q h. none q (omega (arith, h)))
  joined-span m n (suc k) [] up among none =
      joined-span (suc m) n k [] tt (λ q a b. among q (omega (arith, a)) (omega (arith, b))) (λ q h. none q (omega (arith, h)))
      ∙ sym (ap (λ l. l ++ flat_map f (span (suc m) k)) (by_first (among m (omega arith) (omega arith))))
    where
      by_first : (f m ≡ []) ⊎ Contains [] m → f m ≡ []
      by_first (inl e) = e
      by_first (inr c) = absurd (let h : c.0 < 0 = c.1 in omega (arith, h))
  joined-span m n (suc k) (x ∷ xs) up among none =
      by_place (joined-span (suc m) n k) (let a = up.0 in let c : (x ≡ m) ⊎ (suc m ≤ x) = grind arith in c)
    where
      Later : Type 0
      Later = (ys : List ℕ) → Ascends (suc m) n ys → Among (suc m) k ys → ((q : ℕ) → suc m + k ≤ q → f q ≡ []) → flat_map f ys ≡ flat_map f (span (suc m) k)

      past : (q : ℕ) → suc m + k ≤ q → f q ≡ []
      past q h = none q (omega (arith, h))

      in_rest : x ≡ m → Among (suc m) k xs
      in_rest e q a b = by_among (among q (omega (arith, a)) (omega (arith, b)))
        where
          by_among : (f q ≡ []) ⊎ Contains (x ∷ xs) q → (f q ≡ []) ⊎ Contains xs q
          by_among (inl none) = inl none
          by_among (inr c) = inr (contains-rest x xs q c (omega (arith, a, e)))

      first_none : suc m ≤ x → (f m ≡ []) ⊎ Contains (x ∷ xs) m → f m ≡ []
      first_none later (inl e) = e
      first_none later (inr c) =
          absurd (let h = contains-first (suc m) n (x ∷ xs) m (later, up.1, up.2) c in omega (arith, h))

      by_place : Later → (x ≡ m) ⊎ (suc m ≤ x) → flat_map f (x ∷ xs) ≡ flat_map f (span m (suc k))
      by_place rest (inl e) =
          let up' : Ascends (suc m) n xs = subst (λ (y : ℕ). Ascends (suc y) n xs) e up.2 in
          (λ i. f (e i) ++ rest xs up' (in_rest e) past i)
      by_place rest (inr later) =
          rest (x ∷ xs) (later, up.1, up.2) (λ q a b. among q (omega (arith, a)) (omega (arith, b))) past
          ∙ sym (ap (λ l. l ++ flat_map f (span (suc m) k)) (first_none later (among m (omega arith) (omega arith))))

  pub joined-listed : (m n : ℕ) (xs : List ℕ) → Ascends 0 m xs → ((q : ℕ) → q < n → (f q ≡ []) ⊎ Contains xs q) → ((q : ℕ) → n ≤ q → f q ≡ [])
      → flat_map f xs ≡ flat_map f (numbers n)
  joined-listed m n xs up among none =
      let e : 0 + n ≡ n = omega arith in
      joined-span 0 m n xs up (λ q a b. among q (omega (arith, b))) (λ q h. none q (omega (arith, h)))
      ∙ ap (flat_map f) (numbers-span 0 n ∙ ap numbers e)
