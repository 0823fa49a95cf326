-- Lists that keep what they have.
use Rattle.std.proofs.Common.{◌≡◌, ◌≢◌, ℕ, zero, suc, ◌+◌, ◌%◌, ◌<◌, ◌≤◌, List, [], ◌∷◌, ◌++◌, Bool, true, false, cond, length, get_or, ◌⊎◌, inl, inr, sym, ◌∙◌, ap, subst, refl, arith}
use Rattle.std.specs.Prelude.{slice_set, Result, Ok, Err, MatchResult}
use Rattle.std.specs.Ordering.{nat_cmp}
use Rattle.std.specs.List.{Contains, insert}
use Rattle.std.specs.List.Sorted.{IsBinarySearchResult}
use Rattle.std.proofs.Math.ListN.{length-set}
use Rattle.std.proofs.lemmas.List.{get_or-set_same, get_or-set_other}
use Rattle.std.proofs.lemmas.List.Edits.{length-insert, get_or-insert_below, get_or-insert_at, get_or-insert_above}
use Rattle.std.proofs.lemmas.List.Sorted.{searched}
use Rattle.std.proofs.lemmas.List.Elements.{Contains-append_left, Contains-append_right}
use Rattle.chi_plain_options.specs.Ascending.{Ascends}
use Rattle.chi_plain_options.specs.Listing.{Keeps, KeepsLists, NobodyListed, listed_at}
use Rattle.chi_plain_options.proofs.Lists.{get_or-within, eq-cases}
use Rattle.chi_plain_options.proofs.Ascending.{ascends-order, ascends-insert}

pub keeps-refl : (xs : List ℕ) → Keeps xs xs
keeps-refl xs q c = c

pub keeps-same : (xs ys : List ℕ) → ys ≡ xs → Keeps xs ys
keeps-same xs ys e q c = let P : List ℕ → Type 0 = λ l. Contains l q in subst P (sym e) c

pub keeps-more : (xs ys more : List ℕ) → ys ≡ xs ++ more → Keeps xs ys
keeps-more xs ys more e q c = let P : List ℕ → Type 0 = λ l. Contains l q in subst P (sym e) (Contains-append_left xs more q c)

pub keeps-added : (xs ys more : List ℕ) → ys ≡ xs ++ more → Keeps more ys
keeps-added xs ys more e q c = let P : List ℕ → Type 0 = λ l. Contains l q in subst P (sym e) (Contains-append_right xs more q c)

pub keeps-trans : (xs ys zs : List ℕ) → Keeps xs ys → Keeps ys zs → Keeps xs zs
keeps-trans xs ys zs f g q c = g q (f q c)

pub contains-pushed : (xs ys : List ℕ) (p : ℕ) → ys ≡ xs ++ p ∷ [] → Contains ys p
contains-pushed xs ys p e = keeps-added xs ys (p ∷ []) e p (0, omega arith, refl)

-- one more stands among those that ascend

pub record StandsAt (xs : List ℕ) (p i : ℕ) : Type 0 where
  pub within : i ≤ length xs
  pub below : (k : ℕ) → k < i → get_or xs k 0 < p
  pub above : (k : ℕ) → i ≤ k → k < length xs → p < get_or xs k 0

module _ (xs : List ℕ) (p n : ℕ) (r : Result ℕ ℕ) (up : Ascends 0 n xs) (search : IsBinarySearchResult (λ y. nat_cmp y p) xs r) where
  matched : MatchResult r (λ i. (i < length xs) × (get_or xs i 0 ≡ p))
      (λ i. (i ≤ length xs) × ((k : ℕ) → k < i → get_or xs k 0 < p) × ((k : ℕ) → i ≤ k → k < length xs → p < get_or xs k 0))
  matched = searched xs p r search (ascends-order 0 n xs up)

  pub contains-found : (i : ℕ) → r ≡ Ok i → Contains xs p
  contains-found i e =
      let m = subst (λ (x : Result ℕ ℕ). MatchResult x (λ i. (i < length xs) × (get_or xs i 0 ≡ p))
      (λ i. (i ≤ length xs) × ((k : ℕ) → k < i → get_or xs k 0 < p) × ((k : ℕ) → i ≤ k → k < length xs → p < get_or xs k 0))) e matched in
      (i, m.0, get_or-within xs i p 0 m.0 ∙ m.1)

  pub stands-at : (i : ℕ) → r ≡ Err i → StandsAt xs p i
  stands-at i e =
      let m = subst (λ (x : Result ℕ ℕ). MatchResult x (λ i. (i < length xs) × (get_or xs i 0 ≡ p))
      (λ i. (i ≤ length xs) × ((k : ℕ) → k < i → get_or xs k 0 < p) × ((k : ℕ) → i ≤ k → k < length xs → p < get_or xs k 0))) e matched in
      record { within = m.0; below = m.1; above = m.2 }

-- where the same list was searched
pub stands-in : (xs ys : List ℕ) (p n : ℕ) (r : Result ℕ ℕ) → ys ≡ xs → Ascends 0 n xs → IsBinarySearchResult (λ y. nat_cmp y p) ys r → (i : ℕ) → r ≡ Err i
    → StandsAt xs p i
stands-in xs ys p n r same up search i e =
    subst (λ (l : List ℕ). StandsAt l p i) same (stands-at ys p n r (subst (λ (l : List ℕ). Ascends 0 n l) (sym same) up) search i e)

module _ (xs ys : List ℕ) (p i : ℕ) (at : StandsAt xs p i) (is : ys ≡ insert xs i p) where
  pub ascends-inserted : (n : ℕ) → Ascends 0 n xs → p < n → Ascends 0 n ys
  ascends-inserted n up h =
      subst (λ (l : List ℕ). Ascends 0 n l) (sym is) (ascends-insert 0 n xs i p up (omega arith) h at.within at.below at.above)

  -- or it doesn't, where memory is wanting
  pub ascends-either : (n : ℕ) (zs : List ℕ) (b : Bool) → Ascends 0 n xs → p < n → zs ≡ cond b ys xs → Ascends 0 n zs
  ascends-either n zs true up h e = subst (λ (l : List ℕ). Ascends 0 n l) (sym e) (ascends-inserted n up h)
  ascends-either n zs false up h e = subst (λ (l : List ℕ). Ascends 0 n l) (sym e) up

  pub contains-inserted : Contains ys p
  contains-inserted =
      subst (λ (l : List ℕ). Contains l p) (sym is)
      (i, (let l = length-insert xs i p at.within in let w = at.within in omega (arith, l, w)), get_or-insert_at xs i p p at.within)

  pub keeps-inserted : Keeps xs ys
  keeps-inserted q c =
      subst (λ (l : List ℕ). Contains l q) (sym is) (by_place (let d : (c.0 < i) ⊎ (i ≤ c.0) = grind arith in d))
    where
      by_place : (c.0 < i) ⊎ (i ≤ c.0) → Contains (insert xs i p) q
      by_place (inl h) =
          (c.0, (let l = length-insert xs i p at.within in let w = c.1 in omega (arith, l, w)), get_or-insert_below xs i p q c.0 h at.within ∙ c.2)
      by_place (inr h) =
          (c.0 + 1, (let l = length-insert xs i p at.within in let w = c.1 in omega (arith, l, w)), get_or-insert_above xs i p q c.0 h at.within ∙ c.2)

-- lists by numbers

pub listed_at-read : (lists : List (List ℕ)) (number k : ℕ) (l : List ℕ) → k ≡ number % length lists → k < length lists
    → l ≡ get_or lists k l → l ≡ listed_at lists number
listed_at-read lists number k l e h is = is ∙ get_or-within lists k l [] h ∙ ap (λ n. get_or lists n []) e

module _ (lists : List (List ℕ)) (k : ℕ) (l : List ℕ) (h : k < length lists) where
  at_other : (number : ℕ) → number % length lists ≢ k → listed_at (slice_set lists k l) number ≡ listed_at lists number
  at_other number d =
      ap (λ n. get_or (slice_set lists k l) (number % n) []) (length-set lists k l)
      ∙ get_or-set_other lists k (number % length lists) l [] d

  at_same : (number : ℕ) → number % length lists ≡ k → listed_at (slice_set lists k l) number ≡ l
  at_same number e =
      ap (λ n. get_or (slice_set lists k l) (number % n) []) (length-set lists k l)
      ∙ ap (λ n. get_or (slice_set lists k l) n []) e ∙ get_or-set_same lists k l [] h

  pub keeps-set : (new : List (List ℕ)) (old : List ℕ) → new ≡ slice_set lists k l → old ≡ get_or lists k old → Keeps old l → KeepsLists lists new
  keeps-set new old e is keeps number q c =
      let P : List (List ℕ) → Type 0 = λ ps. Contains (listed_at ps number) q in
      subst P (sym e) (by_cases (eq-cases (number % length lists) k))
    where
      by_cases : (number % length lists ≡ k) ⊎ (number % length lists ≢ k) → Contains (listed_at (slice_set lists k l) number) q
      by_cases (inl same) =
          let R : List ℕ → Type 0 = λ m. Contains m q in
          let here : Contains old q = subst R (ap (λ n. get_or lists n []) same ∙ get_or-within lists k [] old h ∙ sym is) c in
          subst R (sym (at_same number same)) (keeps q here)
      by_cases (inr other) = let R : List ℕ → Type 0 = λ m. Contains m q in subst R (sym (at_other number other)) c

  pub contains-set : (new : List (List ℕ)) (number p : ℕ) → new ≡ slice_set lists k l → k ≡ number % length lists → Contains l p
      → Contains (listed_at new number) p
  contains-set new number p e same c =
      let P : List (List ℕ) → Type 0 = λ ps. Contains (listed_at ps number) p in
      let R : List ℕ → Type 0 = λ m. Contains m p in
      subst P (sym e) (subst R (sym (at_same number (sym same))) c)

-- every list is empty
abbrev pub AllEmpty : List (List ℕ) → Type 0
AllEmpty lists = (k : ℕ) → get_or lists k [] ≡ []

pub no-lists : (lists : List (List ℕ)) → lists ≡ [] → AllEmpty lists
no-lists lists e k = ap (λ l. get_or l k []) e

empty-more : (lists : List (List ℕ)) → AllEmpty lists → AllEmpty (lists ++ [] ∷ [])
empty-more [] h zero = refl
empty-more [] h (suc k) = refl
empty-more (l ∷ ls) h zero = h zero
empty-more (l ∷ ls) h (suc k) = empty-more ls (λ j. h (suc j)) k

pub all-empty-more : (lists new : List (List ℕ)) (l : List ℕ) → AllEmpty lists → l ≡ [] → new ≡ lists ++ l ∷ [] → AllEmpty new
all-empty-more lists new l h none e =
    subst (λ (ls : List (List ℕ)). AllEmpty ls) (sym e) (subst (λ (m : List ℕ). AllEmpty (lists ++ m ∷ [])) (sym none) (empty-more lists h))

pub nobody-listed : (lists : List (List ℕ)) → AllEmpty lists → NobodyListed lists
nobody-listed lists h number = h (number % length lists)

pub ruleset keeping = (
  keeps-refl,
  keeps-same,
  keeps-more,
  keeps-added,
  keeps-trans,
  contains-pushed,
  contains-found,
  stands-at,
  ascends-inserted,
  contains-inserted,
  keeps-inserted,
  listed_at-read,
  keeps-set,
  contains-set,
  no-lists,
  all-empty-more,
  nobody-listed,
)
