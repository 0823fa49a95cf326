-- Scans over the numbers of a list, as recursions on the list.
use Rattle.std.proofs.Common.{◌≡◌, ℕ, zero, suc, ◌+◌, List, [], ◌∷◌, ◌++◌, Option, Some, length, sym, ◌∙◌, ap, refl, arith}
use Rattle.std.specs.Prelude.{filter, map, cond}
use Rattle.std.specs.List.{slice_get, flat_map}
use Rattle.chi_core.specs.Config.{Offer}
use Rattle.chi_core.specs.Options.{numbers, receives_on, is_receiver, receivers}

-- n numbers, from one on
abbrev upto : ℕ → ℕ → List ℕ
upto b zero = []
upto b (suc n) = b ∷ upto (suc b) n

upto-last : (b n : ℕ) → upto b (suc n) ≡ upto b n ++ (b + n) ∷ []
upto-last b zero = let e : b ≡ b + 0 = omega arith in ap (λ (k : ℕ). k ∷ []) e
upto-last b (suc n) =
    let e : suc b + n ≡ b + suc n = omega arith in
    ap (λ (l : List ℕ). b ∷ l) (upto-last (suc b) n) ∙ ap (λ (k : ℕ). b ∷ (upto (suc b) n ++ k ∷ [])) e

numbers-upto : (n : ℕ) → numbers n ≡ upto 0 n
numbers-upto zero = refl
numbers-upto (suc n) =
    let e : n ≡ 0 + n = omega arith in
    ap (λ (l : List ℕ). l ++ n ∷ []) (numbers-upto n) ∙ ap (λ (k : ℕ). upto 0 n ++ k ∷ []) e ∙ sym (upto-last 0 n)

-- a list has at a place what a part of it has, which begins there
module _ {A : Type 0} (all : List A) where
  abbrev Has : ℕ → List A → Type 0
  Has b xs = (k : ℕ) → slice_get all (b + k) ≡ slice_get xs k

  has-first : (b : ℕ) (x : A) (xs : List A) → Has b (x ∷ xs) → slice_get all b ≡ Some x
  has-first b x xs same = let e : b ≡ b + 0 = omega arith in ap (slice_get all) e ∙ same 0

  has-rest : (b : ℕ) (x : A) (xs : List A) → Has b (x ∷ xs) → Has (suc b) xs
  has-rest b x xs same k = let e : suc b + k ≡ b + suc k = omega arith in ap (slice_get all) e ∙ same (suc k)

has-all : {A : Type 0} (xs : List A) → Has xs 0 xs
has-all xs k = let e : 0 + k ≡ k = omega arith in ap (slice_get xs) e

module _ {A B : Type 0} (g : ℕ → Option A → List B) where
  -- what is given for each element, from a number on
  abbrev pub from : ℕ → List A → List B
  from b [] = []
  from b (x ∷ xs) = g b (Some x) ++ from (suc b) xs

  scan-from : (all xs : List A) (b : ℕ) → Has all b xs → flat_map (λ a. g a (slice_get all a)) (upto b (length xs)) ≡ from b xs
  scan-from all [] b same = refl
  scan-from all (x ∷ xs) b same =
      ap (λ (o : Option A). g b o ++ flat_map (λ a. g a (slice_get all a)) (upto (suc b) (length xs))) (has-first all b x xs same)
      ∙ ap (λ (l : List B). g b (Some x) ++ l) (scan-from all xs (suc b) (has-rest all b x xs same))

  pub scan : (xs : List A) → flat_map (λ a. g a (slice_get xs a)) (numbers (length xs)) ≡ from 0 xs
  scan xs = ap (flat_map (λ a. g a (slice_get xs a))) (numbers-upto (length xs)) ∙ scan-from xs xs 0 (has-all xs)

-- the alternatives that receive from a channel, from a number on
abbrev pub picked : ℕ → ℕ → List Offer → List ℕ
picked channel b [] = []
picked channel b (o ∷ os) = cond (receives_on channel o.act) (b ∷ picked channel (suc b) os) (picked channel (suc b) os)

picks-from : (channel : ℕ) (all os : List Offer) (b : ℕ) → Has all b os
    → filter (λ b. is_receiver channel (slice_get all b)) (upto b (length os)) ≡ picked channel b os
picks-from channel all [] b same = refl
picks-from channel all (o ∷ os) b same =
    let later : List ℕ = filter (λ b. is_receiver channel (slice_get all b)) (upto (suc b) (length os)) in
    ap (λ (x : Option Offer). cond (is_receiver channel x) (b ∷ later) later) (has-first all b o os same)
    ∙ ap (λ (l : List ℕ). cond (receives_on channel o.act) (b ∷ l) l) (picks-from channel all os (suc b) (has-rest all b o os same))

pub picks : (channel : ℕ) (os : List Offer) → receivers channel os ≡ picked channel 0 os
picks channel os =
    ap (filter (λ b. is_receiver channel (slice_get os b))) (numbers-upto (length os)) ∙ picks-from channel os os 0 (has-all os)
