-- Instances in their places among others.
use Rattle.std.proofs.Common.{◌≡◌, ℕ, zero, suc, ◌+◌, ◌<◌, ◌≤◌, Bool, true, false, List, [], ◌∷◌, ◌++◌, length, get_or, take, drop, refl, sym, ap, ◌∙◌, subst, arith}
use Rattle.std.specs.Prelude.{nat_lt, if◌then◌else◌}
use Rattle.std.specs.List.{insert}
use Rattle.std.proofs.lemmas.Bool.{lt-ltb}
use Rattle.std.proofs.lemmas.List.{append_assoc, drop_all, drop_more, take_all, take_more}
use Rattle.chi_explain_labels.specs.Labels.{first_ranked, placed, ranked}

placed-before : (f : ℕ → ℕ) (p q : ℕ) (qs : List ℕ) → f q < f p → placed f p (q ∷ qs) ≡ p ∷ q ∷ qs
placed-before f p q qs l = ap (λ (b : Bool). if b then p ∷ q ∷ qs else q ∷ placed f p qs) (lt-ltb (f q) (f p) l)

placed-after : (f : ℕ → ℕ) (p q : ℕ) (qs : List ℕ) → f p ≤ f q → placed f p (q ∷ qs) ≡ q ∷ placed f p qs
placed-after f p q qs l = ap (λ (b : Bool). if b then p ∷ q ∷ qs else q ∷ placed f p qs) (let e : nat_lt (f q) (f p) ≡ false = grind arith in e)

-- others are passed one after another

pub place_first : (f : ℕ → ℕ) (p : ℕ) (xs : List ℕ) → take 0 xs ++ placed f p (drop 0 xs) ≡ placed f p xs
place_first f p xs = refl

pub place_more : (f : ℕ → ℕ) (p i x : ℕ) (xs all : List ℕ) → take i xs ++ placed f p (drop i xs) ≡ all → i < length xs → x ≡ get_or xs i 0 → f p ≤ f x
    → take (i + 1) xs ++ placed f p (drop (i + 1) xs) ≡ all
place_more f p i x xs all before l is n =
    let rest : List ℕ = drop (i + 1) xs in
    let y : ℕ = get_or xs i 0 in
    ap (λ (t : List ℕ). t ++ placed f p rest) (take_more xs i 0 l)
    ∙ append_assoc (take i xs) (y ∷ []) (placed f p rest)
    ∙ ap (λ (t : List ℕ). take i xs ++ t) (sym (placed-after f p y rest (subst (λ (z : ℕ). f p ≤ f z) is n)))
    ∙ ap (λ (t : List ℕ). take i xs ++ placed f p t) (sym (drop_more xs i 0 l))
    ∙ before

pub place_here : (f : ℕ → ℕ) (p i x : ℕ) (xs all : List ℕ) → take i xs ++ placed f p (drop i xs) ≡ all → i < length xs → x ≡ get_or xs i 0 → f x < f p
    → insert xs i p ≡ all
place_here f p i x xs all before l is n =
    let rest : List ℕ = drop (i + 1) xs in
    let y : ℕ = get_or xs i 0 in
    ap (λ (t : List ℕ). take i xs ++ p ∷ t) (drop_more xs i 0 l)
    ∙ ap (λ (t : List ℕ). take i xs ++ t) (sym (placed-before f p y rest (subst (λ (z : ℕ). f z < f p) is n)))
    ∙ ap (λ (t : List ℕ). take i xs ++ placed f p t) (sym (drop_more xs i 0 l))
    ∙ before

pub place_last : (f : ℕ → ℕ) (p i : ℕ) (xs all : List ℕ) → take i xs ++ placed f p (drop i xs) ≡ all → length xs ≤ i → insert xs (length xs) p ≡ all
place_last f p i xs all before l =
    ap (λ (t : List ℕ). take (length xs) xs ++ p ∷ t) (drop_all (length xs) xs (let e : length xs ≤ length xs = omega arith in e))
    ∙ ap (λ (t : List ℕ). t ++ p ∷ []) (take_all (length xs) xs (let e : length xs ≤ length xs = omega arith in e) ∙ sym (take_all i xs l))
    ∙ ap (λ (t : List ℕ). take i xs ++ placed f p t) (sym (drop_all i xs l))
    ∙ before

-- those that are let go of are in nobody's way

take-take : (k : ℕ) (xs : List ℕ) → take k (take (suc k) xs) ≡ take k xs
take-take zero xs = refl
take-take (suc k) [] = refl
take-take (suc k) (x ∷ xs) = ap (λ (t : List ℕ). x ∷ t) (take-take k xs)

take-cons : (k q : ℕ) (xs : List ℕ) → take k (q ∷ take k xs) ≡ take k (q ∷ xs)
take-cons zero q xs = refl
take-cons (suc k) q xs = ap (λ (t : List ℕ). q ∷ t) (take-take k xs)

placed-take : (f : ℕ → ℕ) (p k : ℕ) (xs : List ℕ) → take k (placed f p (take k xs)) ≡ take k (placed f p xs)
placed-take f p zero xs = refl
placed-take f p (suc k) [] = refl
placed-take f p (suc k) (q ∷ qs) = by_order (placed-take f p k qs) (nat_lt (f q) (f p))
  where
    by_order : take k (placed f p (take k qs)) ≡ take k (placed f p qs) → (b : Bool) → take (suc k) (if b then p ∷ q ∷ take k qs else q ∷ placed f p (take k qs)) ≡ take (suc k) (if b then p ∷ q ∷ qs else q ∷ placed f p qs)
    by_order less true = ap (λ (t : List ℕ). p ∷ t) (take-cons k q qs)
    by_order less false = ap (λ (t : List ℕ). q ∷ t) less

-- one instance after another

pub rank_more : (f : ℕ → ℕ) (n : ℕ) (old new : List ℕ) → old ≡ first_ranked f n → 0 < f n → new ≡ take 10 (placed f n old) → new ≡ first_ranked f (n + 1)
rank_more f n old new before some is =
    let one : suc n ≡ n + 1 = omega arith in
    is ∙ ap (λ (t : List ℕ). take 10 (placed f n t)) before
    ∙ placed-take f n 10 (ranked f n)
    ∙ ap (λ (b : Bool). take 10 (if b then placed f n (ranked f n) else ranked f n)) (sym (lt-ltb 0 (f n) some))
    ∙ ap (first_ranked f) one

pub rank_same : (f : ℕ → ℕ) (n : ℕ) (old : List ℕ) → old ≡ first_ranked f n → f n ≤ 0 → old ≡ first_ranked f (n + 1)
rank_same f n old before none =
    let one : suc n ≡ n + 1 = omega arith in
    before
    ∙ ap (λ (b : Bool). take 10 (if b then placed f n (ranked f n) else ranked f n)) (let e : false ≡ nat_lt 0 (f n) = grind arith in e)
    ∙ ap (first_ranked f) one

pub rank_last : (f : ℕ → ℕ) (m n : ℕ) (xs : List ℕ) → xs ≡ first_ranked f m → m ≤ n → n ≤ m → xs ≡ first_ranked f n
rank_last f m n xs before l g =
    let same : m ≡ n = omega arith in
    before ∙ ap (first_ranked f) same

pub ruleset placing = (place_first, place_more, place_here, place_last)

pub ruleset ranking = (rank_more, rank_same)
