-- The numbers below n that pass a test: the alternatives that receive, and the instances that have an option.
use Rattle.std.proofs.Common.{◌≡◌, ℕ, zero, suc, ◌+◌, ◌<◌, List, [], ◌∷◌, ◌++◌, Some, Bool, true, false, cond, length, get_or, ◌⊎◌, inl, inr, sym, ◌∙◌, ap, subst, refl, arith, length-append}
use Rattle.std.specs.Prelude.{filter}
use Rattle.std.specs.List.{slice_get}
use Rattle.std.proofs.lemmas.List.{append-nil}
use Rattle.std.proofs.lemmas.List.Elements.{filter-append}
use Rattle.std.proofs.lemmas.Option.{slice_get_read}
use Rattle.chi_core.specs.Config.{Offer}
use Rattle.chi_core.specs.Options.{numbers, receives_on, is_receiver, receivers}
use Rattle.chi_plain_open.specs.Offered.{receivers_below}

pub length-push : {A : Type 0} (xs : List A) (y : A) → length (xs ++ y ∷ []) ≡ length xs + 1
length-push xs y = length-append xs (y ∷ [])

slice_get-front : {A : Type 0} (xs ys : List A) (k : ℕ) (x : A) → slice_get xs k ≡ Some x → slice_get (xs ++ ys) k ≡ Some x
slice_get-front [] ys k x e = absurd (cc)
slice_get-front (z ∷ zs) ys zero x e = e
slice_get-front (z ∷ zs) ys (suc k) x e = slice_get-front zs ys k x e

slice_get-last : {A : Type 0} (xs : List A) (y : A) → slice_get (xs ++ y ∷ []) (length xs) ≡ Some y
slice_get-last [] y = refl
slice_get-last (z ∷ zs) y = slice_get-last zs y

-- one more number
pub passing : (test : ℕ → Bool) (n : ℕ) → test n ≡ true → filter test (numbers (suc n)) ≡ filter test (numbers n) ++ n ∷ []
passing test n e =
    let P : Bool → Type 0 = λ b. filter test (numbers n ++ n ∷ []) ≡ filter test (numbers n) ++ cond b (n ∷ []) [] in
    subst P e (filter-append test (numbers n) (n ∷ []))

pub failing : (test : ℕ → Bool) (n : ℕ) → test n ≡ false → filter test (numbers (suc n)) ≡ filter test (numbers n)
failing test n e =
    let P : Bool → Type 0 = λ b. filter test (numbers n ++ n ∷ []) ≡ filter test (numbers n) ++ cond b (n ∷ []) [] in
    subst P e (filter-append test (numbers n) (n ∷ [])) ∙ append-nil (filter test (numbers n))

-- the place of a number that passes
pub place : (test : ℕ → Bool) (m n : ℕ) → n < m → test n ≡ true → slice_get (filter test (numbers m)) (length (filter test (numbers n))) ≡ Some n
place test zero n h e = absurd (omega arith)
place test (suc m) n h e = by_cases (place test m n) (let c : (n < m) ⊎ (n ≡ m) = grind arith in c)
  where
    by_last : (b : Bool) → test m ≡ b → slice_get (filter test (numbers m)) (length (filter test (numbers n))) ≡ Some n
        → slice_get (filter test (numbers (suc m))) (length (filter test (numbers n))) ≡ Some n
    by_last true t g =
        let P : List ℕ → Type 0 = λ l. slice_get l (length (filter test (numbers n))) ≡ Some n in
        subst P (sym (passing test m t)) (slice_get-front (filter test (numbers m)) (m ∷ []) _ n g)
    by_last false t g =
        let P : List ℕ → Type 0 = λ l. slice_get l (length (filter test (numbers n))) ≡ Some n in
        subst P (sym (failing test m t)) g

    by_cases : (n < m → test n ≡ true → slice_get (filter test (numbers m)) (length (filter test (numbers n))) ≡ Some n)
        → (n < m) ⊎ (n ≡ m) → slice_get (filter test (numbers (suc m))) (length (filter test (numbers n))) ≡ Some n
    by_cases before (inl l) = by_last (test m) refl (before l e)
    by_cases before (inr same) =
        let P : ℕ → Type 0 = λ k. slice_get (filter test (numbers (suc k))) (length (filter test (numbers n))) ≡ Some n in
        let Q : List ℕ → Type 0 = λ l. slice_get l (length (filter test (numbers n))) ≡ Some n in
        subst P same (subst Q (sym (passing test n e)) (slice_get-last (filter test (numbers n)) n))

receives_at_place : (channel : ℕ) (offers : List Offer) (b : ℕ) (o : Offer) (t : Bool) → b < length offers → o ≡ get_or offers b o
    → receives_on channel o.act ≡ t → is_receiver channel (slice_get offers b) ≡ t
receives_at_place channel offers b o t h at e = ap (is_receiver channel) (slice_get_read offers (length offers) b o refl h at) ∙ e

pub length-receivers_below-more : (channel : ℕ) (offers : List Offer) (b : ℕ) (o : Offer) → b < length offers → o ≡ get_or offers b o
    → receives_on channel o.act ≡ true → length (receivers_below channel offers (b + 1)) ≡ length (receivers_below channel offers b) + 1
unfolding receivers_below
length-receivers_below-more channel offers b o h at e =
    let one : b + 1 ≡ suc b = omega arith in
    rw one (ap length (passing _ b (receives_at_place channel offers b o true h at e)) ∙ length-push _ b)

pub length-receivers_below-same : (channel : ℕ) (offers : List Offer) (b : ℕ) (o : Offer) → b < length offers → o ≡ get_or offers b o
    → receives_on channel o.act ≡ false → length (receivers_below channel offers (b + 1)) ≡ length (receivers_below channel offers b)
unfolding receivers_below
length-receivers_below-same channel offers b o h at e =
    let one : b + 1 ≡ suc b = omega arith in
    rw one (ap length (failing _ b (receives_at_place channel offers b o false h at e)))

pub length-receivers_below-none : (channel : ℕ) (offers : List Offer) → length (receivers_below channel offers 0) ≡ 0
unfolding receivers_below
length-receivers_below-none channel offers = refl

pub length-receivers : (channel : ℕ) (offers : List Offer) (n : ℕ) → n ≡ length offers
    → length (receivers_below channel offers n) ≡ length (receivers channel offers)
unfolding receivers_below
length-receivers channel offers n e = ap (λ k. length (receivers_below channel offers k)) e

pub receivers-at : (channel : ℕ) (offers : List Offer) (b i : ℕ) (o : Offer) → b < length offers → o ≡ get_or offers b o
    → receives_on channel o.act ≡ true → i ≡ length (receivers_below channel offers b) → slice_get (receivers channel offers) i ≡ Some b
unfolding receivers_below
receivers-at channel offers b i o h at e same =
    let P : ℕ → Type 0 = λ k. slice_get (receivers channel offers) k ≡ Some b in
    subst P (sym same) (place _ (length offers) b h (receives_at_place channel offers b o true h at e))

pub ruleset receiver_counting = (length-receivers_below-more, length-receivers_below-same, length-receivers_below-none, length-receivers, receivers-at)
