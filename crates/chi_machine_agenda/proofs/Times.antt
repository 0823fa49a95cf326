-- Due times that are waited for.
use Rattle.std.proofs.Common.{◌≡◌, ◌≢◌, ℕ, zero, suc, ◌+◌, ◌<◌, ◌≤◌, ℤ, List, [], ◌∷◌, Option, Some, None, Bool, true, false, cond, length, ◌⊎◌, inl, inr, sym, ◌∙◌, ap, subst, refl, arith}
use Rattle.std.specs.Prelude.{int_lt, not, slice_set}
use Rattle.std.specs.List.{slice_get}
use Rattle.std.proofs.lemmas.Bool.{false≢true}
use Rattle.std.proofs.lemmas.Int.{ints}
use Rattle.chi_chan.specs.declared.offers.Offer.{Offer}
use Rattle.chi_chan.specs.declared.offers.Offer.TheVariants.{Send, Receive, Delay}
use Rattle.chi_order.specs.Dated.{due_of, IsLeast, NoneDue}
use Rattle.chi_order.specs.Marked.{is_marked}
use Rattle.chi_machine_agenda.specs.Timed.{Awaits, AwaitsBelow, AreWoken, Dates, due_count, is_due, sooner}
use Rattle.chi_machine_agenda.specs.Timed as timed
use Rattle.chi_machine_agenda.proofs.Lists.{eq-cases, got-within, or-there, or-other}

-- the order of times

pub not-above : (t u : ℤ) → int_lt t u ≡ true → int_lt u t ≡ false
not-above t u h = grind (arith, ints)

pub not-same : (t : ℤ) → int_lt t t ≡ false
not-same t = grind (arith, ints)

-- t < u, and v isn't before u
pub before-all : (t u v : ℤ) → int_lt t u ≡ true → int_lt v u ≡ false → int_lt t v ≡ true
before-all t u v h g = grind (arith, ints)

-- neither v before u, nor u before t
pub none-before : (t u v : ℤ) → int_lt u t ≡ false → int_lt v u ≡ false → int_lt v t ≡ false
none-before t u v h g = grind (arith, ints)

pub not-true : (b : Bool) → not b ≡ true → b ≡ false
not-true true e = absurd (false≢true e)
not-true false e = refl

pub not-false : (b : Bool) → not b ≡ false → b ≡ true
not-false true e = refl
not-false false e = absurd (false≢true (sym e))

pub not-send : (o : Offer) (c : ℕ) → o ≡ Send c → (t : ℤ) → o ≢ Delay t
not-send o c e t g = let z : Send c ≡ Delay t = sym e ∙ g in cc

pub not-receive : (o : Offer) (c : ℕ) → o ≡ Receive c → (t : ℤ) → o ≢ Delay t
not-receive o c e t g = let z : Receive c ≡ Delay t = sym e ∙ g in cc

-- the least among the offers below a number

pub awaits-first : (clock : ℤ) (offers : List Offer) → AwaitsBelow clock offers 0 None
awaits-first clock offers = timed.AwaitsBelow.nothing (λ a due h e. omega (arith, h))

-- one that isn't a delay
pub awaits-past : (clock : ℤ) (offers : List Offer) (n : ℕ) (o : Offer) (w : Option ℤ) → slice_get offers n ≡ Some o → ((t : ℤ) → o ≢ Delay t)
    → AwaitsBelow clock offers n w → AwaitsBelow clock offers (n + 1) w
awaits-past clock offers n o _ e other (timed.AwaitsBelow.nothing none) = timed.AwaitsBelow.nothing (λ a due h g. by_place a due g (eq-cases a n) (λ m. none a due (omega (arith, h, m)) g))
  where
    by_place : (a : ℕ) (due : ℤ) → slice_get offers a ≡ Some (Delay due) → (a ≡ n) ⊎ (a ≢ n) → (a ≢ n → ⊥) → ⊥
    by_place a due g (inl is) rest = other due (let z : Some o ≡ Some (Delay due) = sym e ∙ ap (slice_get offers) (sym is) ∙ g in cc)
    by_place a due g (inr m) rest = rest m
awaits-past clock offers n o _ e other (timed.AwaitsBelow.later a due at ahead least) =
    timed.AwaitsBelow.later a due at ahead (λ b t h g. by_place b t g (eq-cases b n) (λ m. least b t (omega (arith, h, m)) g))
  where
    by_place : (b : ℕ) (t : ℤ) → slice_get offers b ≡ Some (Delay t) → (b ≡ n) ⊎ (b ≢ n) → (b ≢ n → int_lt t due ≡ false) → int_lt t due ≡ false
    by_place b t g (inl is) rest = absurd (other t (let z : Some o ≡ Some (Delay t) = sym e ∙ ap (slice_get offers) (sym is) ∙ g in cc))
    by_place b t g (inr m) rest = rest m

-- a delay that isn't due
pub awaits-more : (clock : ℤ) (offers : List Offer) (n : ℕ) (t : ℤ) (w : Option ℤ) → slice_get offers n ≡ Some (Delay t) → int_lt clock t ≡ true
    → AwaitsBelow clock offers n w → AwaitsBelow clock offers (n + 1) (Some (sooner t w))
awaits-more clock offers n t _ e ahead (timed.AwaitsBelow.nothing none) =
    timed.AwaitsBelow.later n t e ahead (λ b u h g. by_place b u g (eq-cases b n) (λ m. none b u (omega (arith, h, m)) g))
  where
    by_place : (b : ℕ) (u : ℤ) → slice_get offers b ≡ Some (Delay u) → (b ≡ n) ⊎ (b ≢ n) → (b ≢ n → ⊥) → int_lt u t ≡ false
    by_place b u g (inl is) rest =
        let z : Some (Delay t) ≡ Some (Delay u) = sym e ∙ ap (slice_get offers) (sym is) ∙ g in
        let same : t ≡ u = cc in
        ap (λ x. int_lt x t) (sym same) ∙ not-same t
    by_place b u g (inr m) rest = absurd (rest m)
awaits-more clock offers n t _ e ahead (timed.AwaitsBelow.later a due at before least) = by_test (int_lt due t) refl
  where
    by_test : (x : Bool) → int_lt due t ≡ x → AwaitsBelow clock offers (n + 1) (Some (cond x due t))
    by_test true is = timed.AwaitsBelow.later a due at before (λ b u h g. by_place b u g (eq-cases b n) (λ m. least b u (omega (arith, h, m)) g))
      where
        by_place : (b : ℕ) (u : ℤ) → slice_get offers b ≡ Some (Delay u) → (b ≡ n) ⊎ (b ≢ n) → (b ≢ n → int_lt u due ≡ false) → int_lt u due ≡ false
        by_place b u g (inl same) rest =
            let z : Some (Delay t) ≡ Some (Delay u) = sym e ∙ ap (slice_get offers) (sym same) ∙ g in
            let its : t ≡ u = cc in
            ap (λ x. int_lt x due) (sym its) ∙ not-above due t is
        by_place b u g (inr m) rest = rest m
    by_test false is = timed.AwaitsBelow.later n t e ahead (λ b u h g. by_place b u g (eq-cases b n) (λ m. none-before t due u is (least b u (omega (arith, h, m)) g)))
      where
        by_place : (b : ℕ) (u : ℤ) → slice_get offers b ≡ Some (Delay u) → (b ≡ n) ⊎ (b ≢ n) → (b ≢ n → int_lt u t ≡ false) → int_lt u t ≡ false
        by_place b u g (inl same) rest =
            let z : Some (Delay t) ≡ Some (Delay u) = sym e ∙ ap (slice_get offers) (sym same) ∙ g in
            let its : t ≡ u = cc in
            ap (λ x. int_lt x t) (sym its) ∙ not-same t
        by_place b u g (inr m) rest = rest m

-- those of all
pub awaits-all : (clock : ℤ) (offers : List Offer) (n : ℕ) (w : Option ℤ) → length offers ≤ n → AwaitsBelow clock offers n w → Awaits clock (Some offers) w
awaits-all clock offers n _ h (timed.AwaitsBelow.nothing none) =
    timed.Awaits.nothing (λ a due e. none a due (let w = got-within offers a (Delay due) e in omega (arith, h, w)) e)
awaits-all clock offers n _ h (timed.AwaitsBelow.later a due at ahead least) =
    timed.Awaits.later a due at ahead (λ b u e. least b u (let w = got-within offers b (Delay u) e in omega (arith, h, w)) e)

-- one that doesn't wait
pub awaits-none : (clock : ℤ) (w : Option ℤ) → w ≡ None → Awaits clock None w
awaits-none clock w e = subst (λ (x : Option ℤ). Awaits clock None x) (sym e) (timed.Awaits.nothing (λ a due h. cc))

pub none-awaited : (clock : ℤ) (w : Option ℤ) → Awaits clock None w → w ≡ None
none-awaited clock _ (timed.Awaits.nothing none) = refl
none-awaited clock _ (timed.Awaits.already a due e d) = absurd (cc)
none-awaited clock _ (timed.Awaits.later a due e d least) = absurd (cc)

-- those who wake

pub count-less : (times : List (Option ℤ)) (x : ℕ) (t : ℤ) → due_of times x ≡ Some t → due_count (slice_set times x None) < due_count times
count-less [] x t e = absurd (cc)
count-less (None ∷ ts) zero t e = absurd (cc)
count-less (Some u ∷ ts) zero t e = omega arith
count-less (None ∷ ts) (suc x) t e = count-less ts x t e
count-less (Some u ∷ ts) (suc x) t e = let r = count-less ts x t e in omega (arith, r)

-- what was done so far for a number: nothing, or it was due and was woken
pub data Waking (clock : ℤ) (due due' : Option ℤ) (ready ready' : Bool) : Type 0 where
  untouched : due' ≡ due → ready' ≡ ready → Waking clock due due' ready ready'
  woken : is_due clock due ≡ true → due' ≡ None → ready' ≡ true → Waking clock due due' ready ready'

abbrev pub AreWaking : ℤ → List Bool → List Bool → List (Option ℤ) → List (Option ℤ) → Type 0
AreWaking clock marks marks' times times' = (p : ℕ) → Waking clock (due_of times p) (due_of times' p) (is_marked marks p) (is_marked marks' p)

pub waking-first : (clock : ℤ) (marks : List Bool) (times : List (Option ℤ)) → AreWaking clock marks marks times times
waking-first clock marks times p = untouched refl refl

pub waking-more : (clock : ℤ) (marks marks' : List Bool) (times times' : List (Option ℤ)) (x : ℕ) (t : ℤ) → AreWaking clock marks marks' times times'
    → due_of times' x ≡ Some t → is_due clock (Some t) ≡ true → x < length marks'
    → AreWaking clock marks (slice_set marks' x true) times (slice_set times' x None)
waking-more clock marks marks' times times' x t so e d h p = by_place (eq-cases p x) (so p)
  where
    within : (ts : List (Option ℤ)) (k : ℕ) → due_of ts k ≡ Some t → k < length ts
    within [] k g = absurd (cc)
    within (u ∷ us) zero g = omega arith
    within (u ∷ us) (suc k) g = let r = within us k g in omega (arith, r)

    gone : due_of (slice_set times' x None) x ≡ None
    gone = or-there times' x None None (within times' x e)

    its : Waking clock (due_of times x) (due_of times' x) (is_marked marks x) (is_marked marks' x) → is_due clock (due_of times x) ≡ true
    its (untouched a b) = ap (is_due clock) (sym a ∙ e) ∙ d
    its (woken a b g) = a

    by_place : (p ≡ x) ⊎ (p ≢ x) → Waking clock (due_of times p) (due_of times' p) (is_marked marks p) (is_marked marks' p)
        → Waking clock (due_of times p) (due_of (slice_set times' x None) p) (is_marked marks p) (is_marked (slice_set marks' x true) p)
    by_place (inl is) w =
        subst (λ (k : ℕ). Waking clock (due_of times k) (due_of (slice_set times' x None) k) (is_marked marks k) (is_marked (slice_set marks' x true) k)) (sym is)
        (woken (its (so x)) gone (or-there marks' x true false h))
    by_place (inr n) (untouched a b) = untouched (or-other times' x p None None n ∙ a) (or-other marks' x p true false n ∙ b)
    by_place (inr n) (woken a b g) = woken a (or-other times' x p None None n ∙ b) (or-other marks' x p true false n ∙ g)

waking-last : (clock : ℤ) (marks marks' : List Bool) (times times' : List (Option ℤ)) → AreWaking clock marks marks' times times'
    → ((p : ℕ) → is_due clock (due_of times' p) ≡ false) → AreWoken clock marks marks' times times'
waking-last clock marks marks' times times' so none p = by_case (so p) (none p)
  where
    by_case : Waking clock (due_of times p) (due_of times' p) (is_marked marks p) (is_marked marks' p) → is_due clock (due_of times' p) ≡ false
        → (due_of times' p ≡ cond (is_due clock (due_of times p)) None (due_of times p)) × (is_marked marks' p ≡ cond (is_due clock (due_of times p)) true (is_marked marks p))
    by_case (untouched a b) d =
        let f : is_due clock (due_of times p) ≡ false = ap (is_due clock) (sym a) ∙ d in
        (a ∙ sym (ap (λ x. cond x None (due_of times p)) f), b ∙ sym (ap (λ x. cond x true (is_marked marks p)) f))
    by_case (woken a b g) d = (b ∙ sym (ap (λ x. cond x None (due_of times p)) a), g ∙ sym (ap (λ x. cond x true (is_marked marks p)) a))

pub waking-none : (clock : ℤ) (marks marks' : List Bool) (times times' : List (Option ℤ)) → AreWaking clock marks marks' times times' → NoneDue times'
    → AreWoken clock marks marks' times times'
waking-none clock marks marks' times times' so none = waking-last clock marks marks' times times' so (λ p. ap (is_due clock) (none p))

pub waking-later : (clock : ℤ) (marks marks' : List Bool) (times times' : List (Option ℤ)) (t : ℤ) (x : ℕ) → AreWaking clock marks marks' times times'
    → IsLeast times' t x → is_due clock (Some t) ≡ false → AreWoken clock marks marks' times times'
waking-later clock marks marks' times times' t x so least d = waking-last clock marks marks' times times' so none
  where
    ahead : int_lt clock t ≡ true
    ahead = grind arith

    by_due : (p : ℕ) (w : Option ℤ) → due_of times' p ≡ w → is_due clock w ≡ false
    by_due p None e = refl
    by_due p (Some u) e =
        let n = least.least p u e in
        let order = n.times in
        let later : int_lt clock u ≡ true = grind (arith, ints) in
        ap not later

    none : (p : ℕ) → is_due clock (due_of times' p) ≡ false
    none p = by_due p (due_of times' p) refl

-- whoever is due is within the room
pub waking-within : (clock : ℤ) (marks marks' : List Bool) (times times' : List (Option ℤ)) (x : ℕ) (t : ℤ) → AreWaking clock marks marks' times times'
    → due_of times' x ≡ Some t → due_of times x ≡ Some t
waking-within clock marks marks' times times' x t so e = by_case (so x)
  where
    by_case : Waking clock (due_of times x) (due_of times' x) (is_marked marks x) (is_marked marks' x) → due_of times x ≡ Some t
    by_case (untouched a b) = sym a ∙ e
    by_case (woken a b g) = absurd (let z : None ≡ Some t = sym b ∙ e in cc)

pub waking-room : (clock : ℤ) (marks marks' : List Bool) (times times' : List (Option ℤ)) (x : ℕ) (t : ℤ) → AreWaking clock marks marks' times times'
    → due_of times' x ≡ Some t → ((p : ℕ) (due : ℤ) → due_of times p ≡ Some due → p < length marks) → length marks' ≡ length marks → x < length marks'
waking-room clock marks marks' times times' x t so e room same = let r = room x t (waking-within clock marks marks' times times' x t so e) in omega (arith, r, same)
