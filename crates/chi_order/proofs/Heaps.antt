-- A heap with a hole, in which entries move.
use Rattle.std.proofs.Common.{◌≡◌, ◌≢◌, ℕ, zero, suc, ◌<◌, ◌≤◌, List, [], ◌∷◌, None, Some, length, ◌⊎◌, inl, inr, sym, ◌∙◌, ap, subst, refl, arith}
use Rattle.std.specs.Prelude.{slice_set}
use Rattle.std.proofs.lemmas.Int.{ints}
use Rattle.std.proofs.lemmas.List.{get_or-set_same, get_or-set_other}
use Rattle.std.proofs.Math.ListN.{length-set}
use Rattle.chi_order.specs.declared.heap.Due.{Due}
use Rattle.chi_order.specs.declared.heap.TheConstants.{NOWHERE}
use Rattle.chi_order.specs.Heaped.{nothing, entry, place, time_at, parent, Before, Placed, IsHeap, Hole, Apart, Over, Under, SameBut, Fills}
use Rattle.chi_order.proofs.Counting.{get_or-past}

pub before-trans : (a b c : Due) → Before a b → Before b c → Before a c
before-trans a b c h g =
    let t = h.times in
    let u = g.times in record {
      times = omega (arith, ints, t, u);
      numbers = λ back.
          let m = h.numbers (omega (arith, ints, u, back)) in
          let n = g.numbers (omega (arith, ints, t, back)) in omega (arith, m, n);
    }

pub before-refl : (a : Due) → Before a a
before-refl a = record { times = omega (arith, ints); numbers = λ back. omega arith }

-- times

pub time_at-entry : (heap : List Due) (i : ℕ) → i < length heap → time_at heap i ≡ Some (entry heap i).time
time_at-entry [] i h = absurd (omega (arith, h))
time_at-entry (d ∷ ds) zero h = refl
time_at-entry (d ∷ ds) (suc i) h = time_at-entry ds i (omega (arith, h))

pub time_at-past : (heap : List Due) (i : ℕ) → length heap ≤ i → time_at heap i ≡ None
time_at-past [] i h = refl
time_at-past (d ∷ ds) zero h = absurd (omega (arith, h))
time_at-past (d ∷ ds) (suc i) h = time_at-past ds i (omega (arith, h))

pub place-past : (places : List ℕ) (x : ℕ) → length places ≤ x → place places x ≡ NOWHERE
place-past places x h = get_or-past places x NOWHERE h

-- an entry moves into the hole, or a new one fills it

module _ (heap : List Due) (places : List ℕ) (at x : ℕ) (hole : Hole heap places at x) where
  set-here : (d : Due) → entry (slice_set heap at d) at ≡ d
  set-here d = get_or-set_same heap at d nothing hole.within

  set-there : (d : Due) (i : ℕ) → i ≢ at → entry (slice_set heap at d) i ≡ entry heap i
  set-there d i z = get_or-set_other heap at i d nothing z

  set-length : (d : Due) → length (slice_set heap at d) ≡ length heap
  set-length d = length-set heap at d

  -- a number that isn't out has its time where it stands
  kept-time : (d : Due) (y : ℕ) → y ≢ x → time_at (slice_set heap at d) (place places y) ≡ time_at heap (place places y)
  kept-time d y z = by_room (let c : (y < length places) ⊎ (length places ≤ y) = grind arith in c)
    where
      nowhere : place places y ≡ NOWHERE → time_at (slice_set heap at d) (place places y) ≡ time_at heap (place places y)
      nowhere e =
          let f = hole.few in
          let l = set-length d in
          time_at-past (slice_set heap at d) (place places y) (omega (arith, e, f, l))
          ∙ sym (time_at-past heap (place places y) (omega (arith, e, f)))

      by_case : (place places y ≡ NOWHERE) ⊎ ((place places y < length heap) × (place places y ≢ at) × ((entry heap (place places y)).number ≡ y))
          → time_at (slice_set heap at d) (place places y) ≡ time_at heap (place places y)
      by_case (inl e) = nowhere e
      by_case (inr p) =
          let l = set-length d in
          let h = p.0 in
          time_at-entry (slice_set heap at d) (place places y) (omega (arith, h, l))
          ∙ ap (λ (e : Due). Some e.time) (set-there d (place places y) p.1)
          ∙ sym (time_at-entry heap (place places y) h)

      by_room : (y < length places) ⊎ (length places ≤ y) → time_at (slice_set heap at d) (place places y) ≡ time_at heap (place places y)
      by_room (inl h) = by_case (hole.numbers y h z)
      by_room (inr past) = nowhere (place-past places y past)

  -- the entry of place i moves into the hole, and leaves one
  module _ (i : ℕ) (h : i < length heap) (z : i ≢ at) where
    moved : Due
    moved = entry heap i

    its : ((entry heap i).number < length places) × (place places (entry heap i).number ≡ i) × ((entry heap i).number ≢ x)
    its = hole.entries i h z

    placed-here : place (slice_set places (entry heap i).number at) (entry heap i).number ≡ at
    placed-here = get_or-set_same places (entry heap i).number at NOWHERE its.0

    placed-there : (y : ℕ) → y ≢ (entry heap i).number → place (slice_set places (entry heap i).number at) y ≡ place places y
    placed-there y d = get_or-set_other places (entry heap i).number y at NOWHERE d

    pub moves : Hole (slice_set heap at (entry heap i)) (slice_set places (entry heap i).number at) i x
    moves = record {
      within = let l = set-length (entry heap i) in omega (arith, l, h);
      room = let l = length-set places (entry heap i).number at in let r = hole.room in omega (arith, l, r);
      few = let l = set-length (entry heap i) in let f = hole.few in omega (arith, l, f);
      entries = λ j g d. by_place j (let l = set-length (entry heap i) in omega (arith, l, g)) d (let c : (j ≡ at) ⊎ (j ≢ at) = grind arith in c);
      numbers = λ y g d. by_number y (let l = length-set places (entry heap i).number at in omega (arith, l, g)) d (let c : (y ≡ (entry heap i).number) ⊎ (y ≢ (entry heap i).number) = grind arith in c);
    }
      where
        new : List Due
        new = slice_set heap at (entry heap i)

        news : List ℕ
        news = slice_set places (entry heap i).number at

        room : length news ≡ length places
        room = length-set places (entry heap i).number at

        Stands : ℕ → Due → Type 0
        Stands j e = (e.number < length news) × (place news e.number ≡ j) × (e.number ≢ x)

        by_place : (j : ℕ) → j < length heap → j ≢ i → (j ≡ at) ⊎ (j ≢ at) → Stands j (entry new j)
        by_place j g d (inl e) =
            let here : Stands at (entry heap i) = (let a = its.0 in let r = room in omega (arith, a, r), placed-here, its.2) in
            subst (λ (k : ℕ). Stands k (entry new k)) (sym e) (subst (Stands at) (sym (set-here (entry heap i))) here)
        by_place j g d (inr far) =
            let old = hole.entries j g far in
            let differ : (entry heap j).number ≢ (entry heap i).number = λ same. d (sym old.1 ∙ ap (place places) same ∙ its.1) in
            let there : Stands j (entry heap j) =
            (let a = old.0 in let r = room in omega (arith, a, r), placed-there (entry heap j).number differ ∙ old.1, old.2) in
            subst (Stands j) (sym (set-there (entry heap i) j far)) there

        Found : ℕ → ℕ → Type 0
        Found y p = (p ≡ NOWHERE) ⊎ ((p < length new) × (p ≢ i) × ((entry new p).number ≡ y))

        by_case : (y : ℕ) → y ≢ (entry heap i).number
            → (place places y ≡ NOWHERE) ⊎ ((place places y < length heap) × (place places y ≢ at) × ((entry heap (place places y)).number ≡ y))
            → Found y (place places y)
        by_case y d (inl e) = inl e
        by_case y d (inr p) =
            inr (
              (let a = p.0 in let l = set-length (entry heap i) in omega (arith, a, l)),
              (λ same. d (sym p.2 ∙ ap (λ (k : ℕ). (entry heap k).number) same)),
              ap (λ (e : Due). e.number) (set-there (entry heap i) (place places y) p.1) ∙ p.2,
            )

        by_number : (y : ℕ) → y < length places → y ≢ x → (y ≡ (entry heap i).number) ⊎ (y ≢ (entry heap i).number) → Found y (place news y)
        by_number y g d (inl e) =
            let w = hole.within in
            let here : Found y at = inr ((let l = set-length (entry heap i) in omega (arith, w, l)), (λ same. z (sym same)), ap (λ (e : Due). e.number) (set-here (entry heap i)) ∙ sym e) in
            subst (Found y) (sym (ap (place news) e ∙ placed-here)) here
        by_number y g d (inr far) = subst (Found y) (sym (placed-there y far)) (by_case y far (hole.numbers y g d))

    pub moved-times : SameBut x heap places (slice_set heap at (entry heap i)) (slice_set places (entry heap i).number at)
    moved-times y d = by_number (let c : (y ≡ (entry heap i).number) ⊎ (y ≢ (entry heap i).number) = grind arith in c)
      where
        new : List Due
        new = slice_set heap at (entry heap i)

        by_number : (y ≡ (entry heap i).number) ⊎ (y ≢ (entry heap i).number)
            → time_at new (place (slice_set places (entry heap i).number at) y) ≡ time_at heap (place places y)
        by_number (inl e) =
            ap (λ (k : ℕ). time_at new (place (slice_set places (entry heap i).number at) k)) e
            ∙ ap (time_at new) placed-here
            ∙ time_at-entry new at (let w = hole.within in let l = set-length (entry heap i) in omega (arith, w, l))
            ∙ ap (λ (d : Due). Some d.time) (set-here (entry heap i))
            ∙ sym (time_at-entry heap i h)
            ∙ ap (time_at heap) (sym its.1)
            ∙ ap (λ (k : ℕ). time_at heap (place places k)) (sym e)
        by_number (inr far) = ap (time_at new) (placed-there y far) ∙ kept-time (entry heap i) y d

  -- the number that is out fills the hole
  module _ (due : Due) (its : due.number ≡ x) where
    filled-here : place (slice_set places due.number at) x ≡ at
    filled-here = ap (place (slice_set places due.number at)) (sym its) ∙ get_or-set_same places due.number at NOWHERE (let r = hole.room in omega (arith, r, its))

    filled-there : (y : ℕ) → y ≢ x → place (slice_set places due.number at) y ≡ place places y
    filled-there y d = get_or-set_other places due.number y at NOWHERE (λ same. d (same ∙ its))

    pub fills-placed : Placed (slice_set heap at due) (slice_set places due.number at)
    fills-placed = record {
      entries = λ j g. by_place j (let l = set-length due in omega (arith, l, g)) (let c : (j ≡ at) ⊎ (j ≢ at) = grind arith in c);
      numbers = λ y g. by_number y (let l = length-set places due.number at in omega (arith, l, g)) (let c : (y ≡ x) ⊎ (y ≢ x) = grind arith in c);
    }
      where
        new : List Due
        new = slice_set heap at due

        news : List ℕ
        news = slice_set places due.number at

        room : length news ≡ length places
        room = length-set places due.number at

        Stands : ℕ → Due → Type 0
        Stands j e = (e.number < length news) × (place news e.number ≡ j)

        by_place : (j : ℕ) → j < length heap → (j ≡ at) ⊎ (j ≢ at) → Stands j (entry new j)
        by_place j g (inl e) =
            let here : Stands at due = (let a = hole.room in let r = room in omega (arith, a, r, its), ap (place news) its ∙ filled-here) in
            subst (λ (k : ℕ). Stands k (entry new k)) (sym e) (subst (Stands at) (sym (set-here due)) here)
        by_place j g (inr far) =
            let old = hole.entries j g far in
            let there : Stands j (entry heap j) = (let a = old.0 in let r = room in omega (arith, a, r), filled-there (entry heap j).number old.2 ∙ old.1) in
            subst (Stands j) (sym (set-there due j far)) there

        Found : ℕ → ℕ → Type 0
        Found y p = (p ≡ NOWHERE) ⊎ ((p < length new) × ((entry new p).number ≡ y))

        by_case : (y : ℕ) → (place places y ≡ NOWHERE) ⊎ ((place places y < length heap) × (place places y ≢ at) × ((entry heap (place places y)).number ≡ y))
            → Found y (place places y)
        by_case y (inl e) = inl e
        by_case y (inr p) =
            inr ((let a = p.0 in let l = set-length due in omega (arith, a, l)), ap (λ (e : Due). e.number) (set-there due (place places y) p.1) ∙ p.2)

        by_number : (y : ℕ) → y < length places → (y ≡ x) ⊎ (y ≢ x) → Found y (place news y)
        by_number y g (inl e) =
            let w = hole.within in
            let here : Found y at = inr ((let l = set-length due in omega (arith, w, l)), ap (λ (e : Due). e.number) (set-here due) ∙ its ∙ sym e) in
            subst (Found y) (sym (ap (place news) e ∙ filled-here)) here
        by_number y g (inr far) = subst (Found y) (sym (filled-there y far)) (by_case y (hole.numbers y g far))

    pub filled-times : SameBut due.number heap places (slice_set heap at due) (slice_set places due.number at)
    filled-times y d =
        let far : y ≢ x = λ same. d (same ∙ sym its) in
        ap (time_at (slice_set heap at due)) (filled-there y far) ∙ kept-time due y far

    pub filled-due : time_at (slice_set heap at due) (place (slice_set places due.number at) due.number) ≡ Some due.time
    filled-due =
        ap (λ (k : ℕ). time_at (slice_set heap at due) (place (slice_set places due.number at) k)) its
        ∙ ap (time_at (slice_set heap at due)) filled-here
        ∙ time_at-entry (slice_set heap at due) at (let w = hole.within in let l = set-length due in omega (arith, w, l))
        ∙ ap (λ (d : Due). Some d.time) (set-here due)

    pub fills-heap : Apart heap at → Over heap at due → Under heap at due → IsHeap (slice_set heap at due)
    fills-heap apart over under = record {
      order = λ i some g.
          by_place i some (let l = set-length due in omega (arith, l, g)) (let c : (i ≡ at) ⊎ ((i ≢ at) × (parent i ≡ at) ⊎ (i ≢ at) × (parent i ≢ at)) = grind arith in c);
    }
      where
        new : List Due
        new = slice_set heap at due

        by_place : (i : ℕ) → 0 < i → i < length heap → (i ≡ at) ⊎ ((i ≢ at) × (parent i ≡ at) ⊎ (i ≢ at) × (parent i ≢ at)) → Before (entry new (parent i)) (entry new i)
        by_place i some g (inl e) =
            let p : parent i ≢ at = omega (arith, e, some) in
            let u = subst (λ (k : ℕ). Before (entry heap (parent k)) due) (sym e) (under (omega (arith, e, some))) in
            let a = subst (λ (d : Due). Before d due) (sym (set-there due (parent i) p)) u in
            subst (λ (d : Due). Before (entry new (parent i)) d) (sym (ap (entry new) e ∙ set-here due)) a
        by_place i some g (inr (inl (far, e))) =
            let o = over i some g e in
            let a = subst (λ (d : Due). Before due d) (sym (set-there due i far)) o in
            subst (λ (d : Due). Before d (entry new i)) (sym (ap (entry new) e ∙ set-here due)) a
        by_place i some g (inr (inr (far, p))) =
            let o = apart.order i some g far p in
            let a = subst (λ (d : Due). Before (entry heap (parent i)) d) (sym (set-there due i far)) o in
            subst (λ (d : Due). Before d (entry new i)) (sym (set-there due (parent i) p)) a

    pub fills : Apart heap at → Over heap at due → Under heap at due → Fills due heap places (slice_set heap at due) (slice_set places due.number at)
    fills apart over under = record {
      same_length = set-length due;
      same_room = length-set places due.number at;
      placed = fills-placed;
      ordered = fills-heap apart over under;
      same = filled-times;
      is_due = filled-due;
    }
