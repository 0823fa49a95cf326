-- What is kept when the entry of a number is taken out of a heap.
use Rattle.std.proofs.Common.{◌≡◌, ◌≢◌, ℕ, ◌+◌, ◌<◌, ◌≤◌, List, None, Some, length, take, ◌⊎◌, inl, inr, sym, ◌∙◌, ap, subst, arith}
use Rattle.std.specs.Prelude.{slice_set}
use Rattle.std.proofs.lemmas.List.{get_or-set_same, get_or-set_other, get_or-take, length-take-le}
use Rattle.std.proofs.Math.ListN.{length-set}
use Rattle.chi_order.specs.declared.heap.Due.{Due}
use Rattle.chi_order.specs.declared.heap.TheConstants.{NOWHERE}
use Rattle.chi_order.specs.Heaped.{nothing, entry, place, time_at, parent, Before, Placed, IsHeap, Hole, Apart, Fills, Takes}
use Rattle.chi_order.proofs.Heaps.{before-trans, time_at-entry, time_at-past, place-past}

module _ (x : ℕ) (heap : List Due) (places : List ℕ) (placed : Placed heap places) (ordered : IsHeap heap) (few : length heap ≤ NOWHERE)
    (room : x < length places) (at : ℕ) (is : place places x ≡ at) (some : at < length heap) (end : ℕ) (last : end + 1 ≡ length heap)
    (cut : List Due) (rest : cut ≡ take end heap) (outs : List ℕ) (out : outs ≡ slice_set places x NOWHERE) where
  length-cut : length cut ≡ end
  length-cut = ap length rest ∙ length-take-le end heap (omega (arith, last))

  cut-entry : (i : ℕ) → i < end → entry cut i ≡ entry heap i
  cut-entry i h = ap (λ (ds : List Due). entry ds i) rest ∙ get_or-take end heap i nothing h

  outs-room : length outs ≡ length places
  outs-room = ap length out ∙ length-set places x NOWHERE

  out-here : place outs x ≡ NOWHERE
  out-here = ap (λ (ps : List ℕ). place ps x) out ∙ get_or-set_same places x NOWHERE NOWHERE room

  out-there : (y : ℕ) → y ≢ x → place outs y ≡ place places y
  out-there y z = ap (λ (ps : List ℕ). place ps y) out ∙ get_or-set_other places x y NOWHERE NOWHERE z

  its : (entry heap at).number ≡ x
  its = by_case (placed.numbers x room)
    where
      by_case : (place places x ≡ NOWHERE) ⊎ ((place places x < length heap) × ((entry heap (place places x)).number ≡ x)) → (entry heap at).number ≡ x
      by_case (inl n) = absurd (let i = is in omega (arith, n, i, some, few))
      by_case (inr p) = ap (λ (k : ℕ). (entry heap k).number) (sym is) ∙ p.1

  -- two entries have two numbers
  apart : (i j : ℕ) → i < length heap → j < length heap → i ≢ j → (entry heap i).number ≢ (entry heap j).number
  apart i j h g z same = z (sym (placed.entries i h).1 ∙ ap (place places) same ∙ (placed.entries j g).1)

  -- a number that is neither this nor the last one's
  there : (y : ℕ) → y < length places → y ≢ x → y ≢ (entry heap end).number
      → (place places y ≡ NOWHERE) ⊎ ((place places y < end) × (place places y ≢ at) × ((entry cut (place places y)).number ≡ y))
  there y g z d = by_case (placed.numbers y g)
    where
      by_case : (place places y ≡ NOWHERE) ⊎ ((place places y < length heap) × ((entry heap (place places y)).number ≡ y))
          → (place places y ≡ NOWHERE) ⊎ ((place places y < end) × (place places y ≢ at) × ((entry cut (place places y)).number ≡ y))
      by_case (inl n) = inl n
      by_case (inr p) =
          let not_last : place places y ≢ end = λ e. d (sym p.1 ∙ ap (λ (k : ℕ). (entry heap k).number) e) in
          let less : place places y < end = (let a = p.0 in omega (arith, a, last, not_last)) in
          inr (less, (λ e. z (sym p.1 ∙ ap (λ (k : ℕ). (entry heap k).number) e ∙ its)), ap (λ (d : Due). d.number) (cut-entry (place places y) less) ∙ p.1)

  time-there : (y : ℕ) → y ≢ x → y ≢ (entry heap end).number → time_at cut (place outs y) ≡ time_at heap (place places y)
  time-there y z d = ap (time_at cut) (out-there y z) ∙ by_room (let c : (y < length places) ⊎ (length places ≤ y) = grind arith in c)
    where
      past : place places y ≡ NOWHERE → time_at cut (place places y) ≡ time_at heap (place places y)
      past n =
          let l = length-cut in
          time_at-past cut (place places y) (omega (arith, n, l, few, last)) ∙ sym (time_at-past heap (place places y) (omega (arith, n, few)))

      by_case : (place places y ≡ NOWHERE) ⊎ ((place places y < end) × (place places y ≢ at) × ((entry cut (place places y)).number ≡ y))
          → time_at cut (place places y) ≡ time_at heap (place places y)
      by_case (inl n) = past n
      by_case (inr p) =
          let a = p.0 in
          let l = length-cut in
          time_at-entry cut (place places y) (omega (arith, a, l)) ∙ ap (λ (d : Due). Some d.time) (cut-entry (place places y) a)
          ∙ sym (time_at-entry heap (place places y) (omega (arith, a, last)))

      by_room : (y < length places) ⊎ (length places ≤ y) → time_at cut (place places y) ≡ time_at heap (place places y)
      by_room (inl g) = by_case (there y g z d)
      by_room (inr g) = past (place-past places y g)

  none-here : time_at cut (place outs x) ≡ None
  none-here = ap (time_at cut) out-here ∙ time_at-past cut NOWHERE (let l = length-cut in omega (arith, l, few, last))

  module _ (less : at < end) where
    pub cut-hole : Hole cut outs at (entry heap end).number
    cut-hole = record {
      within = let l = length-cut in omega (arith, l, less);
      room = let e = placed.entries end (omega (arith, last)) in let a = e.0 in let r = outs-room in omega (arith, a, r);
      few = let l = length-cut in omega (arith, l, few, last);
      entries = λ i g z.
          let l = length-cut in
          let h : i < end = omega (arith, l, g) in
          let old = placed.entries i (omega (arith, h, last)) in
          let d : (entry heap i).number ≢ (entry heap end).number = apart i end (omega (arith, h, last)) (omega (arith, last)) (omega (arith, h)) in
          let z' : (entry heap i).number ≢ x = λ same. z (sym old.1 ∙ ap (place places) same ∙ is) in
          subst (λ (e : Due). (e.number < length outs) × (place outs e.number ≡ i) × (e.number ≢ (entry heap end).number)) (sym (cut-entry i h))
          ((let a = old.0 in let r = outs-room in omega (arith, a, r)), out-there (entry heap i).number z' ∙ old.1, d);
      numbers = λ y g d. by_number y (let r = outs-room in omega (arith, r, g)) d (let c : (y ≡ x) ⊎ (y ≢ x) = grind arith in c);
    }
      where
        Found : ℕ → ℕ → Type 0
        Found y p = (p ≡ NOWHERE) ⊎ ((p < length cut) × (p ≢ at) × ((entry cut p).number ≡ y))

        by_case : (y : ℕ) → (place places y ≡ NOWHERE) ⊎ ((place places y < end) × (place places y ≢ at) × ((entry cut (place places y)).number ≡ y)) → Found y (place places y)
        by_case y (inl n) = inl n
        by_case y (inr p) = inr ((let a = p.0 in let l = length-cut in omega (arith, a, l)), p.1, p.2)

        by_number : (y : ℕ) → y < length places → y ≢ (entry heap end).number → (y ≡ x) ⊎ (y ≢ x) → Found y (place outs y)
        by_number y g d (inl e) = inl (ap (place outs) e ∙ out-here)
        by_number y g d (inr z) = subst (Found y) (sym (out-there y z)) (by_case y (there y g z d))

    pub cut-apart : Apart cut at
    cut-apart = record {
      order = λ i s g z p.
          let l = length-cut in
          let h : i < end = omega (arith, l, g) in
          let o = ordered.order i s (omega (arith, h, last)) in
          subst (λ (d : Due). Before d (entry cut i)) (sym (cut-entry (parent i) (omega (arith, h))))
          (subst (Before (entry heap (parent i))) (sym (cut-entry i h)) o);
      over = λ i t s g p.
          let l = length-cut in
          let h : i < end = omega (arith, l, g) in
          let o = ordered.order i s (omega (arith, h, last)) in
          let u = ordered.order at t some in
          let o' = subst (λ (k : ℕ). Before (entry heap k) (entry heap i)) p o in
          subst (λ (d : Due). Before d (entry cut i)) (sym (cut-entry (parent at) (omega (arith, less))))
          (subst (Before (entry heap (parent at))) (sym (cut-entry i h)) (before-trans _ _ _ u o'));
    }

    pub cut-taken : (heap' : List Due) (places' : List ℕ) → Fills (entry heap end) cut outs heap' places' → Takes x heap places heap' places'
    cut-taken heap' places' f = record {
      fewer = let a = f.same_length in let l = length-cut in omega (arith, a, l, last);
      same_room = f.same_room ∙ outs-room;
      placed = f.placed;
      ordered = f.ordered;
      same = λ y z. by_number y z (let c : (y ≡ (entry heap end).number) ⊎ (y ≢ (entry heap end).number) = grind arith in c);
      is_none = f.same x (λ e. apart at end some (omega (arith, last)) (omega (arith, less)) (its ∙ e)) ∙ none-here;
    }
      where
        by_number : (y : ℕ) → y ≢ x → (y ≡ (entry heap end).number) ⊎ (y ≢ (entry heap end).number) → time_at heap' (place places' y) ≡ time_at heap (place places y)
        by_number y z (inl e) =
            let h : end < length heap = omega (arith, last) in
            ap (λ (k : ℕ). time_at heap' (place places' k)) e ∙ f.is_due ∙ sym (time_at-entry heap end h)
            ∙ ap (time_at heap) (sym (placed.entries end h).1) ∙ ap (λ (k : ℕ). time_at heap (place places k)) (sym e)
        by_number y z (inr d) = f.same y d ∙ time-there y z d

  pub last-taken : end ≤ at → Takes x heap places cut outs
  last-taken more = record {
    fewer = let l = length-cut in omega (arith, l, last);
    same_room = outs-room;
    placed = record {
      entries = λ i g.
          let l = length-cut in
          let h : i < end = omega (arith, l, g) in
          let old = placed.entries i (omega (arith, h, last)) in
          let z' : (entry heap i).number ≢ x = λ same. (let p : i ≡ at = sym old.1 ∙ ap (place places) same ∙ is in omega (arith, p, h, more)) in
          subst (λ (e : Due). (e.number < length outs) × (place outs e.number ≡ i)) (sym (cut-entry i h))
          ((let a = old.0 in let r = outs-room in omega (arith, a, r)), out-there (entry heap i).number z' ∙ old.1);
      numbers = λ y g. by_number y (let r = outs-room in omega (arith, r, g)) (let c : (y ≡ x) ⊎ (y ≢ x) = grind arith in c);
    };
    ordered = record {
      order = λ i s g.
          let l = length-cut in
          let h : i < end = omega (arith, l, g) in
          let o = ordered.order i s (omega (arith, h, last)) in
          subst (λ (d : Due). Before d (entry cut i)) (sym (cut-entry (parent i) (omega (arith, h))))
          (subst (Before (entry heap (parent i))) (sym (cut-entry i h)) o);
    };
    same = λ y z. time-there y z (λ e. z (e ∙ same-last));
    is_none = none-here;
  }
    where
      same-last : (entry heap end).number ≡ x
      same-last = let e : end ≡ at = omega (arith, more, some, last) in ap (λ (k : ℕ). (entry heap k).number) e ∙ its

      Found : ℕ → ℕ → Type 0
      Found y p = (p ≡ NOWHERE) ⊎ ((p < length cut) × ((entry cut p).number ≡ y))

      by_case : (y : ℕ) → (place places y ≡ NOWHERE) ⊎ ((place places y < end) × (place places y ≢ at) × ((entry cut (place places y)).number ≡ y)) → Found y (place places y)
      by_case y (inl n) = inl n
      by_case y (inr p) = inr ((let a = p.0 in let l = length-cut in omega (arith, a, l)), p.2)

      by_number : (y : ℕ) → y < length places → (y ≡ x) ⊎ (y ≢ x) → Found y (place outs y)
      by_number y g (inl e) = inl (ap (place outs) e ∙ out-here)
      by_number y g (inr z) = subst (Found y) (sym (out-there y z)) (by_case y (there y g z (λ e. z (e ∙ same-last))))
