-- What the methods of the due times keep.
use Rattle.std.proofs.Common.{◌≡◌, ◌≢◌, ℕ, zero, suc, ◌+◌, ◌-◌, ◌^◌, ◌<◌, ◌≤◌, ℤ, List, [], ◌∷◌, ◌++◌, Option, None, Some, length, get_or, replicate, ◌⊎◌, inl, inr, sym, ◌∙◌, ap, subst, refl, arith, length-append}
use Rattle.std.specs.Prelude.{slice_set, map, OnOk, OnErr, Result, Ok, Err}
use Rattle.std.proofs.lemmas.List.{get_or-set_same, get_or-set_other, length-replicate}
use Rattle.std.proofs.Math.ListN.{length-set}
use Rattle.chi_order.specs.declared.heap.Due.{Due}
use Rattle.chi_order.specs.declared.heap.TheConstants.{NOWHERE}
use Rattle.chi_order.specs.Dated.{NotAfter, due_of, IsLeast, NoneDue}
use Rattle.chi_order.specs.Heaped.{nothing, entry, place, time_at, times, kept, parent, Before, IsDues, Hole, Apart, Over, Fills, Takes}
use Rattle.chi_order.proofs.Counting.{get_or-past, same-list, get_or-front, length-map}
use Rattle.chi_order.proofs.Heaps.{before-trans, before-refl, time_at-entry, time_at-past, place-past}

-- what contracts see

get_or-map : {A B : Type 0} (f : A → B) (xs : List A) (k : ℕ) (d : A) (e : B) → k < length xs → get_or (map f xs) k e ≡ f (get_or xs k d)
get_or-map f [] k d e h = absurd (omega (arith, h))
get_or-map f (x ∷ xs) zero d e h = refl
get_or-map f (x ∷ xs) (suc k) d e h = get_or-map f xs k d e (omega (arith, h))

pub length-times : (heap : List Due) (places : List ℕ) → length (times heap places) ≡ length places
unfolding times
length-times heap places = length-map (time_at heap) places

pub due-times : (heap : List Due) (places : List ℕ) (x : ℕ) → length heap ≤ NOWHERE → due_of (times heap places) x ≡ time_at heap (place places x)
unfolding times
due-times heap places x few = by_room (let c : (x < length places) ⊎ (length places ≤ x) = grind arith in c)
  where
    by_room : (x < length places) ⊎ (length places ≤ x) → get_or (map (time_at heap) places) x None ≡ time_at heap (place places x)
    by_room (inl h) = get_or-map (time_at heap) places x NOWHERE None h
    by_room (inr past) =
        get_or-past (map (time_at heap) places) x None (let l = length-map (time_at heap) places in omega (arith, l, past))
        ∙ sym (time_at-past heap (place places x) (let p = place-past places x past in omega (arith, p, few)))

-- how many have a due time

pub kept-within : (ts : List (Option ℤ)) → kept ts ≤ length ts
kept-within [] = omega arith
kept-within (None ∷ ts) = let r = kept-within ts in omega (arith, r)
kept-within (Some t ∷ ts) = let r = kept-within ts in omega (arith, r)

pub kept-less : (ts : List (Option ℤ)) (x : ℕ) → x < length ts → due_of ts x ≡ None → kept ts < length ts
kept-less [] x h e = absurd (omega (arith, h))
kept-less (None ∷ ts) x h e = let r = kept-within ts in omega (arith, r)
kept-less (Some t ∷ ts) zero h e = absurd (cc)
kept-less (Some t ∷ ts) (suc x) h e = let r = kept-less ts x (omega (arith, h)) e in omega (arith, r)

pub kept-more : (ts : List (Option ℤ)) (x : ℕ) (t : ℤ) → x < length ts → due_of ts x ≡ None → kept (slice_set ts x (Some t)) ≡ kept ts + 1
kept-more [] x t h e = absurd (omega (arith, h))
kept-more (None ∷ ts) zero t h e = omega arith
kept-more (Some u ∷ ts) zero t h e = absurd (cc)
kept-more (None ∷ ts) (suc x) t h e = kept-more ts x t (omega (arith, h)) e
kept-more (Some u ∷ ts) (suc x) t h e = let r = kept-more ts x t (omega (arith, h)) e in omega (arith, r)

pub kept-fewer : (ts : List (Option ℤ)) (x : ℕ) (t : ℤ) → x < length ts → due_of ts x ≡ Some t → kept (slice_set ts x None) + 1 ≡ kept ts
kept-fewer [] x t h e = absurd (omega (arith, h))
kept-fewer (None ∷ ts) zero t h e = absurd (cc)
kept-fewer (Some u ∷ ts) zero t h e = omega arith
kept-fewer (None ∷ ts) (suc x) t h e = kept-fewer ts x t (omega (arith, h)) e
kept-fewer (Some u ∷ ts) (suc x) t h e = let r = kept-fewer ts x t (omega (arith, h)) e in omega (arith, r)

-- each number but one has its due time, and that one this
pub times-set : (heap heap' : List Due) (places places' : List ℕ) (x : ℕ) (t : Option ℤ) → length heap ≤ NOWHERE → length heap' ≤ NOWHERE
    → length places' ≡ length places → x < length places → ((y : ℕ) → y ≢ x → time_at heap' (place places' y) ≡ time_at heap (place places y))
    → time_at heap' (place places' x) ≡ t → times heap' places' ≡ slice_set (times heap places) x t
times-set heap heap' places places' x t few few' room h others is =
    same-list (times heap' places') (slice_set (times heap places) x t) None
    (let a = length-times heap' places' in let b = length-times heap places in let c = length-set (times heap places) x t in omega (arith, a, b, c, room))
    (λ k l. due-times heap' places' k few' ∙ by_place k (let c : (k ≡ x) ⊎ (k ≢ x) = grind arith in c))
  where
    by_place : (k : ℕ) → (k ≡ x) ⊎ (k ≢ x) → time_at heap' (place places' k) ≡ get_or (slice_set (times heap places) x t) k None
    by_place k (inl e) =
        ap (λ (j : ℕ). time_at heap' (place places' j)) e ∙ is
        ∙ sym (ap (λ (j : ℕ). get_or (slice_set (times heap places) x t) j None) e
        ∙ get_or-set_same (times heap places) x t None (let b = length-times heap places in omega (arith, b, h)))
    by_place k (inr z) = others k z ∙ sym (due-times heap places k few) ∙ sym (get_or-set_other (times heap places) x k t None z)

module _ (heap : List Due) (places : List ℕ) (capacity : ℕ) (dues : IsDues heap places capacity) where
  pub few : length heap ≤ NOWHERE
  few =
      let a = dues.all in
      let w = kept-within (times heap places) in
      let l = length-times heap places in
      let f = dues.fits in omega (arith, a, w, l, f)

  pub room-left : (x : ℕ) → x < length places → due_of (times heap places) x ≡ None → length heap < length places
  room-left x h e =
      let a = dues.all in
      let l = length-times heap places in
      let w = kept-less (times heap places) x (omega (arith, l, h)) e in omega (arith, a, w, l)

  pub nowhere : (x : ℕ) → x < length places → due_of (times heap places) x ≡ None → place places x ≡ NOWHERE
  nowhere x h e = by_case (dues.placed.numbers x h)
    where
      by_case : (place places x ≡ NOWHERE) ⊎ ((place places x < length heap) × ((entry heap (place places x)).number ≡ x)) → place places x ≡ NOWHERE
      by_case (inl n) = n
      by_case (inr p) =
          absurd (let s : Some (entry heap (place places x)).time ≡ None = sym (time_at-entry heap (place places x) p.0) ∙ sym (due-times heap places x few) ∙ e in cc)

  -- one more

  module _ (due : Due) (h : due.number < length places) (none : due_of (times heap places) due.number ≡ None) where
    more : List Due
    more = heap ++ due ∷ []

    length-more : length (heap ++ due ∷ []) ≡ length heap + 1
    length-more = length-append heap (due ∷ [])

    front : (i : ℕ) → i < length heap → entry (heap ++ due ∷ []) i ≡ entry heap i
    front i l = get_or-front heap (due ∷ []) i nothing l

    pub put-hole : Hole (heap ++ due ∷ []) places (length heap) due.number
    put-hole = record {
      within = let l = length-more in omega (arith, l);
      room = h;
      few =
          let l = length-more in
          let r = room-left due.number h none in
          let f = dues.fits in omega (arith, l, r, f);
      entries = λ i g z.
          let less : i < length heap = (let l = length-more in omega (arith, l, g, z)) in
          let old = dues.placed.entries i less in
          let differ : (entry heap i).number ≢ due.number = λ same.
          (let n = nowhere due.number h none in
          let p : place places due.number ≡ i = ap (place places) (sym same) ∙ old.1 in
          let f = few in omega (arith, n, p, f, less)) in
          subst (λ (d : Due). (d.number < length places) × (place places d.number ≡ i) × (d.number ≢ due.number)) (sym (front i less)) (old.0, old.1, differ);
      numbers = λ y g z. by_case y (dues.placed.numbers y g);
    }
      where
        by_case : (y : ℕ) → (place places y ≡ NOWHERE) ⊎ ((place places y < length heap) × ((entry heap (place places y)).number ≡ y))
            → (place places y ≡ NOWHERE)
            ⊎ ((place places y < length (heap ++ due ∷ [])) × (place places y ≢ length heap) × ((entry (heap ++ due ∷ []) (place places y)).number ≡ y))
        by_case y (inl n) = inl n
        by_case y (inr p) =
            let a = p.0 in
            inr ((let l = length-more in omega (arith, l, a)), (omega (arith, a)), ap (λ (d : Due). d.number) (front (place places y) a) ∙ p.1)

    pub put-apart : Apart (heap ++ due ∷ []) (length heap)
    put-apart = record {
      order = λ i s g z p.
          let l = length-more in
          let less : i < length heap = omega (arith, l, g, z) in
          let o = dues.ordered.order i s less in
          subst (λ (d : Due). Before d (entry (heap ++ due ∷ []) i)) (sym (front (parent i) (omega (arith, less))))
          (subst (Before (entry heap (parent i))) (sym (front i less)) o);
      over = λ i t s g p. absurd (let l = length-more in omega (arith, l, g, p, s, t));
    }

    pub put-over : Over (heap ++ due ∷ []) (length heap) due
    put-over i s g p = absurd (let l = length-more in omega (arith, l, g, p, s))

    same-more : (y : ℕ) → time_at (heap ++ due ∷ []) (place places y) ≡ time_at heap (place places y)
    same-more y = by_room (let c : (y < length places) ⊎ (length places ≤ y) = grind arith in c)
      where
        past : place places y ≡ NOWHERE → time_at (heap ++ due ∷ []) (place places y) ≡ time_at heap (place places y)
        past n =
            let l = length-more in
            let r = room-left due.number h none in
            let f = dues.fits in
            time_at-past (heap ++ due ∷ []) (place places y) (omega (arith, n, l, r, f)) ∙ sym (time_at-past heap (place places y) (omega (arith, n, r, f)))

        by_case : (place places y ≡ NOWHERE) ⊎ ((place places y < length heap) × ((entry heap (place places y)).number ≡ y))
            → time_at (heap ++ due ∷ []) (place places y) ≡ time_at heap (place places y)
        by_case (inl n) = past n
        by_case (inr p) =
            let a = p.0 in
            let l = length-more in
            time_at-entry (heap ++ due ∷ []) (place places y) (omega (arith, l, a))
            ∙ ap (λ (d : Due). Some d.time) (front (place places y) a)
            ∙ sym (time_at-entry heap (place places y) a)

        by_room : (y < length places) ⊎ (length places ≤ y) → time_at (heap ++ due ∷ []) (place places y) ≡ time_at heap (place places y)
        by_room (inl g) = by_case (dues.placed.numbers y g)
        by_room (inr g) = past (place-past places y g)

    module _ (heap' : List Due) (places' : List ℕ) (fills : Fills due (heap ++ due ∷ []) places heap' places') where
      length-put : length heap' ≡ length heap + 1
      length-put = fills.same_length ∙ length-more

      pub put-times : times heap' places' ≡ slice_set (times heap places) due.number (Some due.time)
      put-times =
          times-set heap heap' places places' due.number (Some due.time) few
          (let l = length-put in let r = room-left due.number h none in let f = dues.fits in omega (arith, l, r, f)) fills.same_room h
          (λ y z. fills.same y z ∙ same-more y) fills.is_due

      pub put-dues : IsDues heap' places' capacity
      put-dues = record {
        placed = fills.placed;
        ordered = fills.ordered;
        fits = let f = dues.fits in let s = fills.same_room in omega (arith, f, s);
        all =
            let l = length-put in
            let a = dues.all in
            let n = length-times heap places in
            let m = kept-more (times heap places) due.number due.time (omega (arith, n, h)) none in
            let e : kept (times heap' places') ≡ kept (slice_set (times heap places) due.number (Some due.time)) = ap kept put-times in
            omega (arith, l, a, m, e);
        room = let r = dues.room in let s = fills.same_room in omega (arith, r, s);
      }

  -- one less

  module _ (x : ℕ) (h : x < length places) (t : ℤ) (is : due_of (times heap places) x ≡ Some t)
      (heap' : List Due) (places' : List ℕ) (takes : Takes x heap places heap' places') where
    pub take-times : times heap' places' ≡ slice_set (times heap places) x None
    take-times =
        times-set heap heap' places places' x None few (let l = takes.fewer in let f = few in omega (arith, l, f)) takes.same_room h takes.same takes.is_none

    pub take-dues : IsDues heap' places' capacity
    take-dues = record {
      placed = takes.placed;
      ordered = takes.ordered;
      fits = let f = dues.fits in let s = takes.same_room in omega (arith, f, s);
      all =
          let l = takes.fewer in
          let a = dues.all in
          let n = length-times heap places in
          let m = kept-fewer (times heap places) x t (omega (arith, n, h)) is in
          let e : kept (times heap' places') ≡ kept (slice_set (times heap places) x None) = ap kept take-times in
          omega (arith, l, a, m, e);
      room = let r = dues.room in let s = takes.same_room in omega (arith, r, s);
    }

  -- none less
  pub set-none : (x : ℕ) → place places x ≡ NOWHERE → slice_set (times heap places) x None ≡ times heap places
  set-none x e =
      same-list (slice_set (times heap places) x None) (times heap places) None (length-set (times heap places) x None)
      (λ k l. by_place k (let c : (k ≡ x) ⊎ (k ≢ x) = grind arith in c) (let s = length-set (times heap places) x None in omega (arith, s, l)))
    where
      none : due_of (times heap places) x ≡ None
      none = due-times heap places x few ∙ time_at-past heap (place places x) (let f = few in omega (arith, e, f))

      by_place : (k : ℕ) → (k ≡ x) ⊎ (k ≢ x) → k < length (times heap places) → get_or (slice_set (times heap places) x None) k None ≡ get_or (times heap places) k None
      by_place k (inl s) l =
          ap (λ (j : ℕ). get_or (slice_set (times heap places) x None) j None) s
          ∙ get_or-set_same (times heap places) x None None (omega (arith, s, l))
          ∙ sym none
          ∙ ap (λ (j : ℕ). get_or (times heap places) j None) (sym s)
      by_place k (inr z) l = get_or-set_other (times heap places) x k None None z

  pub found : (x : ℕ) → place places x ≢ NOWHERE → (x < length places) × (place places x < length heap)
  found x z = by_room (let c : (x < length places) ⊎ (length places ≤ x) = grind arith in c)
    where
      by_case : (place places x ≡ NOWHERE) ⊎ ((place places x < length heap) × ((entry heap (place places x)).number ≡ x)) → place places x < length heap
      by_case (inl n) = absurd (z n)
      by_case (inr p) = p.0

      by_room : (x < length places) ⊎ (length places ≤ x) → (x < length places) × (place places x < length heap)
      by_room (inl h) = (h, by_case (dues.placed.numbers x h))
      by_room (inr past) = absurd (z (place-past places x past))

  -- the least

  root-first : (n i : ℕ) → i < n → i < length heap → Before (entry heap 0) (entry heap i)
  root-first zero i h l = absurd (omega (arith, h))
  root-first (suc n) zero h l = before-refl (entry heap 0)
  root-first (suc n) (suc i) h l =
      before-trans _ _ _ (root-first n (parent (suc i)) (omega (arith, h)) (omega (arith, l))) (dues.ordered.order (suc i) (omega arith) l)

  pub is-least : 0 < length heap → IsLeast (times heap places) (entry heap 0).time (entry heap 0).number
  is-least some = record {
    is_due =
        let e = dues.placed.entries 0 some in
        due-times heap places (entry heap 0).number few ∙ ap (time_at heap) e.1 ∙ time_at-entry heap 0 some;
    least = λ y u is. by_room y u is (let c : (y < length places) ⊎ (length places ≤ y) = grind arith in c);
  }
    where
      due-at : (y : ℕ) (u : ℤ) → due_of (times heap places) y ≡ Some u → time_at heap (place places y) ≡ Some u
      due-at y u is = sym (due-times heap places y few) ∙ is

      by_case : (y : ℕ) (u : ℤ) → time_at heap (place places y) ≡ Some u
          → (place places y ≡ NOWHERE) ⊎ ((place places y < length heap) × ((entry heap (place places y)).number ≡ y))
          → NotAfter (entry heap 0).time (entry heap 0).number u y
      by_case y u is (inl n) = absurd (let z = time_at-past heap (place places y) (let f = few in omega (arith, n, f)) in cc)
      by_case y u is (inr p) =
          let b = root-first (length heap) (place places y) p.0 p.0 in
          let t : Some (entry heap (place places y)).time ≡ Some u = sym (time_at-entry heap (place places y) p.0) ∙ is in
          let t' : (entry heap (place places y)).time ≡ u = cc in
          subst (λ (v : ℤ). NotAfter (entry heap 0).time (entry heap 0).number v y) t'
          (subst (λ (z : ℕ). NotAfter (entry heap 0).time (entry heap 0).number (entry heap (place places y)).time z) p.1 b)

      by_room : (y : ℕ) (u : ℤ) → due_of (times heap places) y ≡ Some u → (y < length places) ⊎ (length places ≤ y)
          → NotAfter (entry heap 0).time (entry heap 0).number u y
      by_room y u is (inl h) = by_case y u (due-at y u is) (dues.placed.numbers y h)
      by_room y u is (inr past) =
          absurd (let z = time_at-past heap (place places y) (let f = few in let n = place-past places y past in omega (arith, n, f)) in let d = due-at y u is in cc)

  pub none-due : length heap ≡ 0 → NoneDue (times heap places)
  none-due e x = due-times heap places x few ∙ time_at-past heap (place places x) (omega (arith, e))

-- none at all

pub no-times : (heap : List Due) (places : List ℕ) → places ≡ [] → times heap places ≡ []
unfolding times
no-times heap places e = ap (map (time_at heap)) e

pub no-dues : (heap : List Due) (places : List ℕ) (capacity : ℕ) → heap ≡ [] → places ≡ [] → IsDues heap places capacity
no-dues heap places capacity e f =
    let n : length heap ≡ 0 = ap length e in
    let p : length places ≡ 0 = ap length f in
    record {
      placed = record {
        entries = λ i h. absurd (omega (arith, h, n));
        numbers = λ x h. absurd (omega (arith, h, p));
      };
      ordered = record { order = λ i s h. absurd (omega (arith, h, n)) };
      fits = omega (arith, p);
      all = n ∙ sym (ap kept (no-times heap places f));
      room = omega (arith, p);
    }

-- more room

more-place : (places : List ℕ) (m x : ℕ) → place (places ++ replicate m NOWHERE) x ≡ place places x
more-place [] zero x = refl
more-place [] (suc m) zero = refl
more-place [] (suc m) (suc x) = more-place [] m x
more-place (p ∷ ps) m zero = refl
more-place (p ∷ ps) m (suc x) = more-place ps m x

module _ (heap : List Due) (places : List ℕ) (capacity : ℕ) (dues : IsDues heap places capacity) (m : ℕ) (wide : List ℕ) (e : wide ≡ places ++ replicate m NOWHERE) where
  pub length-wide : length wide ≡ length places + m
  length-wide = ap length e ∙ length-append places (replicate m NOWHERE) ∙ (let r = length-replicate {A = ℕ} m NOWHERE in omega (arith, r))

  wide-place : (x : ℕ) → place wide x ≡ place places x
  wide-place x = ap (λ (ps : List ℕ). place ps x) e ∙ more-place places m x

  pub wide-dues : (x : ℕ) → due_of (times heap wide) x ≡ due_of (times heap places) x
  wide-dues x =
      let f = few heap places capacity dues in
      due-times heap wide x f ∙ ap (time_at heap) (wide-place x) ∙ sym (due-times heap places x f)

  kept-same : (ts us : List (Option ℤ)) → ((x : ℕ) → due_of ts x ≡ due_of us x) → kept ts ≡ kept us
  kept-same [] [] same = refl
  kept-same [] (None ∷ us) same = kept-same [] us (λ x. same (suc x))
  kept-same [] (Some u ∷ us) same = absurd (let z = same 0 in cc)
  kept-same (None ∷ ts) [] same = kept-same ts [] (λ x. same (suc x))
  kept-same (Some t ∷ ts) [] same = absurd (let z = same 0 in cc)
  kept-same (None ∷ ts) (None ∷ us) same = kept-same ts us (λ x. same (suc x))
  kept-same (None ∷ ts) (Some u ∷ us) same = absurd (let z = same 0 in cc)
  kept-same (Some t ∷ ts) (None ∷ us) same = absurd (let z = same 0 in cc)
  kept-same (Some t ∷ ts) (Some u ∷ us) same = let r = kept-same ts us (λ x. same (suc x)) in omega (arith, r)

  pub wide-all : (capacity' : ℕ) → length wide < 2 ^ 32 → length wide ≤ capacity' → IsDues heap wide capacity'
  wide-all capacity' fits room = record {
    placed = record {
      entries = λ i h. let old = dues.placed.entries i h in ((let a = old.0 in let l = length-wide in omega (arith, a, l)), wide-place (entry heap i).number ∙ old.1);
      numbers = λ x h.
          subst (λ (p : ℕ). (p ≡ NOWHERE) ⊎ ((p < length heap) × ((entry heap p).number ≡ x))) (sym (wide-place x))
          (by_room x (let c : (x < length places) ⊎ (length places ≤ x) = grind arith in c));
    };
    ordered = dues.ordered;
    fits = fits;
    all = dues.all ∙ sym (kept-same (times heap wide) (times heap places) wide-dues);
    room = room;
  }
    where
      by_room : (x : ℕ) → (x < length places) ⊎ (length places ≤ x) → (place places x ≡ NOWHERE) ⊎ ((place places x < length heap) × ((entry heap (place places x)).number ≡ x))
      by_room x (inl h) = dues.placed.numbers x h
      by_room x (inr past) = inl (place-past places x past)

pub room-of-dues : (heap : List Due) (places : List ℕ) (ts : List (Option ℤ)) → times heap places ≡ ts → length ts ≡ length places
room-of-dues heap places ts e = sym (ap length e) ∙ length-times heap places

module _ (heap : List Due) (places : List ℕ) (capacity : ℕ) (dues : IsDues heap places capacity) where
  pub heap-within : length heap ≤ length places
  heap-within =
      let a = dues.all in
      let w = kept-within (times heap places) in
      let l = length-times heap places in omega (arith, a, w, l)

  pub found-due : (x : ℕ) → place places x ≢ NOWHERE → (t : ℤ) × (due_of (times heap places) x ≡ Some t)
  found-due x z =
      let f = found heap places capacity dues x z in
      ((entry heap (place places x)).time, due-times heap places x (few heap places capacity dues) ∙ time_at-entry heap (place places x) f.1)

pub widened : (heap : List Due) (places : List ℕ) (capacity : ℕ) → IsDues heap places capacity → (n : ℕ) → length places ≤ n → n < 2 ^ 32
    → {E : Type 0} (r : Result Unit E) (heap' : List Due) (wide : List ℕ) (capacity' : ℕ) → heap' ≡ heap → capacity ≤ capacity'
    → OnOk r (wide ≡ places ++ replicate (n - length places) NOWHERE) → OnErr r (wide ≡ places) → OnOk r (n ≤ capacity') → IsDues heap' wide capacity'
widened heap places capacity dues n more fits (Ok u) heap' wide capacity' e grown is same room =
    subst (λ (h : List Due). IsDues h wide capacity') (sym e)
    (let l = length-wide heap places capacity dues (n - length places) wide is in
    wide-all heap places capacity dues (n - length places) wide is capacity' (omega (arith, l, more, fits)) (omega (arith, l, more, room)))
widened heap places capacity dues n more fits (Err u) heap' wide capacity' e grown is same room =
    subst (λ (h : List Due). IsDues h wide capacity') (sym e)
    (subst (λ (p : List ℕ). IsDues heap p capacity') (sym same)
    (record {
      placed = dues.placed;
      ordered = dues.ordered;
      fits = dues.fits;
      all = dues.all;
      room = let r = dues.room in omega (arith, r, grown);
    }))
