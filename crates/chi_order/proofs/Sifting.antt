-- Entries move up and down in a heap, until the hole is where an entry belongs.
use Rattle.std.proofs.Common.{◌≡◌, ◌≢◌, ℕ, suc, ◌+◌, ◌-◌, ◌*◌, ◌/◌, ◌^◌, ◌<◌, ◌≤◌, List, length, ◌⊎◌, inl, inr, sym, ◌∙◌, ap, subst, refl, arith}
use Rattle.std.specs.Prelude.{slice_set}
use Rattle.std.proofs.lemmas.List.{get_or-set_same, get_or-set_other}
use Rattle.std.proofs.Math.ListN.{length-set}
use Rattle.std.proofs.Math.Nat.{pow-suc, pow-le-pow_right, mul-le-mul_left}
use Rattle.chi_order.specs.declared.heap.Due.{Due}
use Rattle.chi_order.specs.Heaped.{nothing, entry, parent, Before, Hole, Apart, Over, Under, SameBut, Fills}
use Rattle.chi_order.proofs.Heaps.{before-trans, moves, moved-times, fills}

-- the hole has moved, and each number but the one that is out has its time
pub record Moving (due : Due) (heap : List Due) (places : List ℕ) (heap' : List Due) (places' : List ℕ) (at : ℕ) : Type 0 where
  pub same_length : length heap' ≡ length heap
  pub same_room : length places' ≡ length places
  pub hole : Hole heap' places' at due.number
  pub same : SameBut due.number heap places heap' places'

pub moving-first : (due : Due) (heap : List Due) (places : List ℕ) (at : ℕ) → Hole heap places at due.number → Moving due heap places heap places at
moving-first due heap places at hole = record {
  same_length = refl;
  same_room = refl;
  hole = hole;
  same = λ y z. refl;
}

module _ (due : Due) (heap : List Due) (places : List ℕ) (heap' : List Due) (places' : List ℕ) (at : ℕ) (m : Moving due heap places heap' places' at) where
  pub moving-on : (i : ℕ) → i < length heap' → i ≢ at
      → Moving due heap places (slice_set heap' at (entry heap' i)) (slice_set places' (entry heap' i).number at) i
  moving-on i h z = record {
    same_length = length-set heap' at (entry heap' i) ∙ m.same_length;
    same_room = length-set places' (entry heap' i).number at ∙ m.same_room;
    hole = moves heap' places' at due.number m.hole i h z;
    same = λ y d. moved-times heap' places' at due.number m.hole i h z y d ∙ m.same y d;
  }

  pub moving-last : Apart heap' at → Over heap' at due → Under heap' at due → Fills due heap places (slice_set heap' at due) (slice_set places' due.number at)
  moving-last apart over under =
      let f = fills heap' places' at due.number m.hole due refl apart over under in record {
        same_length = f.same_length ∙ m.same_length;
        same_room = f.same_room ∙ m.same_room;
        placed = f.placed;
        ordered = f.ordered;
        same = λ y d. f.same y d ∙ m.same y d;
        is_due = f.is_due;
      }

-- the entry over the hole moves into it

module _ (heap : List Due) (at : ℕ) (due : Due) (within : at < length heap) (apart : Apart heap at) where
  set-here : (d : Due) → entry (slice_set heap at d) at ≡ d
  set-here d = get_or-set_same heap at d nothing within

  set-there : (d : Due) (i : ℕ) → i ≢ at → entry (slice_set heap at d) i ≡ entry heap i
  set-there d i z = get_or-set_other heap at i d nothing z

  set-length : (d : Due) → length (slice_set heap at d) ≡ length heap
  set-length d = length-set heap at d

  -- entries apart from the hole stand as they stood
  stands : (d : Due) (i : ℕ) → i ≢ at → parent i ≢ at → Before (entry heap (parent i)) (entry heap i)
      → Before (entry (slice_set heap at d) (parent i)) (entry (slice_set heap at d) i)
  stands d i z p b =
      subst (λ (a : Due). Before a (entry (slice_set heap at d) i)) (sym (set-there d (parent i) p))
      (subst (λ (a : Due). Before (entry heap (parent i)) a) (sym (set-there d i z)) b)

  stands-under : (d : Due) (i : ℕ) → i ≢ at → parent i ≡ at → Before d (entry heap i)
      → Before (entry (slice_set heap at d) (parent i)) (entry (slice_set heap at d) i)
  stands-under d i z p b =
      subst (λ (a : Due). Before a (entry (slice_set heap at d) i)) (sym (ap (entry (slice_set heap at d)) p ∙ set-here d))
      (subst (Before d) (sym (set-there d i z)) b)

  stands-over : (d : Due) (i : ℕ) → i ≡ at → 0 < at → Before (entry heap (parent at)) d
      → Before (entry (slice_set heap at d) (parent i)) (entry (slice_set heap at d) i)
  stands-over d i e some b =
      let p : parent at ≢ at = omega (arith, some) in
      subst (λ (k : ℕ). Before (entry (slice_set heap at d) (parent k)) (entry (slice_set heap at d) k)) (sym e)
      (subst (λ (a : Due). Before (entry (slice_set heap at d) (parent at)) a) (sym (set-here d))
      (subst (λ (a : Due). Before a d) (sym (set-there d (parent at) p)) b))

  module _ (some : 0 < at) (over : Over heap at due) (before : Before due (entry heap (parent at))) where
    up : Due
    up = entry heap (parent at)

    pub rises-apart : Apart (slice_set heap at (entry heap (parent at))) (parent at)
    rises-apart = record {
      order = λ i s g z p.
          by_place i s (let l = set-length (entry heap (parent at)) in omega (arith, l, g)) z p
          (let c : (i ≡ at) ⊎ ((i ≢ at) × (parent i ≡ at) ⊎ (i ≢ at) × (parent i ≢ at)) = grind arith in c);
      over = λ i t s g p. by_over i t s (let l = set-length (entry heap (parent at)) in omega (arith, l, g)) p (let c : (i ≡ at) ⊎ (i ≢ at) = grind arith in c);
    }
      where
        new : List Due
        new = slice_set heap at (entry heap (parent at))

        by_place : (i : ℕ) → 0 < i → i < length heap → i ≢ parent at → parent i ≢ parent at → (i ≡ at) ⊎ ((i ≢ at) × (parent i ≡ at) ⊎ (i ≢ at) × (parent i ≢ at))
            → Before (entry new (parent i)) (entry new i)
        by_place i s g z p (inl e) = absurd (p (ap parent e))
        by_place i s g z p (inr (inl (far, e))) = stands-under (entry heap (parent at)) i far e (apart.over i some s g e)
        by_place i s g z p (inr (inr (far, q))) = stands (entry heap (parent at)) i far q (apart.order i s g far q)

        -- what stands over the new hole is before what stands under it
        top : 0 < parent at → Before (entry heap (parent (parent at))) (entry heap (parent at))
        top t = apart.order (parent at) t (omega (arith, within, some)) (omega (arith, some)) (omega (arith, some, t))

        grand : 0 < parent at → entry new (parent (parent at)) ≡ entry heap (parent (parent at))
        grand t = set-there (entry heap (parent at)) (parent (parent at)) (omega (arith, some, t))

        by_over : (i : ℕ) → 0 < parent at → 0 < i → i < length heap → parent i ≡ parent at → (i ≡ at) ⊎ (i ≢ at) → Before (entry new (parent (parent at))) (entry new i)
        by_over i t s g p (inl e) =
            subst (λ (a : Due). Before a (entry new i)) (sym (grand t))
            (subst (Before (entry heap (parent (parent at)))) (sym (ap (entry new) e ∙ set-here (entry heap (parent at)))) (top t))
        by_over i t s g p (inr far) =
            let q : parent i ≢ at = omega (arith, p, some) in
            let b = apart.order i s g far q in
            let b' = subst (λ (k : ℕ). Before (entry heap k) (entry heap i)) p b in
            subst (λ (a : Due). Before a (entry new i)) (sym (grand t))
            (subst (Before (entry heap (parent (parent at)))) (sym (set-there (entry heap (parent at)) i far)) (before-trans _ _ _ (top t) b'))

    pub rises-over : Over (slice_set heap at (entry heap (parent at))) (parent at) due
    rises-over i s g p = by_place (let c : (i ≡ at) ⊎ (i ≢ at) = grind arith in c)
      where
        by_place : (i ≡ at) ⊎ (i ≢ at) → Before due (entry (slice_set heap at (entry heap (parent at))) i)
        by_place (inl e) = subst (Before due) (sym (ap (entry (slice_set heap at (entry heap (parent at)))) e ∙ set-here (entry heap (parent at)))) before
        by_place (inr far) =
            let q : parent i ≢ at = omega (arith, p, some) in
            let b = apart.order i s (let l = set-length (entry heap (parent at)) in omega (arith, l, g)) far q in
            let b' = subst (λ (k : ℕ). Before (entry heap k) (entry heap i)) p b in
            subst (Before due) (sym (set-there (entry heap (parent at)) i far)) (before-trans _ _ _ before b')

  -- the lesser entry under the hole moves into it

  module _ (child : ℕ) (h : child < length heap) (low : 2 * at + 1 ≤ child) (high : child ≤ 2 * at + 1 + 1)
      (first : Before (entry heap child) (entry heap (2 * at + 1)))
      (second : 2 * at + 1 + 1 < length heap → Before (entry heap child) (entry heap (2 * at + 1 + 1))) where
    is-under : parent child ≡ at
    is-under = omega (arith, low, high)

    -- it is before all that stand under the hole
    lesser-all : (i : ℕ) → 0 < i → i < length heap → parent i ≡ at → Before (entry heap child) (entry heap i)
    lesser-all i s g p = by_order (let c : (i ≤ 2 * at + 1) ⊎ (2 * at + 1 + 1 ≤ i) = grind arith in c)
      where
        by_place : (i ≡ 2 * at + 1) ⊎ (i ≡ 2 * at + 1 + 1) → Before (entry heap child) (entry heap i)
        by_place (inl e) = subst (λ (k : ℕ). Before (entry heap child) (entry heap k)) (sym e) first
        by_place (inr e) = subst (λ (k : ℕ). Before (entry heap child) (entry heap k)) (sym e) (second (omega (arith, e, g)))

        by_order : (i ≤ 2 * at + 1) ⊎ (2 * at + 1 + 1 ≤ i) → Before (entry heap child) (entry heap i)
        by_order (inl l) = by_place (inl (omega (arith, l, s, p)))
        by_order (inr l) = by_place (inr (omega (arith, l, p)))

    pub stays-over : Before due (entry heap child) → Over heap at due
    stays-over b i s g p = before-trans _ _ _ b (lesser-all i s g p)

    pub sinks-apart : Under heap at due → Apart (slice_set heap at (entry heap child)) child
    sinks-apart under = record {
      order = λ i s g z p.
          by_place i s (let l = set-length (entry heap child) in omega (arith, l, g)) z p
          (let c : (i ≡ at) ⊎ ((i ≢ at) × (parent i ≡ at) ⊎ (i ≢ at) × (parent i ≢ at)) = grind arith in c);
      over = λ i t s g p.
          let l = set-length (entry heap child) in
          let far : i ≢ at = omega (arith, p, low, s) in
          let q : parent i ≢ at = omega (arith, p, low) in
          let b = subst (λ (k : ℕ). Before (entry heap k) (entry heap i)) p (apart.order i s (omega (arith, l, g)) far q) in
          subst (λ (a : Due). Before a (entry (slice_set heap at (entry heap child)) i))
          (sym (ap (entry (slice_set heap at (entry heap child))) is-under ∙ set-here (entry heap child)))
          (subst (Before (entry heap child)) (sym (set-there (entry heap child) i far)) b);
    }
      where
        new : List Due
        new = slice_set heap at (entry heap child)

        by_place : (i : ℕ) → 0 < i → i < length heap → i ≢ child → parent i ≢ child → (i ≡ at) ⊎ ((i ≢ at) × (parent i ≡ at) ⊎ (i ≢ at) × (parent i ≢ at))
            → Before (entry new (parent i)) (entry new i)
        by_place i s g z p (inl e) =
            let t : 0 < at = omega (arith, e, s) in
            stands-over (entry heap child) i e t (apart.over child t (omega (arith, low)) h is-under)
        by_place i s g z p (inr (inl (far, e))) = stands-under (entry heap child) i far e (lesser-all i s g e)
        by_place i s g z p (inr (inr (far, q))) = stands (entry heap child) i far q (apart.order i s g far q)

    pub sinks-under : Before (entry heap child) due → Under (slice_set heap at (entry heap child)) child due
    sinks-under b t =
        subst (λ (a : Due). Before a due) (sym (ap (entry (slice_set heap at (entry heap child))) is-under ∙ set-here (entry heap child))) b

  -- nothing stands under it
  pub none-under : length heap ≤ 2 * at + 1 → Over heap at due
  none-under past i s g p = absurd (omega (arith, past, g, p, s))

-- steps

pub pow-less : (m k n : ℕ) → 2 ^ m ≤ n → n < 2 ^ k → m < k
pow-less m k n low high = by_order (let c : (m < k) ⊎ (k ≤ m) = grind arith in c)
  where
    by_order : (m < k) ⊎ (k ≤ m) → m < k
    by_order (inl l) = l
    by_order (inr g) = absurd (let p : 2 ^ k ≤ 2 ^ m = (let two : 0 < 2 = omega arith in pow-le-pow_right two g) in omega (arith, p, low, high))

pub double : (m : ℕ) → 2 ^ suc m ≡ 2 * 2 ^ m
double m = let e = pow-suc 2 m in omega (arith, e)

-- the hole moves up from a place
pub climbs : (m at n : ℕ) → 2 ^ m * (at + 1) ≤ n → 0 < at → 2 ^ suc m * ((at - 1) / 2 + 1) ≤ n
climbs m at n h some =
    let d = double m in
    let half : 2 * ((at - 1) / 2 + 1) ≤ at + 1 = omega (arith, some) in
    let more : 2 ^ m * (2 * ((at - 1) / 2 + 1)) ≤ 2 ^ m * (at + 1) = mul-le-mul_left (2 ^ m) half in
    let e : 2 ^ suc m * ((at - 1) / 2 + 1) ≡ 2 * 2 ^ m * ((at - 1) / 2 + 1) = ap (λ (p : ℕ). p * ((at - 1) / 2 + 1)) d in
    omega (arith, h, more, e)

pub climbed : (m at n k : ℕ) → 2 ^ m * (at + 1) ≤ n → n < 2 ^ k → m < k
climbed m at n k h less = let e : 2 ^ m ≤ n = omega (arith, h) in pow-less m k n e less

-- and down to one
pub sinks : (m at child n : ℕ) → 2 ^ m ≤ at + 1 → 2 * at + 1 ≤ child → 2 ^ suc m ≤ child + 1
sinks m at child n h low = let d = double m in omega (arith, h, low, d)

-- what the loops keep

abbrev Lists : Type 0
Lists = List Due × List ℕ

module _ (due : Due) (heap : List Due) (places : List ℕ) (now : List Due) (nows : List ℕ) (at : ℕ) (m : Moving due heap places now nows at)
    (apart : Apart now at) where
  -- an entry that is written into the hole
  pub last-one : (end : List Due) (ends : List ℕ) → end ≡ slice_set now at due → ends ≡ slice_set nows due.number at → Over now at due → Under now at due
      → Fills due heap places end ends
  last-one end ends e f over under =
      subst (λ (h : List Due). Fills due heap places h ends) (sym e)
      (subst (λ (p : List ℕ). Fills due heap places (slice_set now at due) p) (sym f) (moving-last due heap places now nows at m apart over under))

  module _ (above : Due) (next : List Due) (nexts : List ℕ) (e : next ≡ slice_set now at above) (f : nexts ≡ slice_set nows above.number at) where
    next-one : (i : ℕ) → above ≡ entry now i → i < length now → i ≢ at → Moving due heap places next nexts i
    next-one i is h z =
        subst (λ (h : List Due). Moving due heap places h nexts i) (sym (e ∙ ap (slice_set now at) is))
        (subst (λ (p : List ℕ). Moving due heap places (slice_set now at (entry now i)) p i) (sym (f ∙ ap (λ (d : Due). slice_set nows d.number at) is))
        (moving-on due heap places now nows at m i h z))

    pub rise-next : above ≡ entry now (parent at) → 0 < at → Over now at due → Before due above
        → (Moving due heap places next nexts (parent at)) × (Apart next (parent at)) × (Over next (parent at) due)
    rise-next is some over before =
        let w = m.hole.within in
        let b = subst (Before due) is before in
        let e' : next ≡ slice_set now at (entry now (parent at)) = e ∙ ap (slice_set now at) is in (
          next-one (parent at) is (omega (arith, w)) (omega (arith, some)),
          subst (λ (h : List Due). Apart h (parent at)) (sym e') (rises-apart now at due w apart some over b),
          subst (λ (h : List Due). Over h (parent at) due) (sym e') (rises-over now at due w apart some over b),
        )

    pub sink-next : (child : ℕ) → above ≡ entry now child → child < length now → 2 * at + 1 ≤ child → child ≤ 2 * at + 1 + 1
        → Before (entry now child) (entry now (2 * at + 1)) → (2 * at + 1 + 1 < length now → Before (entry now child) (entry now (2 * at + 1 + 1)))
        → Under now at due → Before above due
        → (Moving due heap places next nexts child) × (Apart next child) × (Under next child due)
    sink-next child is h low high first second under before =
        let w = m.hole.within in
        let b = subst (λ (d : Due). Before d due) is before in
        let e' : next ≡ slice_set now at (entry now child) = e ∙ ap (slice_set now at) is in (
          next-one child is h (omega (arith, low)),
          subst (λ (h : List Due). Apart h child) (sym e') (sinks-apart now at due w apart child h low high first second under),
          subst (λ (h : List Due). Under h child due) (sym e') (sinks-under now at due w apart child h low high first second b),
        )
