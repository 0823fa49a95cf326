-- A tree of counts over words.
use Rattle.std.proofs.Common.{◌≡◌, ◌≢◌, ℕ, zero, suc, ◌+◌, ◌-◌, ◌*◌, ◌/◌, ◌%◌, ◌^◌, ◌<◌, ◌≤◌, List, Bool, not, length, get_or, ◌⊎◌, inl, inr, sym, ◌∙◌, ap, subst, refl, arith}
use Rattle.std.specs.Prelude.{slice_set}
use Rattle.std.proofs.lemmas.List.{get_or-set_same, get_or-set_other}
use Rattle.std.proofs.Math.ListN.{length-set}
use Rattle.std.proofs.Math.Nat.{pow-suc, mul-le-mul_left, mul-le-mul_right, le-mul_of_pos_right}
use Rattle.chi_order.specs.Counted.{below, weight, IsNode, IsCounted, Recounted, Stands}
use Rattle.chi_order.proofs.Words.{below-none, below-within}

-- powers of four

pub four : (j : ℕ) → 4 ^ suc j ≡ 4 * 4 ^ j
four j = let e = pow-suc 4 j in omega (arith, e)

pub four-pos : (j : ℕ) → 1 ≤ 4 ^ j
four-pos zero = omega arith
four-pos (suc j) = let e = four j in let h = four-pos j in omega (arith, e, h)

four-gap : (a b : ℕ) → 4 ^ a < 4 ^ b → 4 * 4 ^ a ≤ 4 ^ b
four-gap a zero h = absurd (let p = four-pos a in omega (arith, h, p))
four-gap zero (suc b) h = let e = four b in let p = four-pos b in omega (arith, e, p)
four-gap (suc a) (suc b) h =
    let e = four a in
    let f = four b in
    let rest = four-gap a b (omega (arith, e, f, h)) in omega (arith, e, f, rest)

-- a quarter of more than one word
pub quarter : (j span : ℕ) → span ≡ 4 ^ j → 1 < span → (i : ℕ) × (j ≡ suc i) × (span / 4 ≡ 4 ^ i) × (span ≡ 4 * 4 ^ i)
quarter zero span e h = absurd (omega (arith, e, h))
quarter (suc j) span e h = let f = four j in (j, refl, omega (arith, e, f), omega (arith, e, f))

-- going down

module _ (words : List ℕ) (n : ℕ) (counts : List ℕ) (counted : IsCounted words n counts) where
  pub below-few : (k : ℕ) → k ≤ length words → below words (64 * k) ≤ 2 ^ 30
  below-few k h = let f = counted.few in let w = below-within words (64 * k) in omega (arith, f, w, h)

  module _ (i span node start seen : ℕ) (power : (j : ℕ) × (span ≡ 4 ^ j)) (stands : Stands words i span node start seen)
      (inner : 1 < node) (within : start + span ≤ length words) where
    span-some : 1 ≤ span
    span-some = let p = four-pos power.0 in let e = power.1 in omega (arith, p, e)

    is-node : IsNode (length words) power.0 node start
    is-node = (
      subst (λ (s : ℕ). node * s ≡ length words + start) power.1 stands.number,
      (let s = span-some in omega (arith, within, s)),
      inner,
    )

    pub node-within : node < length counts
    node-within =
        let s = span-some in
        let a = le-mul_of_pos_right node s in
        let b = stands.number in
        let l = counted.nodes in omega (arith, a, b, l, within, s)

    pub node-few : node ≤ 2 ^ 25
    node-few = let a = node-within in let l = counted.nodes in let f = counted.few in omega (arith, a, l, f)

    pub node-here : seen + get_or counts node 0 ≡ below words (64 * (start + span))
    node-here =
        let e = counted.each power.0 node start is-node in
        let s = stands.passed in
        let same : below words (64 * (start + span)) ≡ below words (64 * (start + 4 ^ power.0)) = ap (λ (k : ℕ). below words (64 * (start + k))) power.1 in
        omega (arith, e, s, same)

    pub stands-on : (here : ℕ) → here ≡ get_or counts node 0 → here ≤ i - seen → Stands words i span (node + 1) (start + span) (seen + here)
    stands-on here at past = record {
      number = let e = stands.number in omega (arith, e);
      passed = let e = node-here in omega (arith, e, at);
      before = let b = stands.before in omega (arith, b, past);
    }

    pub stands-here : (here : ℕ) → here ≡ get_or counts node 0 → i - seen < here → i < below words (64 * (start + span))
    stands-here here at less = let e = node-here in let b = stands.before in omega (arith, e, at, less, b)

-- counting anew

module _ (m place : ℕ) (up : Bool) where
  -- what becomes of the count of a node of so many words from word a on
  pub record Moved (old new span a : ℕ) : Type 0 where
    pub over : a ≤ place → place < a + span → new + weight (not up) ≡ old + weight up
    pub before : a + span ≤ place → new ≡ old
    pub after : place < a → new ≡ old

  -- the nodes of fewer words than so many are counted anew
  pub record Recounting (old new : List ℕ) (span : ℕ) : Type 0 where
    pub same_length : length new ≡ length old
    pub done : (j k a : ℕ) → IsNode m j k a → 4 ^ j < span → Moved (get_or old k 0) (get_or new k 0) (4 ^ j) a
    pub same : (j k a : ℕ) → IsNode m j k a → span ≤ 4 ^ j → get_or new k 0 ≡ get_or old k 0

  -- the node over the word
  pub record Over (j e span node a : ℕ) : Type 0 where
    pub power : span ≡ 4 ^ j
    pub rest : m ≡ span * 4 ^ e
    pub number : node * span ≡ m + a
    pub first : a ≤ place
    pub last : place < a + span

  pub recounting-first : (old : List ℕ) → Recounting old old 1
  recounting-first old = record {
    same_length = refl;
    done = λ j k a n h. absurd (let p = four-pos j in omega (arith, p, h));
    same = λ j k a n h. refl;
  }

  pub over-first : place < m → (l : ℕ) → m ≡ 4 ^ l → Over 0 l 1 (m + place) place
  over-first h l e = record {
    power = omega arith;
    rest = omega (arith, e);
    number = omega arith;
    first = omega arith;
    last = omega arith;
  }

  module _ (j e span node a : ℕ) (over : Over j e span node a) (less : span < m) where
    span-pos : 1 ≤ span
    span-pos = let p = four-pos j in let e = over.power in omega (arith, p, e)

    pub over-node : place < m → IsNode m j node a
    over-node h = (
      subst (λ (s : ℕ). node * s ≡ m + a) over.power over.number,
      (let f = over.first in omega (arith, f, h)),
      by_node node over.number,
    )
      where
        by_node : (n : ℕ) → n * span ≡ m + a → 1 < n
        by_node zero z = absurd (omega (arith, z, less))
        by_node (suc zero) z = absurd (omega (arith, z, less))
        by_node (suc (suc n)) z = omega arith

    pub over-within : place < m → node < 2 * m
    over-within h =
        let s = span-pos in
        let b = le-mul_of_pos_right node s in
        let n = over.number in
        let f = over.first in omega (arith, b, n, f, h)

    rest-more : (d : ℕ) × (e ≡ suc d)
    rest-more = by_rest e over.rest
      where
        by_rest : (f : ℕ) → m ≡ span * 4 ^ f → (d : ℕ) × (f ≡ suc d)
        by_rest zero z = absurd (omega (arith, z, less))
        by_rest (suc d) z = (d, refl)

    pub over-next : (d : ℕ) × (b : ℕ) × Over (suc j) d (span * 4) (node / 4) b
    over-next =
        let d = rest-more.0 in
        let q = 4 ^ d in
        let fd : 4 ^ e ≡ 4 * q = ap (λ (k : ℕ). 4 ^ k) rest-more.1 ∙ four d in
        let m-is : m ≡ span * (4 * q) = over.rest ∙ ap (λ (k : ℕ). span * k) fd in
        let split : node ≡ 4 * (node / 4) + node % 4 = omega arith in
        let small : node % 4 ≤ 3 = omega arith in
        let up : node % 4 * span ≤ 3 * span = mul-le-mul_right span small in
        let number : (4 * (node / 4) + node % 4) * span ≡ m + a = subst (λ (k : ℕ). k * span ≡ m + a) split over.number in
        let enough : q ≤ node / 4 = at-least (node / 4) q number m-is up in
        let diff : node / 4 - q + q ≡ node / 4 = omega (arith, enough) in
        let product : (node / 4 - q + q) * span ≡ node / 4 * span = ap (λ (k : ℕ). k * span) diff in (
          d,
          (node / 4 - q) * (span * 4),
          record {
            power = let f = four j in let p = over.power in omega (arith, f, p);
            rest = omega (arith, m-is);
            number = omega (arith, product, m-is);
            first = let f = over.first in omega (arith, f, product, number, m-is);
            last = let l = over.last in omega (arith, l, product, number, m-is, up);
          },
        )
      where
        at-least : (n q : ℕ) → (4 * n + node % 4) * span ≡ m + a → m ≡ span * (4 * q) → node % 4 * span ≤ 3 * span → q ≤ n
        at-least n q number m-is up = by_order (let c : (q ≤ n) ⊎ (suc n ≤ q) = grind arith in c)
          where
            by_order : (q ≤ n) ⊎ (suc n ≤ q) → q ≤ n
            by_order (inl l) = l
            by_order (inr g) =
                absurd (let more : suc n * span ≤ q * span = mul-le-mul_right span g in let s = span-pos in omega (arith, more, number, m-is, up, s))

    -- no node of another height has this number
    apart : (j' k' a' : ℕ) → IsNode m j' k' a' → place < m → 4 ^ j' ≢ span → k' ≢ node
    apart j' k' a' n h differ same =
        by_order (let c : (4 ^ j' < span) ⊎ (span < 4 ^ j') = grind arith in c)
      where
        here : node * 4 ^ j' ≡ m + a'
        here = subst (λ (k : ℕ). k * 4 ^ j' ≡ m + a') same n.0

        by_order : (4 ^ j' < span) ⊎ (span < 4 ^ j') → ⊥
        by_order (inl l) =
            let p = over.power in
            let gap = four-gap j' j (omega (arith, l, p)) in
            let g : 4 * 4 ^ j' ≤ span = omega (arith, gap, p) in
            let more : node * (4 * 4 ^ j') ≤ node * span = mul-le-mul_left node g in
            let w = n.1 in
            let f = over.first in
            let z = over.number in omega (arith, more, here, w, f, z, h)
        by_order (inr l) =
            let p = over.power in
            let gap = four-gap j j' (omega (arith, l, p)) in
            let g : 4 * span ≤ 4 ^ j' = omega (arith, gap, p) in
            let more : node * (4 * span) ≤ node * 4 ^ j' = mul-le-mul_left node g in
            let w = n.1 in
            let f = over.first in
            let z = over.number in omega (arith, more, here, w, f, z, h)

    -- of the nodes of this height, only this one is over the word
    same-number : (k' a' : ℕ) → k' * span ≡ m + a' → a' ≤ place → place < a' + span → k' ≡ node
    same-number k' a' z f l = by_order (let c : (k' ≡ node) ⊎ ((suc k' ≤ node) ⊎ (suc node ≤ k')) = grind arith in c)
      where
        by_order : (k' ≡ node) ⊎ ((suc k' ≤ node) ⊎ (suc node ≤ k')) → k' ≡ node
        by_order (inl e) = e
        by_order (inr (inl g)) =
            absurd (let more : suc k' * span ≤ node * span = mul-le-mul_right span g in let y = over.number in let f' = over.first in omega (arith, more, z, y, l, f'))
        by_order (inr (inr g)) =
            absurd (let more : suc node * span ≤ k' * span = mul-le-mul_right span g in let y = over.number in let l' = over.last in omega (arith, more, z, y, f, l'))

    pub recounting-next : (old now : List ℕ) (value : ℕ) → Recounting old now span → place < m → length old ≡ 2 * m
        → value + weight (not up) ≡ get_or now node 0 + weight up → Recounting old (slice_set now node value) (span * 4)
    recounting-next old now value r h room is = record {
      same_length = length-set now node value ∙ r.same_length;
      done = λ j' k' a' n l. by_height j' k' a' n (let c : (4 ^ j' < span) ⊎ ((4 ^ j' ≡ span) ⊎ (span < 4 ^ j')) = grind arith in c) l;
      same = λ j' k' a' n l.
          let s = span-pos in
          get_or-set_other now node k' value 0 (apart j' k' a' n h (λ e. (omega (arith, e, l, s)))) ∙ r.same j' k' a' n (omega (arith, l));
    }
      where
        by_number : (j' k' a' : ℕ) → IsNode m j' k' a' → 4 ^ j' ≡ span → (k' ≡ node) ⊎ (k' ≢ node)
            → Moved (get_or old k' 0) (get_or (slice_set now node value) k' 0) (4 ^ j') a'
        by_number j' k' a' n e (inl same) =
            let w = over-within h in
            let len = r.same_length in
            let z : get_or (slice_set now node value) k' 0 ≡ value
            = ap (λ (k : ℕ). get_or (slice_set now node value) k 0) same ∙ get_or-set_same now node value 0 (omega (arith, w, len, room)) in
            let old-is : get_or now node 0 ≡ get_or old k' 0
            = ap (λ (k : ℕ). get_or now k 0) (sym same) ∙ r.same j' k' a' n (omega (arith, e)) in
            let at : k' * span ≡ m + a' = subst (λ (s : ℕ). k' * s ≡ m + a') e n.0 in
            let there : node * span ≡ m + a' = subst (λ (k : ℕ). k * span ≡ m + a') same at in
            let y = over.number in
            let f = over.first in
            let l = over.last in
            record {
              over = λ f' l'. omega (arith, z, old-is, is);
              before = λ b. absurd (omega (arith, b, there, y, l, e));
              after = λ b. absurd (omega (arith, b, there, y, f));
            }
        by_number j' k' a' n e (inr differ) =
            let z : get_or (slice_set now node value) k' 0 ≡ get_or old k' 0
            = get_or-set_other now node k' value 0 differ ∙ r.same j' k' a' n (omega (arith, e)) in
            let at : k' * span ≡ m + a' = subst (λ (s : ℕ). k' * s ≡ m + a') e n.0 in
            record {
              over = λ f l. absurd (differ (same-number k' a' at f (omega (arith, l, e))));
              before = λ b. z;
              after = λ b. z;
            }

        by_height : (j' k' a' : ℕ) → IsNode m j' k' a' → (4 ^ j' < span) ⊎ ((4 ^ j' ≡ span) ⊎ (span < 4 ^ j')) → 4 ^ j' < span * 4
            → Moved (get_or old k' 0) (get_or (slice_set now node value) k' 0) (4 ^ j') a'
        by_height j' k' a' n (inl l) less' =
            let z = get_or-set_other now node k' value 0 (apart j' k' a' n h (λ e. (omega (arith, e, l)))) in
            subst (λ (v : ℕ). Moved (get_or old k' 0) v (4 ^ j') a') (sym z) (r.done j' k' a' n l)
        by_height j' k' a' n (inr (inl e)) less' = by_number j' k' a' n e (let c : (k' ≡ node) ⊎ (k' ≢ node) = grind arith in c)
        by_height j' k' a' n (inr (inr l)) less' =
            absurd (let p = over.power in let g = four-gap j j' (omega (arith, l, p)) in omega (arith, g, p, less'))

  pub recounted-all : (old new : List ℕ) (span : ℕ) → Recounting old new span → m ≤ span → Recounted m place up old new
  recounted-all old new span r past = record {
    same_length = r.same_length;
    over = λ j k a n f l. (r.done j k a n (small j k a n)).over f l;
    before = λ j k a n b. (r.done j k a n (small j k a n)).before b;
    after = λ j k a n b. (r.done j k a n (small j k a n)).after b;
  }
    where
      small : (j k a : ℕ) → IsNode m j k a → 4 ^ j < span
      small j k a n =
          let two : 2 ≤ k = let i = n.2 in omega (arith, i) in
          let more : 2 * 4 ^ j ≤ k * 4 ^ j = mul-le-mul_right (4 ^ j) two in
          let e = n.0 in
          let w = n.1 in omega (arith, more, e, w, past)

pub four-below : (i j : ℕ) → i ≤ j → 4 ^ i ≤ 4 ^ j
four-below zero j h = four-pos j
four-below (suc i) zero h = absurd (omega (arith, h))
four-below (suc i) (suc j) h = let e = four i in let f = four j in let rest = four-below i j (omega (arith, h)) in omega (arith, e, f, rest)

-- of four nodes, each but the last has one after it
pub turn-within : (m span first start turn : ℕ) → start ≡ first + turn * span → turn < 3 → first + 4 * span ≤ m → start + span ≤ m
turn-within m span first start zero e h w = omega (arith, e, w)
turn-within m span first start (suc zero) e h w = omega (arith, e, w)
turn-within m span first start (suc (suc zero)) e h w = omega (arith, e, w)
turn-within m span first start (suc (suc (suc turn))) e h w = absurd (omega (arith, h))

pub same-power : (i j : ℕ) → 4 ^ i ≡ 4 ^ j → i ≡ j
same-power zero zero e = refl
same-power zero (suc j) e = absurd (let f = four j in let p = four-pos j in omega (arith, e, f, p))
same-power (suc i) zero e = absurd (let f = four i in let p = four-pos i in omega (arith, e, f, p))
same-power (suc i) (suc j) e = let f = four i in let g = four j in ap suc (same-power i j (omega (arith, e, f, g)))

pub start-stands : (words : List ℕ) (i : ℕ) → Stands words i (length words) 1 0 0
start-stands words i = record {
  number = omega arith;
  passed = sym (below-none words);
  before = omega arith;
}

pub down-stands : (words : List ℕ) (i j span node start seen : ℕ) → span ≡ 4 ^ j → 1 < span → Stands words i span node start seen
    → Stands words i (span / 4) (node * 4) start seen
down-stands words i j span node start seen e some s =
    let q = quarter j span e some in
    let a = q.2 in
    let b = q.3 in
    let four : span ≡ 4 * (span / 4) = omega (arith, a, b) in
    let number : node * (4 * (span / 4)) ≡ length words + start = subst (λ (n : ℕ). node * n ≡ length words + start) four s.number in
    record {
      number = omega (arith, number);
      passed = s.passed;
      before = s.before;
    }

pub whole-power : (words : List ℕ) (i : ℕ) → (length words ≡ 0) ⊎ ((l : ℕ) × (length words ≡ 4 ^ l)) → i < below words (64 * length words)
    → (l : ℕ) × (length words ≡ 4 ^ l)
whole-power words i (inl z) some =
    absurd (let w = below-within words (64 * length words) in omega (arith, w, z, some))
whole-power words i (inr p) some = p

pub started : (words : List ℕ) (i span steps : ℕ) → span ≡ length words → (length words ≡ 0) ⊎ ((l : ℕ) × (length words ≡ 4 ^ l))
    → i < below words (64 * length words)
    → record {
      stands : Stands words i span 1 0 0;
      within : 0 + span ≤ length words;
      after : i < below words (64 * (0 + span));
      power : (j : ℕ) × (span ≡ 4 ^ j) × ((m : ℕ) → length words ≡ 4 ^ m → steps + 3 * j ≤ steps + 3 * m);
    }
started words i span steps e whole some =
    let w = whole-power words i whole some in
    let zero : length words ≡ 0 + span = omega (arith, e) in
    record {
      stands = subst (λ (n : ℕ). Stands words i n 1 0 0) (sym e) (start-stands words i);
      within = omega (arith, e);
      after = subst (λ (n : ℕ). i < below words (64 * n)) zero some;
      power = (w.0, e ∙ w.1, λ m h. let s = same-power w.0 m (sym w.1 ∙ h) in omega (arith, s));
    }
