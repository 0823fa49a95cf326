-- What the methods of the set keep.
use Rattle.std.proofs.Common.{◌≡◌, ◌≢◌, ℕ, zero, suc, ◌+◌, ◌-◌, ◌*◌, ◌/◌, ◌%◌, ◌^◌, ◌<◌, ◌≤◌, List, Bool, true, false, not, length, get_or, replicate, ◌⊎◌, inl, inr, sym, ◌∙◌, ap, subst, refl, arith}
use Rattle.std.specs.Prelude.{slice_set}
use Rattle.std.specs.Int.Count.{ones as count_ones}
use Rattle.std.proofs.lemmas.List.{get_or-set_same, get_or-set_other, get_or-replicate, length-replicate}
use Rattle.std.proofs.Math.Nat.{pow-suc, mul-le-mul_right}
use Rattle.chi_order.specs.Marked.{NoMembers}
use Rattle.chi_order.specs.Counted.{is_set, has, bits, below, weight, IsNode, IsCounted, Recounted}
use Rattle.chi_order.specs.Bounded.{WithinDigits}
use Rattle.chi_order.proofs.Counting.{get_or-past, one_more, count-grows, count-none}
use Rattle.chi_order.proofs.Words.{Changes, written, set-bit, other-bit, set-narrow, cleared-bit, other-cleared, has-at, none-set, length-bits, is_marked-bits, below-within, below-word, below-before, below-after, changed-bits}
use Rattle.chi_order.proofs.Trees.{four, four-pos}

-- a room for so many powers of four has as many digits at least
digits : (l k : ℕ) → 64 * 4 ^ l < 2 ^ k → 7 + 2 * l ≤ k
digits zero zero h = absurd (omega (arith, h))
digits zero (suc zero) h = absurd (omega (arith, h))
digits zero (suc (suc zero)) h = absurd (omega (arith, h))
digits zero (suc (suc (suc zero))) h = absurd (omega (arith, h))
digits zero (suc (suc (suc (suc zero)))) h = absurd (omega (arith, h))
digits zero (suc (suc (suc (suc (suc zero))))) h = absurd (omega (arith, h))
digits zero (suc (suc (suc (suc (suc (suc zero)))))) h = absurd (omega (arith, h))
digits zero (suc (suc (suc (suc (suc (suc (suc k))))))) h = omega arith
digits (suc l) zero h = absurd (let f = four-pos (suc l) in omega (arith, f, h))
digits (suc l) (suc zero) h = absurd (let f = four-pos (suc l) in omega (arith, f, h))
digits (suc l) (suc (suc k)) h =
    let f = four l in
    let a = pow-suc 2 (suc k) in
    let b = pow-suc 2 k in
    let rest = digits l k (omega (arith, f, a, b, h)) in omega (arith, rest)

pub within-digits : (m old mid new : ℕ) → (m ≡ 0) ⊎ ((l : ℕ) × (m ≡ 4 ^ l)) → 0 < m → ((l : ℕ) → m ≡ 4 ^ l → mid ≤ old + 3 * l) → new ≤ mid + 6
    → WithinDigits (64 * m) old new
within-digits m old mid new (inl z) some cost more k h = absurd (omega (arith, z, some))
within-digits m old mid new (inr (l, e)) some cost more k h =
    let d = digits l k (omega (arith, e, h)) in
    let c = cost l e in omega (arith, d, c, more)

pub below-has : (words : List ℕ) (x m n : ℕ) → has words x ≡ true → m ≤ x → x < n → below words m + 1 ≤ below words n
unfolding below
below-has words x m n is low high =
    let a = count-grows (has words) m x low in
    let b = one_more (has words) x in
    let w : weight (has words x) ≡ 1 = ap weight is in
    let c = count-grows (has words) (suc x) n (omega (arith, high)) in omega (arith, a, b, w, c)

pub whole-of : (m : ℕ) → (m ≡ 0) ⊎ ((l : ℕ) × (m ≡ 4 ^ l)) → 0 < m → (l : ℕ) × (m ≡ 4 ^ l)
whole-of m (inl z) some = absurd (omega (arith, z, some))
whole-of m (inr p) some = p

module _ (words : List ℕ) (n : ℕ) (counts : List ℕ) (counted : IsCounted words n counts) where
  pub count-few : n ≤ 2 ^ 30
  count-few = let a = counted.all in let w = below-within words (64 * length words) in let f = counted.few in omega (arith, a, w, f)

  pub node-fits : (j k a : ℕ) → IsNode (length words) j k a → get_or counts k 0 < 2 ^ 31
  node-fits j k a node =
      let e = counted.each j k a node in
      let w = below-within words (64 * (a + 4 ^ j)) in
      let two : 2 * 4 ^ j ≤ k * 4 ^ j = mul-le-mul_right (4 ^ j) (let i = node.2 in omega (arith, i)) in
      let at = node.0 in
      let less = node.1 in
      let f = counted.few in omega (arith, e, w, two, at, less, f)

  pub node-has : (x j k a : ℕ) → has words x ≡ true → IsNode (length words) j k a → a ≤ x / 64 → x / 64 < a + 4 ^ j → 1 ≤ get_or counts k 0
  node-has x j k a is node low high =
      let e = counted.each j k a node in
      let h = below-has words x (64 * a) (64 * (a + 4 ^ j)) is (omega (arith, low)) (omega (arith, high)) in omega (arith, e, h)

  pub count-has : (x : ℕ) → has words x ≡ true → x < 64 * length words → 1 ≤ n
  count-has x is h = let a = counted.all in let b = below-has words x 0 (64 * length words) is (omega arith) h in omega (arith, a, b)

  pub ones-here : (w i seen : ℕ) → w < length words → seen ≡ below words (64 * w) → seen ≤ i → i < below words (64 * (w + 1))
      → i - seen < count_ones (get_or words w 0)
  ones-here w i seen h passed before after =
      let next : 64 * (w + 1) ≡ 64 * w + 64 = omega arith in
      let s : below words (64 * (w + 1)) ≡ below words (64 * w + 64) = ap (below words) next in
      let e = below-word words w 64 (omega arith) in
      let narrow = counted.narrow w in
      let whole : get_or words w 0 % 2 ^ 64 ≡ get_or words w 0 = omega (arith, narrow) in
      let o : count_ones (get_or words w 0 % 2 ^ 64) ≡ count_ones (get_or words w 0) = ap count_ones whole in
      omega (arith, s, e, o, passed, before, after)

  pub counted-anew : (new counts' : List ℕ) (x n' : ℕ) (mark : Bool) → x < 64 * length words → Changes words new x mark → has words x ≡ not mark
      → Recounted (length words) (x / 64) mark counts counts' → n' + weight (not mark) ≡ n + weight mark → ((w : ℕ) → get_or new w 0 < 2 ^ 64)
      → IsCounted new n' counts'
  counted-anew new counts' x n' mark h changes was anew total narrow = record {
    few = let f = counted.few in let l = changes.same_length in omega (arith, f, l);
    whole = subst (λ (m : ℕ). (m ≡ 0) ⊎ ((l : ℕ) × (m ≡ 4 ^ l))) (sym changes.same_length) counted.whole;
    narrow = narrow;
    all =
        let a = counted.all in
        let l : below new (64 * length new) ≡ below new (64 * length words) = ap (λ (m : ℕ). below new (64 * m)) changes.same_length in
        let b = below-after words new x mark changes (64 * length words) h in
        omega (arith, a, l, b, total, w);
    nodes = let a = anew.same_length in let b = counted.nodes in let l = changes.same_length in omega (arith, a, b, l);
    each = λ j k a node.
        by_place j k a (subst (λ (m : ℕ). IsNode m j k a) changes.same_length node)
        (let c : (x / 64 < a) ⊎ ((a ≤ x / 64) × (x / 64 < a + 4 ^ j) ⊎ (a + 4 ^ j ≤ x / 64)) = grind arith in c);
  }
    where
      w : weight (has words x) ≡ weight (not mark)
      w = ap weight was

      by_place : (j k a : ℕ) → IsNode (length words) j k a → (x / 64 < a) ⊎ ((a ≤ x / 64) × (x / 64 < a + 4 ^ j) ⊎ (a + 4 ^ j ≤ x / 64))
          → below new (64 * a) + get_or counts' k 0 ≡ below new (64 * (a + 4 ^ j))
      by_place j k a node (inl past) =
          let e = counted.each j k a node in
          let s = anew.after j k a node past in
          let b = below-after words new x mark changes (64 * a) (omega (arith, past)) in
          let d = below-after words new x mark changes (64 * (a + 4 ^ j)) (omega (arith, past)) in
          omega (arith, e, s, b, d)
      by_place j k a node (inr (inl (low, high))) =
          let e = counted.each j k a node in
          let s = anew.over j k a node low high in
          let b = below-before words new x mark changes (64 * a) (omega (arith, low)) in
          let d = below-after words new x mark changes (64 * (a + 4 ^ j)) (omega (arith, high)) in
          let w' = w in omega (arith, e, s, b, d, w')
      by_place j k a node (inr (inr before)) =
          let e = counted.each j k a node in
          let s = anew.before j k a node before in
          let b = below-before words new x mark changes (64 * a) (omega (arith, before)) in
          let d = below-before words new x mark changes (64 * (a + 4 ^ j)) (omega (arith, before)) in
          omega (arith, e, s, b, d)

pub unchanged : (words : List ℕ) (x : ℕ) (mark : Bool) → x < 64 * length words → has words x ≡ mark → bits words ≡ slice_set (bits words) x mark
unchanged words x mark h is =
    changed-bits words words x mark (record { same_length = refl; at = is; others = λ y z. refl }) h

-- no bit is set

pub has-none : (m x : ℕ) (words : List ℕ) → words ≡ replicate m 0 → has words x ≡ false
unfolding has
has-none m x words e = by_place (let c : (x / 64 < m) ⊎ (m ≤ x / 64) = grind arith in c)
  where
    by_place : (x / 64 < m) ⊎ (m ≤ x / 64) → is_set (get_or words (x / 64) 0) (x % 64) ≡ false
    by_place (inl l) = ap (λ (n : ℕ). is_set n (x % 64)) (ap (λ (ws : List ℕ). get_or ws (x / 64) 0) e ∙ get_or-replicate {A = ℕ} m (x / 64) 0 0 l) ∙ none-set (x % 64)
    by_place (inr past) =
        ap (λ (n : ℕ). is_set n (x % 64)) (get_or-past words (x / 64) 0 (let a = ap length e in let b = length-replicate {A = ℕ} m 0 in omega (arith, a, b, past)))
        ∙ none-set (x % 64)

below-of-none : (words : List ℕ) (n : ℕ) → ((x : ℕ) → has words x ≡ false) → below words n ≡ 0
unfolding below
below-of-none words n none = count-none (has words) n none

pub counted-none : (m : ℕ) (words counts : List ℕ) → words ≡ replicate m 0 → counts ≡ replicate (2 * m) 0 → m ≤ 2 ^ 24 → (m ≡ 0) ⊎ ((l : ℕ) × (m ≡ 4 ^ l))
    → IsCounted words 0 counts
counted-none m words counts e f few whole =
    let l : length words ≡ m = ap length e ∙ length-replicate {A = ℕ} m 0 in
    let none = λ (x : ℕ). has-none m x words e in
    record {
      few = omega (arith, l, few);
      whole = subst (λ (k : ℕ). (k ≡ 0) ⊎ ((l : ℕ) × (k ≡ 4 ^ l))) (sym l) whole;
      narrow = λ w. narrow w (let c : (w < m) ⊎ (m ≤ w) = grind arith in c);
      all = sym (below-of-none words (64 * length words) none);
      nodes = ap length f ∙ length-replicate {A = ℕ} (2 * m) 0 ∙ (omega (arith, l));
      each = λ j k a node.
          let b = below-of-none words (64 * a) none in
          let d = below-of-none words (64 * (a + 4 ^ j)) none in
          let c = zeros k (let c : (k < 2 * m) ⊎ (2 * m ≤ k) = grind arith in c) in omega (arith, b, d, c);
    }
  where
    narrow : (w : ℕ) → (w < m) ⊎ (m ≤ w) → get_or words w 0 < 2 ^ 64
    narrow w (inl l) = let z : get_or words w 0 ≡ 0 = ap (λ (ws : List ℕ). get_or ws w 0) e ∙ get_or-replicate {A = ℕ} m w 0 0 l in omega (arith, z)
    narrow w (inr past) =
        let z : get_or words w 0 ≡ 0 = get_or-past words w 0 (let a = ap length e in let b = length-replicate {A = ℕ} m 0 in omega (arith, a, b, past)) in omega (arith, z)

    zeros : (k : ℕ) → (k < 2 * m) ⊎ (2 * m ≤ k) → get_or counts k 0 ≡ 0
    zeros k (inl l) = ap (λ (ws : List ℕ). get_or ws k 0) f ∙ get_or-replicate {A = ℕ} (2 * m) k 0 0 l
    zeros k (inr past) = get_or-past counts k 0 (let a = ap length f in let b = length-replicate {A = ℕ} (2 * m) 0 in omega (arith, a, b, past))

pub no-members : (m : ℕ) (words : List ℕ) → words ≡ replicate m 0 → NoMembers (bits words)
no-members m words e x = is_marked-bits words x ∙ has-none m x words e

pub room-of : (words : List ℕ) (marks : List Bool) (x : ℕ) → bits words ≡ marks → x < length marks → x < 64 * length words
room-of words marks x e h = let l = length-bits words in let v = ap length e in omega (arith, l, v, h)

-- a bit is set or cleared in a word

module _ (words : List ℕ) (narrow : (w : ℕ) → get_or words w 0 < 2 ^ 64) (x word b : ℕ) (h : x < 64 * length words) (at : b ≡ get_or words (x / 64) 0) where
  abbrev Narrow : List ℕ → Type 0
  Narrow ws = (w : ℕ) → get_or ws w 0 < 2 ^ 64

  pub narrow-set : (value : ℕ) → value < 2 ^ 64 → Narrow (slice_set words (x / 64) value)
  narrow-set value l w = by_place (let c : (w ≡ x / 64) ⊎ (w ≢ x / 64) = grind arith in c)
    where
      by_place : (w ≡ x / 64) ⊎ (w ≢ x / 64) → get_or (slice_set words (x / 64) value) w 0 < 2 ^ 64
      by_place (inl e) =
          let s : get_or (slice_set words (x / 64) value) w 0 ≡ value
          = ap (λ (k : ℕ). get_or (slice_set words (x / 64) value) k 0) e ∙ get_or-set_same words (x / 64) value 0 (omega (arith, h)) in
          omega (arith, s, l)
      by_place (inr d) =
          let s = get_or-set_other words (x / 64) w value 0 d in
          let n = narrow w in omega (arith, s, n)

  pub inserted : is_set b (x % 64) ≡ false → word ≡ b + 2 ^ (x % 64) → Changes words (slice_set words (x / 64) word) x true
  inserted unset e =
      written words x word true (omega (arith, h)) (ap (λ (n : ℕ). is_set n (x % 64)) e ∙ set-bit b (x % 64) unset)
      (λ d z. ap (λ (n : ℕ). is_set n d) e ∙ other-bit b (x % 64) d unset z ∙ ap (λ (n : ℕ). is_set n d) at)

  pub inserted-narrow : is_set b (x % 64) ≡ false → word ≡ b + 2 ^ (x % 64) → Narrow (slice_set words (x / 64) word)
  inserted-narrow unset e =
      let n = narrow (x / 64) in
      let a = at in
      narrow-set word (let s = set-narrow 64 b (x % 64) (omega (arith, n, a)) (omega arith) unset in omega (arith, s, e))

  pub removed : is_set b (x % 64) ≡ true → word ≡ b - 2 ^ (x % 64) → Changes words (slice_set words (x / 64) word) x false
  removed set e =
      written words x word false (omega (arith, h)) (ap (λ (n : ℕ). is_set n (x % 64)) e ∙ cleared-bit b (x % 64) set)
      (λ d z. ap (λ (n : ℕ). is_set n d) e ∙ other-cleared b (x % 64) d set z ∙ ap (λ (n : ℕ). is_set n d) at)

  pub removed-narrow : is_set b (x % 64) ≡ true → word ≡ b - 2 ^ (x % 64) → Narrow (slice_set words (x / 64) word)
  removed-narrow set e =
      let n = narrow (x / 64) in
      let a = at in narrow-set word (omega (arith, n, a, e))

  pub has-is : (mark : Bool) → is_set b (x % 64) ≡ mark → has words x ≡ mark
  has-is mark is = has-at words x ∙ ap (λ (n : ℕ). is_set n (x % 64)) (sym at) ∙ is
