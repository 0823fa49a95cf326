-- Bits of words.
use Rattle.std.proofs.Common.{◌≡◌, ◌≢◌, ℕ, zero, suc, ◌+◌, ◌-◌, ◌*◌, ◌/◌, ◌%◌, ◌^◌, ◌<◌, ◌≤◌, List, [], ◌∷◌, Some, Bool, true, false, length, get_or, ◌⊎◌, inl, inr, sym, ◌∙◌, ap, subst, refl, arith}
use Rattle.std.specs.Prelude.{nat_eq, filter, map, slice_set}
use Rattle.std.specs.List.{slice_get}
use Rattle.std.proofs.lemmas.Nat.{ones_cat, mod-pow-add, mod_below, pow_pos, shr-shr}
use Rattle.std.proofs.Math.Nat.{pow-suc}
use Rattle.std.specs.Int.Count.{ones as count_ones, ones_in, count_trailing_zeros, under}
use Rattle.std.proofs.lemmas.List.{get_or-set_same, get_or-set_other}
use Rattle.std.proofs.Math.ListN.{length-set}
use Rattle.chi_order.specs.Marked.{numbers, is_marked, members}
use Rattle.chi_order.specs.Counted.{is_set, has, bits, below, weight}
use Rattle.chi_order.proofs.Counting.{get_or-past, same-list, length-tests, test-at, place, count, one_more, count-within, count-grows, agree, same-filtered, differ}

-- a bit is 0 or 1

bit-weight : (d : ℕ) → d < 2 → weight (nat_eq d 1) ≡ d
bit-weight zero h = refl
bit-weight (suc zero) h = refl
bit-weight (suc (suc d)) h = absurd (omega (arith, h))

bit-true : (d : ℕ) → d < 2 → nat_eq d 1 ≡ true → d ≡ 1
bit-true zero h e = absurd (cc)
bit-true (suc zero) h e = refl
bit-true (suc (suc d)) h e = absurd (omega (arith, h))

bit-false : (d : ℕ) → d < 2 → nat_eq d 1 ≡ false → d ≡ 0
bit-false zero h e = refl
bit-false (suc zero) h e = absurd (cc)
bit-false (suc (suc d)) h e = absurd (omega (arith, h))

pub ones-bit : (d : ℕ) → d < 2 → count_ones d ≡ d
unfolding count_ones ones_in
ones-bit zero h = refl
ones-bit (suc zero) h = refl
ones-bit (suc (suc d)) h = absurd (omega (arith, h))

-- one bit more of a word
pub ones-more : (word b : ℕ) → count_ones (word % 2 ^ suc b) ≡ count_ones (word % 2 ^ b) + weight (is_set word b)
unfolding is_set
ones-more word b =
    let small : word / 2 ^ b % 2 < 2 = omega arith in
    let one : 1 + b ≡ suc b = omega arith in
    let split : word % 2 ^ suc b ≡ word / 2 ^ b % 2 * 2 ^ b + word % 2 ^ b = subst (λ (n : ℕ). word % 2 ^ n ≡ word / 2 ^ b % 2 * 2 ^ b + word % 2 ^ b) one (mod-pow-add word 1 b) in
    let below : word % 2 ^ b < 2 ^ b = mod_below word (2 ^ b) (pow_pos b) in
    ap count_ones split
    ∙ ones_cat b (word / 2 ^ b % 2) (word % 2 ^ b) below
    ∙ (let one : count_ones (word / 2 ^ b % 2) ≡ word / 2 ^ b % 2 = ones-bit (word / 2 ^ b % 2) small in
    let two : weight (nat_eq (word / 2 ^ b % 2) 1) ≡ word / 2 ^ b % 2 = bit-weight (word / 2 ^ b % 2) small in omega (arith, one, two))

-- a word, seen as its lowest bit and the rest

half : (word b : ℕ) → is_set word (suc b) ≡ is_set (word / 2) b
unfolding is_set
half word b =
    let one : 1 + b ≡ suc b = omega arith in
    let e : word / 2 / 2 ^ b ≡ word / 2 ^ suc b = subst (λ (n : ℕ). word / 2 ^ 1 / 2 ^ b ≡ word / 2 ^ n) one (shr-shr word 1 b) in
    ap (λ (d : ℕ). nat_eq (d % 2) 1) (sym e)

lowest : (word : ℕ) → is_set word 0 ≡ nat_eq (word % 2) 1
unfolding is_set
lowest word = let e : word / 2 ^ 0 ≡ word = omega arith in ap (λ (d : ℕ). nat_eq (d % 2) 1) e

double : (b : ℕ) → 2 ^ suc b ≡ 2 * 2 ^ b
double b = let e = pow-suc 2 b in omega (arith, e)

-- a bit is set that wasn't

pub set-bit : (word b : ℕ) → is_set word b ≡ false → is_set (word + 2 ^ b) b ≡ true
set-bit word zero e =
    let low : word % 2 ≡ 0 = bit-false (word % 2) (omega arith) (sym (lowest word) ∙ e) in
    let odd : (word + 1) % 2 ≡ 1 = omega (arith, low) in
    lowest (word + 1) ∙ ap (λ (d : ℕ). nat_eq d 1) odd
set-bit word (suc b) e =
    let two = double b in
    let h : (word + 2 ^ suc b) / 2 ≡ word / 2 + 2 ^ b = omega (arith, two) in
    half (word + 2 ^ suc b) b ∙ ap (λ (d : ℕ). is_set d b) h ∙ set-bit (word / 2) b (sym (half word b) ∙ e)

pub other-bit : (word b d : ℕ) → is_set word b ≡ false → d ≢ b → is_set (word + 2 ^ b) d ≡ is_set word d
other-bit word zero zero e z = absurd (z refl)
other-bit word zero (suc d) e z =
    let low : word % 2 ≡ 0 = bit-false (word % 2) (omega arith) (sym (lowest word) ∙ e) in
    let h : (word + 1) / 2 ≡ word / 2 = omega (arith, low) in
    half (word + 1) d ∙ ap (λ (n : ℕ). is_set n d) h ∙ sym (half word d)
other-bit word (suc b) zero e z =
    let two = double b in
    let h : (word + 2 ^ suc b) % 2 ≡ word % 2 = omega (arith, two) in
    lowest (word + 2 ^ suc b) ∙ ap (λ (n : ℕ). nat_eq n 1) h ∙ sym (lowest word)
other-bit word (suc b) (suc d) e z =
    let two = double b in
    let h : (word + 2 ^ suc b) / 2 ≡ word / 2 + 2 ^ b = omega (arith, two) in
    half (word + 2 ^ suc b) d
    ∙ ap (λ (n : ℕ). is_set n d) h
    ∙ other-bit (word / 2) b d (sym (half word b) ∙ e) (λ same. z (ap suc same))
    ∙ sym (half word d)

pub set-narrow : (n word b : ℕ) → word < 2 ^ n → b < n → is_set word b ≡ false → word + 2 ^ b < 2 ^ n
set-narrow zero word b h l e = absurd (omega (arith, l))
set-narrow (suc n) word zero h l e =
    let low : word % 2 ≡ 0 = bit-false (word % 2) (omega arith) (sym (lowest word) ∙ e) in
    let two = double n in omega (arith, low, two, h)
set-narrow (suc n) word (suc b) h l e =
    let two = double n in
    let two' = double b in
    let rest = set-narrow n (word / 2) b (omega (arith, two, h)) (omega (arith, l)) (sym (half word b) ∙ e) in
    omega (arith, two, two', rest)

-- a bit is cleared that was set

pub has-bit : (word b : ℕ) → is_set word b ≡ true → 2 ^ b ≤ word
has-bit word zero e =
    let low : word % 2 ≡ 1 = bit-true (word % 2) (omega arith) (sym (lowest word) ∙ e) in omega (arith, low)
has-bit word (suc b) e =
    let two = double b in
    let rest = has-bit (word / 2) b (sym (half word b) ∙ e) in omega (arith, two, rest)

pub cleared-bit : (word b : ℕ) → is_set word b ≡ true → is_set (word - 2 ^ b) b ≡ false
cleared-bit word zero e =
    let low : word % 2 ≡ 1 = bit-true (word % 2) (omega arith) (sym (lowest word) ∙ e) in
    let even : (word - 1) % 2 ≡ 0 = omega (arith, low) in
    lowest (word - 1) ∙ ap (λ (d : ℕ). nat_eq d 1) even
cleared-bit word (suc b) e =
    let two = double b in
    let some = has-bit (word / 2) b (sym (half word b) ∙ e) in
    let h : (word - 2 ^ suc b) / 2 ≡ word / 2 - 2 ^ b = omega (arith, two, some) in
    half (word - 2 ^ suc b) b ∙ ap (λ (d : ℕ). is_set d b) h ∙ cleared-bit (word / 2) b (sym (half word b) ∙ e)

pub other-cleared : (word b d : ℕ) → is_set word b ≡ true → d ≢ b → is_set (word - 2 ^ b) d ≡ is_set word d
other-cleared word b d e z =
    let some = has-bit word b e in
    let back : word - 2 ^ b + 2 ^ b ≡ word = omega (arith, some) in
    sym (other-bit (word - 2 ^ b) b d (cleared-bit word b e) z) ∙ ap (λ (n : ℕ). is_set n d) back

-- the lowest bit that is set

abbrev IsLowest : ℕ → ℕ → ℕ → Type 0
IsLowest n word t = (t < n) × (is_set word t ≡ true) × (word % 2 ^ t ≡ 0)

lowest-by : (n word t d : ℕ) → word % 2 ≡ d → d < 2 → (d ≡ 0 → IsLowest n (word / 2) t) → IsLowest (suc n) word (under d t)
lowest-by n word t zero e l before =
    let rest = before refl in
    let more : 2 ^ suc t ≡ 2 * 2 ^ t = double t in (
      (let a = rest.0 in omega (arith, a)),
      half word t ∙ rest.1,
      (let one : t + 1 ≡ suc t = omega arith in
          let s = mod-pow-add word t 1 in
          let z : word % 2 ^ (t + 1) ≡ 0 = let r = rest.2 in omega (arith, s, r, e) in
          subst (λ (m : ℕ). word % 2 ^ m ≡ 0) one z),
    )
lowest-by n word t (suc zero) e l before = (omega arith, lowest word ∙ ap (λ (d : ℕ). nat_eq d 1) e, omega arith)
lowest-by n word t (suc (suc d)) e l before = absurd (omega (arith, l))

pub lowest-bit : (n word : ℕ) → word < 2 ^ n → 0 < word → IsLowest n word (count_trailing_zeros n word)
unfolding count_trailing_zeros
lowest-bit zero word h some = absurd (omega (arith, h, some))
lowest-bit (suc n) word h some =
    let two = double n in
    lowest-by n word (count_trailing_zeros n (word / 2)) (word % 2) refl (omega arith)
    (λ e. lowest-bit n (word / 2) (omega (arith, two, h)) (omega (arith, e, some)))

-- bits of all words

pub has-within : (words : List ℕ) (w j : ℕ) → j < 64 → has words (64 * w + j) ≡ is_set (get_or words w 0) j
unfolding has
has-within words w j h =
    let d : (64 * w + j) / 64 ≡ w = omega (arith, h) in
    let r : (64 * w + j) % 64 ≡ j = omega (arith, h) in
    ap (λ (k : ℕ). is_set (get_or words k 0) ((64 * w + j) % 64)) d ∙ ap (is_set (get_or words w 0)) r

pub none-set : (b : ℕ) → is_set 0 b ≡ false
none-set zero = lowest 0
none-set (suc b) = half 0 b ∙ none-set b

pub has-past : (words : List ℕ) (x : ℕ) → 64 * length words ≤ x → has words x ≡ false
unfolding has
has-past words x h =
    ap (λ (n : ℕ). is_set n (x % 64)) (get_or-past words (x / 64) 0 (omega (arith, h))) ∙ none-set (x % 64)

-- what contracts see

pub length-bits : (words : List ℕ) → length (bits words) ≡ 64 * length words
unfolding bits
length-bits words = length-tests (has words) (64 * length words)

pub is_marked-bits : (words : List ℕ) (x : ℕ) → is_marked (bits words) x ≡ has words x
unfolding bits
is_marked-bits words x = by_cases (let c : (x < 64 * length words) ⊎ (64 * length words ≤ x) = grind arith in c)
  where
    by_cases : (x < 64 * length words) ⊎ (64 * length words ≤ x) → get_or (map (has words) (numbers (64 * length words))) x false ≡ has words x
    by_cases (inl l) = test-at (has words) (64 * length words) x false l
    by_cases (inr past) =
        get_or-past (map (has words) (numbers (64 * length words))) x false (let e = length-tests (has words) (64 * length words) in omega (arith, e, past))
        ∙ sym (has-past words x past)

pub members-bits : (words : List ℕ) → members (bits words) ≡ filter (has words) (numbers (64 * length words))
unfolding members
members-bits words =
    ap (λ (n : ℕ). filter (is_marked (bits words)) (numbers n)) (length-bits words)
    ∙ same-filtered (is_marked (bits words)) (has words) (64 * length words) (λ k h. is_marked-bits words k)

pub length-members : (words : List ℕ) → length (members (bits words)) ≡ below words (64 * length words)
unfolding below
length-members words = ap length (members-bits words)

-- counts

pub below-none : (words : List ℕ) → below words 0 ≡ 0
unfolding below
below-none words = refl

pub below-within : (words : List ℕ) (n : ℕ) → below words n ≤ n
unfolding below
below-within words n = count-within (has words) n

pub below-grows : (words : List ℕ) (m n : ℕ) → m ≤ n → below words m ≤ below words n
unfolding below
below-grows words m n h = count-grows (has words) m n h

pub below-word : (words : List ℕ) (w j : ℕ) → j ≤ 64 → below words (64 * w + j) ≡ below words (64 * w) + count_ones (get_or words w 0 % 2 ^ j)
unfolding below
below-word words w zero h =
    let e : 64 * w + 0 ≡ 64 * w = omega arith in
    let m : get_or words w 0 % 2 ^ 0 ≡ 0 = omega arith in
    let z : count_ones (get_or words w 0 % 2 ^ 0) ≡ 0 = ap count_ones m ∙ ones-bit 0 (omega arith) in
    let s : count (has words) (64 * w + 0) ≡ count (has words) (64 * w) = ap (count (has words)) e in
    omega (arith, z, s)
below-word words w (suc j) h =
    let rest = below-word words w j (omega (arith, h)) in
    let next : suc (64 * w + j) ≡ 64 * w + suc j = omega arith in
    let s : count (has words) (suc (64 * w + j)) ≡ count (has words) (64 * w + suc j) = ap (count (has words)) next in
    let more = one_more (has words) (64 * w + j) in
    let here : weight (has words (64 * w + j)) ≡ weight (is_set (get_or words w 0) j) = ap weight (has-within words w j (omega (arith, h))) in
    let ones = ones-more (get_or words w 0) j in
    omega (arith, rest, s, more, here, ones)

pub member-at : (words : List ℕ) (w b i seen : ℕ) → w < length words → b < 64 → is_set (get_or words w 0) b ≡ true
    → seen ≡ below words (64 * w) → count_ones (get_or words w 0 % 2 ^ b) + seen ≡ i → slice_get (members (bits words)) i ≡ Some (64 * w + b)
unfolding below
member-at words w b i seen h l set e same =
    let at : i ≡ below words (64 * w + b) = let s = below-word words w b (omega (arith, l)) in omega (arith, s, same, e) in
    ap (λ (xs : List ℕ). slice_get xs i) (members-bits words)
    ∙ ap (slice_get (filter (has words) (numbers (64 * length words)))) at
    ∙ place (has words) (64 * length words) (64 * w + b) (omega (arith, h, l)) (has-within words w b l ∙ set)

-- a word is written in which one bit differs

pub record Changes (old new : List ℕ) (x : ℕ) (mark : Bool) : Type 0 where
  pub same_length : length new ≡ length old
  pub at : has new x ≡ mark
  pub others : (y : ℕ) → y ≢ x → has new y ≡ has old y

pub written : (words : List ℕ) (x word : ℕ) (mark : Bool) → x / 64 < length words → is_set word (x % 64) ≡ mark
    → ((d : ℕ) → d ≢ x % 64 → is_set word d ≡ is_set (get_or words (x / 64) 0) d) → Changes words (slice_set words (x / 64) word) x mark
unfolding has
written words x word mark h set same = record {
  same_length = length-set words (x / 64) word;
  at = ap (λ (n : ℕ). is_set n (x % 64)) (get_or-set_same words (x / 64) word 0 h) ∙ set;
  others = λ y z. by_word y z (let c : (y / 64 ≡ x / 64) ⊎ (y / 64 ≢ x / 64) = grind arith in c);
}
  where
    by_word : (y : ℕ) → y ≢ x → (y / 64 ≡ x / 64) ⊎ (y / 64 ≢ x / 64)
        → is_set (get_or (slice_set words (x / 64) word) (y / 64) 0) (y % 64) ≡ is_set (get_or words (y / 64) 0) (y % 64)
    by_word y z (inl e) =
        ap (λ (k : ℕ). is_set (get_or (slice_set words (x / 64) word) k 0) (y % 64)) e
        ∙ ap (λ (n : ℕ). is_set n (y % 64)) (get_or-set_same words (x / 64) word 0 h)
        ∙ same (y % 64) (λ r. z (omega (arith, e, r)))
        ∙ ap (λ (k : ℕ). is_set (get_or words k 0) (y % 64)) (sym e)
    by_word y z (inr d) = ap (λ (n : ℕ). is_set n (y % 64)) (get_or-set_other words (x / 64) (y / 64) word 0 d)

module _ (old new : List ℕ) (x : ℕ) (mark : Bool) (changes : Changes old new x mark) where
  pub changed-bits : x < 64 * length old → bits new ≡ slice_set (bits old) x mark
  changed-bits h =
      same-list (bits new) (slice_set (bits old) x mark) false
      (let a = length-bits new in let b = length-bits old in let c = length-set (bits old) x mark in let d = changes.same_length in omega (arith, a, b, c, d))
      (λ k l. is_marked-bits new k ∙ by_place k (let c : (k ≡ x) ⊎ (k ≢ x) = grind arith in c))
    where
      by_place : (k : ℕ) → (k ≡ x) ⊎ (k ≢ x) → has new k ≡ get_or (slice_set (bits old) x mark) k false
      by_place k (inl e) =
          ap (has new) e ∙ changes.at
          ∙ sym (ap (λ (j : ℕ). get_or (slice_set (bits old) x mark) j false) e ∙ get_or-set_same (bits old) x mark false (let b = length-bits old in omega (arith, b, h)))
      by_place k (inr z) =
          changes.others k z ∙ sym (is_marked-bits old k) ∙ sym (get_or-set_other (bits old) x k mark false z)

  pub below-before : (n : ℕ) → n ≤ x → below new n ≡ below old n
  unfolding below
  below-before n h = agree (has new) (has old) n (λ k l. changes.others k (λ e. (omega (arith, e, l, h))))

  pub below-after : (n : ℕ) → x < n → below new n + weight (has old x) ≡ below old n + weight mark
  unfolding below
  below-after n h =
      let d = differ (has new) (has old) x n h changes.others in
      let w : weight (has new x) ≡ weight mark = ap weight changes.at in omega (arith, d, w)

-- a search by halves

pub some-word : (word : ℕ) → 0 < count_ones word → 0 < word
some-word zero h = absurd (let z = ones-bit 0 (omega arith) in omega (arith, h, z))
some-word (suc n) h = omega arith

pub halved : (e width : ℕ) → width ≡ 2 ^ e → 1 < width → (f : ℕ) × (e ≡ suc f) × (width / 2 ≡ 2 ^ f) × (width ≡ 2 * (width / 2))
halved zero width h some = absurd (omega (arith, h, some))
halved (suc f) width h some = let two = double f in (f, refl, omega (arith, two, h), omega (arith, two, h))

pub bit-found : (word low rest : ℕ) → count_ones (word % 2 ^ low) ≤ rest → rest < count_ones (word % 2 ^ suc low)
    → (is_set word low ≡ true) × (count_ones (word % 2 ^ low) ≡ rest)
bit-found word low rest before after = by_bit (is_set word low) refl
  where
    by_bit : (b : Bool) → is_set word low ≡ b → (is_set word low ≡ true) × (count_ones (word % 2 ^ low) ≡ rest)
    by_bit true is =
        let m = ones-more word low in
        let w : weight (is_set word low) ≡ 1 = ap weight is in (is, omega (arith, m, w, before, after))
    by_bit false is =
        absurd (let m = ones-more word low in let w : weight (is_set word low) ≡ 0 = ap weight is in omega (arith, m, w, before, after))

pub has-at : (words : List ℕ) (x : ℕ) → has words x ≡ is_set (get_or words (x / 64) 0) (x % 64)
unfolding has
has-at words x = refl

pub bits-none : bits [] ≡ []
unfolding bits
bits-none = refl

pub read : (words : List ℕ) (k word : ℕ) → word ≡ get_or words k word → k < length words → word ≡ get_or words k 0
read [] k word e h = absurd (omega (arith, h))
read (w ∷ ws) zero word e h = e
read (w ∷ ws) (suc k) word e h = read ws k word e (omega (arith, h))
