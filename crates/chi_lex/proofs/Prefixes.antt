-- Longest prefixes: how one is known to be the longest.
use Rattle.std.proofs.Common.{◌≡◌, ℕ, zero, suc, ◌+◌, ◌-◌, ◌<◌, ◌≤◌, Option, Some, None, List, [], ◌++◌, length, take, sym, ap, subst, ◌∙◌, arith, length-append}
use Rattle.std.specs.Option.{option_map}
use Rattle.std.proofs.Math.Seq.{take-append_seam, take-append-add}
use Rattle.chi_token.specs.Prefixes.{longest_prefix, or_shorter}

-- a prefix that has a meaning, where no longer one is looked at
pub longest_prefix-whole : {A : Type 0} (f : List ℕ → Option A) (t : A) (bytes : List ℕ) (n : ℕ) → f (take n bytes) ≡ Some t → longest_prefix f n bytes ≡ Some (t, n)
unfolding longest_prefix
longest_prefix-whole f t bytes zero is = ap (λ o. option_map (λ m. (m, 0)) o) is
longest_prefix-whole f t bytes (suc n) is = ap (λ o. or_shorter o (suc n) (longest_prefix f n bytes)) is

-- a prefix that has a meaning, where the j longer ones that are looked at have none
longest_prefix-above : {A : Type 0} (f : List ℕ → Option A) (t : A) (bytes : List ℕ) (n j k : ℕ) → k ≡ n + j → f (take n bytes) ≡ Some t → ((m : ℕ) → n < m → m ≤ k → f (take m bytes) ≡ None) → longest_prefix f k bytes ≡ Some (t, n)
unfolding longest_prefix
longest_prefix-above f t bytes n zero k e is longer =
    let same : n ≡ k = omega arith in
    subst (λ i. longest_prefix f i bytes ≡ Some (t, n)) same (longest_prefix-whole f t bytes n is)
longest_prefix-above f t bytes n (suc j) zero e is longer = absurd (omega arith)
longest_prefix-above f t bytes n (suc j) (suc k) e is longer =
    ap (λ o. or_shorter o (suc k) (longest_prefix f k bytes)) (longer (suc k) (omega arith) (omega arith))
    ∙ longest_prefix-above f t bytes n j k (omega arith) is (λ m low high. longer m low (omega arith))

-- the front is the longest prefix with a meaning, where with more of the back it has none
pub longest_prefix-at : {A : Type 0} (f : List ℕ → Option A) (t : A) (front back : List ℕ) → f front ≡ Some t → ((k : ℕ) → k < length back → f (front ++ take (suc k) back) ≡ None) → longest_prefix f (length (front ++ back)) (front ++ back) ≡ Some (t, length front)
longest_prefix-at f t front back is longer =
    let bytes = front ++ back in
    let whole = length-append front back in
    longest_prefix-above f t bytes (length front) (length back) (length bytes) whole
    (subst (λ xs. f xs ≡ Some t) (sym (take-append_seam front back)) is)
    (λ m low high.
    let k = m - length front - 1 in
    let split : m ≡ length front + suc k = omega arith in
    subst (λ i. f (take i bytes) ≡ None) (sym split)
    (subst (λ xs. f xs ≡ None) (sym (take-append-add front back (suc k))) (longer k (omega arith))))

-- no prefix has a meaning
pub longest_prefix-none : {A : Type 0} (f : List ℕ → Option A) (bytes : List ℕ) (k : ℕ) → f [] ≡ None → ((m : ℕ) → m < k → f (take (suc m) bytes) ≡ None) → longest_prefix f k bytes ≡ None
unfolding longest_prefix
longest_prefix-none f bytes zero empty never = ap (λ o. option_map (λ m. (m, 0)) o) empty
longest_prefix-none f bytes (suc k) empty never =
    ap (λ o. or_shorter o (suc k) (longest_prefix f k bytes)) (never k (omega arith))
    ∙ longest_prefix-none f bytes k empty (λ m low. never m (omega arith))
