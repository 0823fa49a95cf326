-- What is found at the front of a rest lies within it.
use Rattle.std.proofs.Common.{◌≡◌, ℕ, zero, suc, ◌+◌, ◌<◌, ◌≤◌, Bool, true, false, cond, ◌==◌, Option, Some, None, List, [], ◌∷◌, length, take, drop, refl, ap, subst, ◌∙◌, arith}
use Rattle.std.specs.Option.{option_map}
use Rattle.std.specs.List.{take_while}
use Rattle.std.proofs.lemmas.List.Folds.{length-prefix_len}
use Rattle.std.proofs.lemmas.List.Sums.{prefix_len-le-length}
use Rattle.chi_token.specs.declared.token.Token.{Token}
use Rattle.chi_token.specs.Characters.{quote, line_feed, backslash}
use Rattle.chi_token.specs.Prefixes.{longest_prefix, or_shorter, length_found}
use Rattle.chi_token.specs.Texts.{meaning}
use Rattle.chi_token.specs.Tokens.{token_spelled_by}
use Rattle.chi_lex.specs.declared.piece.Stop.{Stop}
use Rattle.chi_lex.specs.declared.piece.Stop.TheVariants.{Byte, Open, Escape}
use Rattle.chi_lex.specs.Stops.{text_stop, stop_of}
use Rattle.chi_lex.specs.Faults.{characters_length}
use Rattle.chi_lex.specs.Gaps.{gap_of, is_blank, goes_on, hash}

-- the prefix that is found is at most as long as was looked
pub longest_prefix-within : {A : Type 0} (f : List ℕ → Option A) (k : ℕ) (bytes : List ℕ) → length_found (longest_prefix f k bytes) ≤ k
unfolding longest_prefix
longest_prefix-within {A} f zero bytes = by (f [])
  where
    by : (o : Option A) → length_found (option_map {U = A × ℕ} (λ m. (m, 0)) o) ≤ zero
    by None = omega arith
    by (Some m) = omega arith
longest_prefix-within {A} f (suc k) bytes = by (f (take (suc k) bytes)) (longest_prefix-within f k bytes)
  where
    by : (o : Option A) → length_found (longest_prefix f k bytes) ≤ k → length_found (or_shorter o (suc k) (longest_prefix f k bytes)) ≤ suc k
    by None h = omega arith
    by (Some m) h = omega arith

-- and it has the meaning that is found
pub longest_prefix-means : {A : Type 0} (f : List ℕ → Option A) (k : ℕ) (bytes : List ℕ) (t : A) (n : ℕ) → longest_prefix f k bytes ≡ Some (t, n) → f (take n bytes) ≡ Some t
unfolding longest_prefix
longest_prefix-means {A} f zero bytes t n found = by (f []) refl found
  where
    by : (o : Option A) → f [] ≡ o → option_map {U = A × ℕ} (λ m. (m, 0)) o ≡ Some (t, n) → f (take n bytes) ≡ Some t
    by None is h = cc
    by (Some m) is h =
        let pair : ◌≡◌ {A = A × ℕ} (m, 0) (t, n) = cc in
        let same : m ≡ t = ap (λ x. x.0) pair in
        let none : 0 ≡ n = ap (λ x. x.1) pair in
        subst (λ i. f (take i bytes) ≡ Some t) none (is ∙ ap (λ x. Some x) same)
longest_prefix-means {A} f (suc k) bytes t n found = by (f (take (suc k) bytes)) refl (λ h. longest_prefix-means f k bytes t n h) found
  where
    by : (o : Option A) → f (take (suc k) bytes) ≡ o → (longest_prefix f k bytes ≡ Some (t, n) → f (take n bytes) ≡ Some t) → or_shorter o (suc k) (longest_prefix f k bytes) ≡ Some (t, n) → f (take n bytes) ≡ Some t
    by None is shorter h = shorter h
    by (Some m) is shorter h =
        let pair : ◌≡◌ {A = A × ℕ} (m, suc k) (t, n) = cc in
        let same : m ≡ t = ap (λ x. x.0) pair in
        let whole : suc k ≡ n = ap (λ x. x.1) pair in
        subst (λ i. f (take i bytes) ≡ Some t) whole (is ∙ ap (λ x. Some x) same)

-- a size that lies within a rest, and is no 0
pub record IsSizeIn (rest : List ℕ) (size : ℕ) : Type 0 where
  pub some : 0 < size
  pub within : size ≤ length rest

pub token-size : (rest : List ℕ) (t : Token) (n : ℕ) → longest_prefix token_spelled_by (length rest) rest ≡ Some (t, n) → IsSizeIn rest n
unfolding token_spelled_by
token-size rest t n found =
    record {
      some = positive n (longest_prefix-means token_spelled_by (length rest) rest t n found);
      within = omega (arith, ap (λ o. length_found o) found, longest_prefix-within token_spelled_by (length rest) rest);
    }
  where
    positive : (n : ℕ) → token_spelled_by (take n rest) ≡ Some t → 0 < n
    positive zero h = cc
    positive (suc n) h = omega arith

pub gap-size : (rest : List ℕ) (n : ℕ) → gap_of rest ≡ Some n → IsSizeIn rest n
gap-size [] n gap = cc
gap-size (c ∷ cs) n gap = by (is_blank c) (c == hash) gap
  where
    some : (size : ℕ) → 0 < size → size ≤ suc (length cs) → Some size ≡ Some n → IsSizeIn (c ∷ cs) n
    some size low high is = let same : size ≡ n = cc in record { some = omega arith; within = omega arith }

    by : (b h : Bool) → cond b (Some 1) (cond h (Some (1 + length (take_while goes_on cs))) None) ≡ Some n → IsSizeIn (c ∷ cs) n
    by true h is = some 1 (omega arith) (omega arith) is
    by false true is =
        some (1 + length (take_while goes_on cs)) (omega arith)
        (omega (arith, length-prefix_len goes_on cs, prefix_len-le-length goes_on cs)) is
    by false false is = cc

-- a stop lies within the bytes
abbrev pub IsStopIn : ℕ → Stop → Type 0
IsStopIn n (Byte passed) = passed ≤ n
IsStopIn n Open = Unit {0}
IsStopIn n (Escape passed) = passed ≤ n

text_stop-within : (n passed : ℕ) (bytes : List ℕ) → passed ≤ n → IsStopIn n (text_stop passed bytes)
text_stop-within n passed [] low = tt
text_stop-within n passed (c ∷ cs) low = by (c == line_feed) (c == backslash)
  where
    by : (b h : Bool) → IsStopIn n (cond b Open (cond h (Escape passed) (Byte passed)))
    by true h = tt
    by false true = low
    by false false = low

pub stop_of-within : (rest : List ℕ) → IsStopIn (length rest) (stop_of rest)
unfolding stop_of
stop_of-within [] = omega arith
stop_of-within (c ∷ cs) = by (c == quote)
  where
    by : (b : Bool) → IsStopIn (length (c ∷ cs)) (cond b (text_stop (1 + characters_length cs) (drop (characters_length cs) cs)) (Byte 0))
    by true =
        text_stop-within (length (c ∷ cs)) (1 + characters_length cs) (drop (characters_length cs) cs)
        (omega (arith, longest_prefix-within meaning (length cs) cs))
    by false = omega arith
