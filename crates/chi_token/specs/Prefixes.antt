-- Longest prefixes.
use Rattle.std.specs.Prelude.{ℕ, zero, suc, Option, Some, None, List, [], take, option_map}

-- the meaning of a prefix with its length, or else what a shorter prefix gives
abbrev pub or_shorter : {A : Type 0} → Option A → ℕ → Option (A × ℕ) → Option (A × ℕ)
or_shorter (Some meaning) n shorter = Some (meaning, n)
or_shorter None n shorter = shorter

-- the longest prefix, of at most n bytes, that has a meaning: the meaning and the prefix's length
unfoldable pub longest_prefix : {A : Type 0} → (List ℕ → Option A) → ℕ → List ℕ → Option (A × ℕ)
longest_prefix meaning_of zero bytes = option_map (λ meaning. (meaning, 0)) (meaning_of [])
longest_prefix meaning_of (suc n) bytes = or_shorter (meaning_of (take (suc n) bytes)) (suc n) (longest_prefix meaning_of n bytes)

-- the length of a prefix that was found, or 0
abbrev pub length_found : {A : Type 0} → Option (A × ℕ) → ℕ
length_found (Some found) = found.1
length_found None = 0
