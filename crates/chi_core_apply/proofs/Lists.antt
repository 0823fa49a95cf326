-- Lists of operands.
use Rattle.std.proofs.Common.{◌≡◌, ◌≤◌, List, [], ◌∷◌, length, drop, refl, ap, arith}
use Rattle.chi_value.specs.declared.value.Value.{Value}

pub no_value : (xs : List Value) → length xs ≡ 0 → xs ≡ []
no_value [] e = refl
no_value (x ∷ xs) e = absurd (omega arith)

pub ruleset lists = (no_value)

-- three or more
module _ (all others : List Value) (a b c : Value) (are : all ≡ a ∷ b ∷ c ∷ others) where
  pub three_or_more : 3 ≤ length all
  three_or_more = let n : length all ≡ length (a ∷ b ∷ c ∷ others) = ap length are in omega (arith, n)

  pub past_first : drop 1 all ≡ b ∷ c ∷ others
  past_first = ap (drop 1) are

  pub past_second : drop 2 all ≡ c ∷ others
  past_second = ap (drop 2) are

pub ruleset more = (three_or_more, past_first, past_second)
