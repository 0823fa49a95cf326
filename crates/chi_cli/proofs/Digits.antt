-- The number that digits mean.
use Rattle.std.proofs.Common.{◌≡◌, ℕ, ◌+◌, ◌-◌, ◌*◌, ◌≤◌, true, List, [], ◌∷◌, arith}
use Rattle.std.proofs.lemmas.Bool.Decides.{nat_tests}
use Rattle.std.specs.Char.{digit_value, is_ascii_digit}
use Rattle.std.specs.Str.Parse.{digits_value_after}

-- more digits make no number less
pub value_grows : (number : ℕ) (digits : List ℕ) → number ≤ digits_value_after 10 number digits
value_grows number [] = omega arith
value_grows number (c ∷ cs) =
    let more : number * 10 + digit_value c ≤ digits_value_after 10 (number * 10 + digit_value c) cs = value_grows (number * 10 + digit_value c) cs in
    omega arith

-- a digit's value is its distance from `0`
pub digit_counts : (c : ℕ) → is_ascii_digit c ≡ true → digit_value c ≡ c - 48
digit_counts c digit = grind (arith, nat_tests)
