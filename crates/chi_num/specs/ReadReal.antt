-- What a text means as a real: an optional minus, one or more digits, and maybe a point and one or more digits.
use Rattle.std.specs.Prelude.{◌≡◌, ℕ, ◌*◌, ◌^◌, ◌<◌, Bool, List, ◌++◌, length, ℤ}
use Rattle.chi_num.specs.Decimal.{AreDigits, number_of, spelling, signed}
use Rattle.chi_num.specs.Nearest.{IsNearest}

-- the text is this sign, these digits before the point, and these after it; where there are none, it has no point
pub record IsDecimal (text : List ℕ) (minus : Bool) (whole fraction : List ℕ) : Type 0 where
  pub spelled : text ≡ spelling minus whole fraction
  pub some : 0 < length whole
  pub digits : AreDigits whole
  pub decimals : AreDigits fraction

-- the text has the form of a real
abbrev pub HasRealForm : List ℕ → Type 0
HasRealForm text = (minus : Bool) × ((whole : List ℕ) × ((fraction : List ℕ) × IsDecimal text minus whole fraction))

-- so many units are the number that these parts mean: all digits as one number, over 10 for each decimal, rounded
abbrev pub IsValue : Bool → List ℕ → List ℕ → ℤ → Type 0
IsValue minus whole fraction units =
    IsNearest (signed minus (number_of (whole ++ fraction) * 1_000_000_000)) (10 ^ length fraction) units

-- the text means so many units of a billionth
abbrev pub MeansReal : List ℕ → ℤ → Type 0
MeansReal text units =
    (minus : Bool) × ((whole : List ℕ) × ((fraction : List ℕ)
    × (IsDecimal text minus whole fraction × IsValue minus whole fraction units)))
