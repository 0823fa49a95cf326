-- What a text means as an int: an optional minus, and one or more digits.
use Rattle.std.specs.Prelude.{◌≡◌, ℕ, ◌<◌, Bool, List, [], length, ℤ}
use Rattle.chi_num.specs.Decimal.{AreDigits, number_of, spelling, signed}

-- the text is this sign and these digits
pub record IsInt (text : List ℕ) (minus : Bool) (whole : List ℕ) : Type 0 where
  pub spelled : text ≡ spelling minus whole []
  pub some : 0 < length whole
  pub digits : AreDigits whole

-- the text has the form of an int
abbrev pub HasIntForm : List ℕ → Type 0
HasIntForm text = (minus : Bool) × ((whole : List ℕ) × IsInt text minus whole)

-- the text means this whole number
abbrev pub MeansInt : List ℕ → ℤ → Type 0
MeansInt text value =
    (minus : Bool) × ((whole : List ℕ) × (IsInt text minus whole × (value ≡ signed minus (number_of whole))))
