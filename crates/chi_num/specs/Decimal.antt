-- Decimal numerals: digits, the number that they mean, and how a number is spelled with them.
use Rattle.std.specs.Prelude.{◌≡◌, false, ℕ, ◌+◌, ◌-◌, ◌*◌, ◌/◌, ◌%◌, ◌^◌, Bool, IsTrue, List, [], ◌∷◌, ◌++◌, length, zero, suc, ℤ, pos, neg_ℤ, if◌then◌else◌}
use Rattle.std.specs.Char.{is_ascii_digit}
use Rattle.std.specs.List.{list_all}

-- nothing but digits
abbrev pub AreDigits : List ℕ → Type 0
AreDigits text = IsTrue (list_all is_ascii_digit text)

-- the number that digits mean: each has the weight of its place
unfoldable pub number_of : List ℕ → ℕ
number_of [] = 0
number_of (c ∷ cs) = (c - 48) * 10 ^ length cs + number_of cs

-- the digits of the last `count` places of a number
unfoldable pub last_digits : ℕ → ℕ → List ℕ
last_digits zero number = []
last_digits (suc count) number = (48 + number / 10 ^ count % 10) ∷ last_digits count number

-- a minus, or nothing
abbrev pub sign_text : Bool → List ℕ
sign_text minus = if minus then 45 ∷ [] else []

-- a point and the digits after it, or nothing where there are none
abbrev pub point_and : List ℕ → List ℕ
point_and [] = []
point_and (c ∷ cs) = 46 ∷ c ∷ cs

-- a sign, the digits before the point, and those after it
abbrev pub spelling : Bool → List ℕ → List ℕ → List ℕ
spelling minus whole fraction = sign_text minus ++ whole ++ point_and fraction

-- a size with a sign
abbrev pub signed : Bool → ℕ → ℤ
signed minus size = if minus then neg_ℤ (pos size) else pos size

-- a number with more digits after it
unfoldable pub followed_by : ℕ → List ℕ → ℕ
followed_by number digits = number * 10 ^ length digits + number_of digits

-- digits end there: nothing is left, or another byte than a digit comes first
abbrev pub IsAfterDigits : List ℕ → Type 0
IsAfterDigits [] = Unit {0}
IsAfterDigits (c ∷ cs) = is_ascii_digit c ≡ false
