-- The bytes that tokens are made of.
use Rattle.std.specs.Prelude.{ℕ, Bool, ◌==◌, ◌||◌, ◌&&◌, not, nat_le}
use Rattle.std.specs.Char.{is_ascii_digit, is_ascii_alphabetic}

-- bytes by their names
abbrev pub tab : ℕ
tab = 9

abbrev pub line_feed : ℕ
line_feed = 10

abbrev pub quote : ℕ
quote = 34

abbrev pub point : ℕ
point = 46

abbrev pub backslash : ℕ
backslash = 92

abbrev pub underscore : ℕ
underscore = 95

-- a digit, 0 to 9
abbrev pub is_digit : ℕ → Bool
is_digit c = is_ascii_digit c

-- a decimal point
abbrev pub is_point : ℕ → Bool
is_point c = c == point

-- a letter or an underscore
abbrev pub is_name_start : ℕ → Bool
is_name_start c = is_ascii_alphabetic c || c == underscore

-- a letter, a digit or an underscore
abbrev pub is_name_byte : ℕ → Bool
is_name_byte c = is_name_start c || is_digit c

-- a byte that stands for itself in a text: a tab, or a printable one that is no quote and no backslash
abbrev pub is_plain : ℕ → Bool
is_plain c = (c == tab || (nat_le 32 c && nat_le c 126)) && not (c == quote || c == backslash)
