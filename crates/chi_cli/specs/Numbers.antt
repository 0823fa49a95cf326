-- The numbers that options and plain words may be.
use Rattle.std.specs.Prelude.{ℕ, ◌&&◌, Bool, nat_lt, nat_le, length, ℤ, Option, Some, None, option_map, if◌then◌else◌}
use Rattle.std.specs.Char.{is_ascii_digit}
use Rattle.std.specs.List.{list_all}
use Rattle.std.specs.Result.{result_ok}
use Rattle.std.specs.Str.Parse.{digits_value}
use Rattle.chi_num.specs.TextNumbers.{answer_of, has_minus, real_meant}
use Rattle.chi_cli.specs.Commands.{Text}

-- 1 to 20 decimal digits
abbrev pub is_numeral : Text → Bool
is_numeral text = nat_lt 0 (length text) && (nat_le (length text) 20 && list_all is_ascii_digit text)

abbrev pub within : ℕ → ℕ → ℕ → Option ℕ
within least most number = if nat_le least number && nat_le number most then Some number else None

-- the number that a text is, where it is a numeral and from the least to the most
abbrev pub number_in : ℕ → ℕ → Text → Option ℕ
number_in least most text = if is_numeral text then within least most (digits_value 10 text) else None

-- of an option's value, or what stands for it where the option isn't given
abbrev pub number_or : ℕ → ℕ → ℕ → Option Text → Option ℕ
number_or default least most None = Some default
number_or default least most (Some text) = number_in least most text

-- of an instance or a channel: 1 to 10 digits of a number below 2^32
abbrev pub number_sought : Text → Option ℕ
number_sought text = if nat_le (length text) 10 then number_in 0 4_294_967_295 text else None

-- a time in units of a billionth: a real without a minus
abbrev pub time_in : Text → Option ℤ
time_in text = if has_minus text then None else result_ok (answer_of (real_meant text))

-- the stopping time, or none where the option isn't given
abbrev pub time_or_none : Option Text → Option (Option ℤ)
time_or_none None = Some None
time_or_none (Some text) = option_map (λ time. Some time) (time_in text)
