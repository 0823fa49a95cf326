-- The text of a real with a fixed number of decimals.
use Rattle.std.specs.Prelude.{ℕ, ◌/◌, ◌^◌, List, ℤ, pos, nat_abs, int_lt}
use Rattle.std.specs.Fmt.{decimal}
use Rattle.chi_num.specs.Decimal.{spelling, last_digits}

-- the text, with `places` decimals, of so many steps of the last of them
abbrev pub fixed_text_of : ℕ → ℤ → List ℕ
fixed_text_of places steps =
    spelling (int_lt steps (pos 0)) (decimal (nat_abs steps / 10 ^ places)) (last_digits places (nat_abs steps))
