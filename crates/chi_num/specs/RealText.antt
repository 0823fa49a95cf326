-- The text of a real: a sign, the whole part, and its decimals as far as they go, but at least one.
use Rattle.std.specs.Prelude.{ℕ, ◌/◌, ◌==◌, List, [], ◌∷◌, ℤ, pos, nat_abs, if◌then◌else◌, int_lt}
use Rattle.std.specs.Fmt.{decimal}
use Rattle.std.specs.List.{list_all}
use Rattle.chi_num.specs.Decimal.{spelling, last_digits}

-- digits without the zeros that end them
abbrev pub without_last_zeros : List ℕ → List ℕ
without_last_zeros [] = []
without_last_zeros (c ∷ cs) = if list_all (λ b. b == 48) (c ∷ cs) then [] else c ∷ without_last_zeros cs

-- the same, but the first digit stays
unfoldable pub trimmed : List ℕ → List ℕ
trimmed [] = []
trimmed (c ∷ cs) = c ∷ without_last_zeros cs

-- the text of so many units of a billionth
abbrev pub real_text_of : ℤ → List ℕ
real_text_of units =
    spelling (int_lt units (pos 0)) (decimal (nat_abs units / 1_000_000_000)) (trimmed (last_digits 9 (nat_abs units)))
