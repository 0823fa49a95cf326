-- Powers of whole numbers.
use Rattle.std.specs.Prelude.{ℕ, zero, suc, ℤ, pos, ◌*ℤ◌}

-- the product of so many factors, each the base; of none it is 1
unfoldable pub power : ℤ → ℕ → ℤ
power base zero = pos 1
power base (suc count) = base *ℤ power base count
