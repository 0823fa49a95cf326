-- Places in a list, counted from its start, or below 0 from its end.
use Rattle.std.specs.Prelude.{ℕ, suc, ◌-◌, nat_lt, ℤ, pos, negsuc, Option, None, Some, List, length, slice_get, option_and_then, if◌then◌else◌}

-- the place that an index names in a list of this size, if there is one
abbrev pub place_of : ℕ → ℤ → Option ℕ
place_of size (pos n) = if nat_lt n size then Some n else None
place_of size (negsuc n) = if nat_lt n size then Some (size - suc n) else None

-- the element that an index names, if there is one
abbrev pub at_place : {A : Type 0} → List A → ℤ → Option A
at_place items i = option_and_then (slice_get items) (place_of (length items) i)
