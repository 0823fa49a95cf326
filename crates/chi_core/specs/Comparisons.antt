-- Truth values, and comparisons of plain values by their order.
use Rattle.std.specs.Prelude.{Bool, not, ◌&&◌, Option, Some, None, option_map, if◌then◌else◌}
use Rattle.std.specs.declared.cmp.Ordering.{Ordering}
use Rattle.std.specs.Ordering.{is_lt, is_eq, is_gt}
use Rattle.chi_value.specs.declared.value.Value.{Value}
use Rattle.chi_value.specs.declared.value.Value.TheVariants as value
use Rattle.chi_value.specs.Order.{order}
use Rattle.chi_value.specs.Plain.{is_plain}
use Rattle.chi_value.specs.Alike.{alike, uniform}
use Rattle.chi_core.specs.Answer.{Does, gives, wanted}
use Rattle.chi_core.specs.Reading.{truth_of}

abbrev pub truth : Bool → Does Value
truth x = gives (value.Bool x)

-- a truth value that there is
abbrev pub tells : Option Bool → Does Value
tells found = wanted (option_map value.Bool found)

abbrev pub opposite : Value → Does Value
opposite a = tells (option_map not (truth_of a))

-- Both are plain, and they are alike, as are all elements of each container in them.
abbrev pub are_comparable : Value → Value → Bool
are_comparable a b = is_plain a && is_plain b && uniform a && uniform b && alike a b

-- how two values stand to each other
abbrev pub compared : Value → Value → Option Ordering
compared a b = if are_comparable a b then Some (order a b) else None

abbrev pub compares : (Ordering → Bool) → Value → Value → Does Value
compares holds a b = tells (option_map holds (compared a b))

abbrev pub equal : Value → Value → Does Value
equal = compares is_eq

abbrev pub different : Value → Value → Does Value
different = compares (λ o. not (is_eq o))

abbrev pub below : Value → Value → Does Value
below = compares is_lt

abbrev pub at_most : Value → Value → Does Value
at_most = compares (λ o. not (is_gt o))

abbrev pub above : Value → Value → Does Value
above = compares is_gt

abbrev pub at_least : Value → Value → Does Value
at_least = compares (λ o. not (is_lt o))
