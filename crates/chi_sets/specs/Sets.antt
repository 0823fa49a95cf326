-- Sets as ascending lists.
use Rattle.std.specs.Prelude.{Bool, List, ◌++◌, filter, not}
use Rattle.std.specs.List.{list_any, list_all}
use Rattle.chi_value.specs.declared.value.Value.{Value}
use Rattle.chi_value.specs.Order.{order}
use Rattle.chi_sets.specs.Ascending.{below_by, ties_by, ascends, placed, in_order}

abbrev pub below : Value → Value → Bool
below = below_by order

abbrev pub ties : Value → Value → Bool
ties = ties_by order

-- each element is below the next, as the elements of a set are
abbrev pub is_ascending : List Value → Bool
is_ascending = ascends order

-- an element is among others
abbrev pub among : List Value → Value → Bool
among xs x = list_any (ties x) xs

-- an ascending list with an element in its place
abbrev pub with_element : List Value → Value → List Value
with_element = placed order

-- the ascending list of elements, without repeats
abbrev pub set_of : List Value → List Value
set_of = in_order order

-- what is in either set
abbrev pub union : List Value → List Value → List Value
union xs ys = set_of (xs ++ ys)

-- what is in both
abbrev pub meet : List Value → List Value → List Value
meet xs ys = filter (among ys) xs

-- what is in the first and not in the second
abbrev pub minus : List Value → List Value → List Value
minus xs ys = filter (λ x. not (among ys x)) xs

-- each element of the first is in the second
abbrev pub is_subset : List Value → List Value → Bool
is_subset xs ys = list_all (among ys) xs
