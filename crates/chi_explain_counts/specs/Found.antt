-- What is counted at a place: first where it is sought.
use Rattle.std.specs.Prelude.{List, [], ◌∷◌, Option, Some, None, if◌then◌else◌}
use Rattle.std.specs.Option.{option_or}
use Rattle.chi_token.specs.declared.place.Place.{Place}
use Rattle.chi_check_types.specs.Faults.{is_same_place}
use Rattle.chi_explain_counts.specs.declared.counted.Counted.{Counted}

abbrev pub Found : Type 0
Found = Option Counted

-- what is counted where it stands, if that is the place
abbrev pub here : Place → Place → Counted → Found
here place at counted = if is_same_place at place then Some counted else None

-- the first that is found in parts that stand beside each other
abbrev pub first_found : List Found → Found
first_found [] = None
first_found (found ∷ more) = option_or found (first_found more)

-- what is found in a part that may be left out
abbrev pub where_some : Option Found → Found
where_some None = None
where_some (Some found) = found
