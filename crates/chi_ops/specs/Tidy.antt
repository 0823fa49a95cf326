-- Tidy values: what every value of a type is, to the whole depth.
use Rattle.std.specs.Prelude.{Bool, true, List, map, ◌&&◌}
use Rattle.std.specs.List.{list_all}
use Rattle.chi_value.specs.declared.value.Value.{Value, Value-F, para-Value}
use Rattle.chi_value.specs.Alike.{uniform, part_itself, part_holds}
use Rattle.chi_value.specs.Plain.{is_plain}
use Rattle.chi_sets.specs.Sets.{is_ascending}
use Rattle.chi_sets.specs.Dictionaries.{are_entries, ascending_by_key, keys}

-- plain elements, ascending
abbrev pub is_set_list : List Value → Bool
is_set_list items = list_all is_plain items && is_ascending items

-- entries, ascending by plain keys
abbrev pub is_dictionary_list : List Value → Bool
is_dictionary_list items = are_entries items && list_all is_plain (keys items) && ascending_by_key items

abbrev pub sorted_step : Value-F (Value × Bool) → Bool
sorted_step (Value-F.TupleOf parts) = list_all part_holds parts
sorted_step (Value-F.ListOf items) = list_all part_holds items
sorted_step (Value-F.SetOf items) = list_all part_holds items && is_set_list (map part_itself items)
sorted_step (Value-F.DictOf items) = list_all part_holds items && is_dictionary_list (map part_itself items)
sorted_step _ = true

-- each set in it is ascending with plain elements, and each dictionary a list of entries ascending by plain keys
abbrev pub sorted : Value → Bool
sorted = para-Value Bool sorted_step

-- every two elements of each container in it are alike, and its sets and dictionaries are sorted
abbrev pub tidy : Value → Bool
tidy v = uniform v && sorted v

abbrev pub all_tidy : List Value → Bool
all_tidy values = list_all tidy values
