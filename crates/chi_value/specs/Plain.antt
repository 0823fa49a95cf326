-- Plain values, and the enumeration values in them that have a name.
use Rattle.std.specs.Prelude.{ℕ, Bool, true, false, List, is_some}
use Rattle.std.specs.List.{list_all}
use Rattle.chi_value.specs.declared.value.Value.{Value, Value-F, fold-Value}
use Rattle.chi_value.specs.Names.{name_at}

abbrev pub itself : Bool → Bool
itself holds = holds

abbrev pub plain_step : Value-F Bool → Bool
plain_step (Value-F.TupleOf parts) = list_all itself parts
plain_step (Value-F.ListOf items) = list_all itself items
plain_step (Value-F.SetOf items) = list_all itself items
plain_step (Value-F.DictOf items) = list_all itself items
plain_step (Value-F.Chan number) = false
plain_step (Value-F.Dist dist) = false
plain_step (Value-F.Timer due) = false
plain_step (Value-F.Inst instance) = false
plain_step _ = true

-- no channel, distribution, timer or instance is in it
abbrev pub is_plain : Value → Bool
is_plain = fold-Value Bool plain_step

abbrev pub within_step : List (List (List ℕ)) → Value-F Bool → Bool
within_step names (Value-F.Choice kind position) = is_some (name_at names kind position)
within_step names (Value-F.TupleOf parts) = list_all itself parts
within_step names (Value-F.ListOf items) = list_all itself items
within_step names (Value-F.SetOf items) = list_all itself items
within_step names (Value-F.DictOf items) = list_all itself items
within_step names _ = true

-- each enumeration value in it has an enumeration and a position among the names
abbrev pub within : List (List (List ℕ)) → Value → Bool
within names = fold-Value Bool (within_step names)
