-- The kinds of values that operations take.
use Rattle.std.specs.Prelude.{Bool, true, false}
use Rattle.chi_value.specs.declared.value.Value.{Value, Value-F, out-Value}

abbrev pub is_int : Value → Bool
is_int v = elim (out-Value v) [ Value-F.Int number ↦ true | _ ↦ false ]

abbrev pub is_list : Value → Bool
is_list v = elim (out-Value v) [ Value-F.ListOf items ↦ true | _ ↦ false ]

abbrev pub is_set : Value → Bool
is_set v = elim (out-Value v) [ Value-F.SetOf items ↦ true | _ ↦ false ]

abbrev pub is_dictionary : Value → Bool
is_dictionary v = elim (out-Value v) [ Value-F.DictOf items ↦ true | _ ↦ false ]

-- a list or a string
abbrev pub is_sequence : Value → Bool
is_sequence v = elim (out-Value v) [ Value-F.ListOf items ↦ true | Value-F.Text bytes ↦ true | _ ↦ false ]

-- a set or a dictionary
abbrev pub is_sorted : Value → Bool
is_sorted v = elim (out-Value v) [ Value-F.SetOf items ↦ true | Value-F.DictOf items ↦ true | _ ↦ false ]

-- a list, a set or a dictionary
abbrev pub is_container : Value → Bool
is_container v =
    elim (out-Value v) [ Value-F.ListOf items ↦ true | Value-F.SetOf items ↦ true | Value-F.DictOf items ↦ true | _ ↦ false ]
