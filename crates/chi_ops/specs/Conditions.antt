-- When an operation may be used: the kinds of its operands to the whole depth. `range` takes any ints.
use Rattle.std.specs.Prelude.{ℕ, ◌^◌, Bool, false, nat_le, nat_lt, ℤ, Option, None, Some, List, length, ◌&&◌}
use Rattle.std.specs.List.{list_all}
use Rattle.chi_value.specs.declared.format.Kind.{Kind}
use Rattle.chi_value.specs.declared.format.Kind.TheVariants as kind
use Rattle.chi_value.specs.declared.value.Value.{Value, Value-F, out-Value}
use Rattle.chi_value.specs.Alike.{alike, all_alike}
use Rattle.chi_value.specs.Plain.{is_plain}
use Rattle.chi_sets.specs.Dictionaries.{keys, entries_of}
use Rattle.chi_ops.specs.Kinds.{is_list, is_set, is_dictionary, is_sequence, is_sorted, is_container}
use Rattle.chi_ops.specs.Tidy.{tidy, all_tidy}

-- plain and tidy, as the elements of sets and the keys of dictionaries are
abbrev pub is_key : Value → Bool
is_key x = is_plain x && tidy x

-- both are tidy, and of one kind
abbrev pub are_peers : Value → Value → Bool
are_peers a b = tidy a && tidy b && alike a b

-- a container or string, whose size 32 bits hold
abbrev pub has_size : Value → Bool
has_size v = elim (out-Value v) [
  | Value-F.Text bytes ↦ nat_lt (length bytes) (2 ^ 32)
  | Value-F.ListOf items ↦ nat_lt (length items) (2 ^ 32)
  | Value-F.SetOf items ↦ nat_lt (length items) (2 ^ 32)
  | Value-F.DictOf items ↦ nat_lt (length items) (2 ^ 32)
  | _ ↦ false
]

abbrev pub may_size : Value → Bool
may_size v = tidy v && has_size v

abbrev pub may_index : Value → ℤ → Bool
may_index v i = tidy v && is_sequence v

-- a dictionary to whose keys another is alike
abbrev pub takes_key : Value → Value → Bool
takes_key d key = elim (out-Value d) [ Value-F.DictOf items ↦ list_all (alike key) (keys items) | _ ↦ false ]

abbrev pub may_lookup : Value → Value → Bool
may_lookup d key = tidy d && is_key key && takes_key d key

-- a list of plain elements, a set or a dictionary, to whose elements or keys a value is alike
abbrev pub may_hold : Value → Value → Bool
may_hold v x = elim (out-Value v) [
  | Value-F.ListOf items ↦ list_all is_plain items && list_all (alike x) items
  | Value-F.SetOf items ↦ list_all (alike x) items
  | Value-F.DictOf items ↦ list_all (alike x) (keys items)
  | _ ↦ false
]

abbrev pub may_has : Value → Value → Bool
may_has v x = tidy v && is_key x && may_hold v x

abbrev pub may_sub : Value → Value → Bool
may_sub a b = are_peers a b && is_set a

abbrev pub may_slice : Value → Option ℤ → Option ℤ → Option ℤ → Bool
may_slice v first last by = tidy v && is_sequence v

abbrev pub may_join : Value → Value → Bool
may_join a b = are_peers a b && is_sequence a

abbrev pub may_pop : Value → Bool
may_pop v = tidy v && is_container v

-- a list to whose elements a value is alike, and a place that is at most its size
abbrev pub takes_at : Value → ℕ → Value → Bool
takes_at v i x = elim (out-Value v) [ Value-F.ListOf items ↦ list_all (alike x) items && nat_le i (length items) | _ ↦ false ]

abbrev pub may_insert_at : Value → ℕ → Value → Bool
may_insert_at v i x = tidy v && tidy x && takes_at v i x

abbrev pub may_del : Value → ℤ → Bool
may_del v i = tidy v && is_list v

abbrev pub may_enumerate : Value → Bool
may_enumerate v = tidy v && is_list v

abbrev pub may_union : Value → Value → Bool
may_union a b = are_peers a b && is_sorted a

abbrev pub may_meet : Value → Value → Bool
may_meet a b = are_peers a b && is_set a

abbrev pub may_minus : Value → Value → Bool
may_minus a b = are_peers a b && is_set a

-- a dictionary, and a set to whose elements its keys are alike
abbrev pub are_keys_alike : Value → Value → Bool
are_keys_alike d removed = elim (out-Value d) [
  | Value-F.DictOf items ↦ elim (out-Value removed) [
    | Value-F.SetOf others ↦ list_all (λ key. list_all (alike key) others) (keys items)
    | _ ↦ false
  ]
  | _ ↦ false
]

abbrev pub may_minus_keys : Value → Value → Bool
may_minus_keys d removed = tidy d && tidy removed && are_keys_alike d removed

abbrev pub may_keys : Value → Bool
may_keys d = tidy d && is_dictionary d

abbrev pub may_values : Value → Bool
may_values d = tidy d && is_dictionary d

-- what a container is built of: tidy values that are alike
abbrev pub may_contain : List Value → Bool
may_contain items = all_tidy items && all_alike items

-- of a dictionary the parts are a key, what it has, the next key and so on
abbrev pub may_build : Kind → List Value → Bool
may_build kind.TupleOf parts = all_tidy parts
may_build kind.ListOf parts = may_contain parts
may_build kind.SetOf parts = may_contain parts && list_all is_plain parts
may_build kind.DictOf parts = elim (entries_of parts) [
  | None ↦ false
  | Some entries ↦ may_contain entries && list_all is_plain (keys entries)
]
