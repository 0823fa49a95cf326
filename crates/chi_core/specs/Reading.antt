-- What a value is by its kind; nothing where it is of another kind.
use Rattle.std.specs.Prelude.{ℕ, ℤ, Bool, ◌&&◌, Option, Some, None, List, slice_get, if◌then◌else◌}
use Rattle.std.specs.Option.{option_and_then}
use Rattle.chi_value.specs.declared.value.Value.{Value, Value-F, out-Value}
use Rattle.chi_value.specs.Plain.{is_plain, within}
use Rattle.chi_value.specs.Text.{quoted_text}

abbrev pub truth_in : Value-F Value → Option Bool
truth_in (Value-F.Bool x) = Some x
truth_in _ = None

abbrev pub truth_of : Value → Option Bool
truth_of v = truth_in (out-Value v)

abbrev pub int_in : Value-F Value → Option ℤ
int_in (Value-F.Int x) = Some x
int_in _ = None

abbrev pub int_of : Value → Option ℤ
int_of v = int_in (out-Value v)

abbrev pub real_in : Value-F Value → Option ℤ
real_in (Value-F.Real units) = Some units
real_in _ = None

-- the units of a real
abbrev pub real_of : Value → Option ℤ
real_of v = real_in (out-Value v)

abbrev pub due_in : Value-F Value → Option ℤ
due_in (Value-F.Timer due) = Some due
due_in _ = None

-- when a timer is due
abbrev pub due_of : Value → Option ℤ
due_of v = due_in (out-Value v)

abbrev pub channel_in : Value-F Value → Option ℕ
channel_in (Value-F.Chan number) = Some number
channel_in _ = None

-- the number of a channel
abbrev pub channel_of : Value → Option ℕ
channel_of v = channel_in (out-Value v)

abbrev pub instance_in : Value-F Value → Option (Option ℕ)
instance_in (Value-F.Inst number) = Some number
instance_in _ = None

-- the number of an instance, if the value names one
abbrev pub instance_of : Value → Option (Option ℕ)
instance_of v = instance_in (out-Value v)

abbrev pub elements_in : Value-F Value → Option (List Value)
elements_in (Value-F.ListOf items) = Some items
elements_in (Value-F.SetOf items) = Some items
elements_in (Value-F.DictOf items) = Some items
elements_in _ = None

-- the elements of a container in order; those of a dictionary are pairs of a key and what it has
abbrev pub elements_of : Value → Option (List Value)
elements_of v = elements_in (out-Value v)

abbrev pub parts_in : Value-F Value → Option (List Value)
parts_in (Value-F.TupleOf parts) = Some parts
parts_in _ = None

-- the parts of a tuple
abbrev pub parts_of : Value → Option (List Value)
parts_of v = parts_in (out-Value v)

-- the part of a tuple at a place
abbrev pub part_of : Value → ℕ → Option Value
part_of v number = option_and_then (λ parts. slice_get parts number) (parts_of v)

-- the quoted text of a plain value whose enumeration values have names
abbrev pub quoted_in : List (List (List ℕ)) → Value → Option (List ℕ)
quoted_in names v = if is_plain v && within names v then Some (quoted_text names v) else None
