-- What each part of a tree comes to.
use Rattle.std.specs.Prelude.{ℕ, Bool, List, [], ◌∷◌, ◌++◌, map, Option, None, Some, option_map}
use Rattle.chi_token.specs.declared.place.Place.{Place}
use Rattle.chi_tree.specs.declared.operator.Operator.{Operator}
use Rattle.chi_tree.specs.declared.type_tree.Name.{Name}
use Rattle.chi_check_types.specs.declared.fault.Fault.{Fault}
use Rattle.chi_check_types.specs.declared.meant.Made.{Made}
use Rattle.chi_check_types.specs.declared.meant.Meant.{Meant}
use Rattle.chi_check_types.specs.Typed.{Typed}
use Rattle.chi_check_expr_rules.specs.Parts.{Bounds, if_given, given}

-- an expression, and the name where it is a name alone
pub record Read : Type 0 where
  pub typed : Typed Made
  pub name : Option Name

-- a further operand of a chain
pub record Linked : Type 0 where
  pub operator : Operator
  pub place : Place
  pub operand : Typed Made

-- what takes a part of a whole
pub data Taken : Type 0 where
  index : Place → Typed Made → Taken
  slice : Place → Bounds (Typed Made) → Taken
  field : Name → Taken

-- an entry of a dictionary
pub record Paired : Type 0 where
  pub key : Typed Made
  pub value : Typed Made

-- a type, with whether it may have a size: the type of a local variable may, and so may the elements of a list that has one
abbrev pub Reading : Type 0
Reading = Bool → Typed Meant

-- a formal or a field: what the type before it means, where one stands there, and its name
pub record Field : Type 0 where
  pub ty : Option (Typed Meant)
  pub name : Name

-- ---- several parts

abbrev pub typed_of : Read → Typed Made
typed_of r = r.typed

abbrev pub made_of : {A : Type 0} → Typed A → Option A
made_of t = t.made

-- the broken rules of parts, in turn
abbrev pub all_faults : List (Typed Made) → List Fault
all_faults [] = []
all_faults (t ∷ ts) = t.faults ++ all_faults ts

abbrev pub entry_faults : List Paired → List Fault
entry_faults [] = []
entry_faults (e ∷ es) = (e.key.faults ++ e.value.faults) ++ entry_faults es

abbrev pub key_made : Paired → Option Made
key_made e = e.key.made

abbrev pub value_made : Paired → Option Made
value_made e = e.value.made

-- the same of each of three bounds
abbrev pub each_bound : {A B : Type 0} → (A → B) → Bounds A → Bounds B
each_bound f b = record { from = option_map f b.from; upto = option_map f b.upto; by = option_map f b.by }
