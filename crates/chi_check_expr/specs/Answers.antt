-- What comes of a tree exactly where no rule is broken, and else the first broken rule.
use Rattle.std.specs.Prelude.{◌≡◌, List, [], Option, Some, None, Result, Ok, Err, option_map}
use Rattle.std.specs.Option.{option_and_then}
use Rattle.chi_core.specs.declared.expression.CExpr.{CExpr}
use Rattle.chi_types.specs.declared.ty.Ty.{Ty}
use Rattle.chi_check_types.specs.declared.fault.TypeFault.{TypeFault}
use Rattle.chi_check_types.specs.declared.fault.TypeFault.TheVariants.{Broken, NoMemory}
use Rattle.chi_check_types.specs.declared.meant.Made.{Made}
use Rattle.chi_check_types.specs.declared.meant.Meant.{Meant}
use Rattle.chi_check_types.specs.Defaults.{default_of}
use Rattle.chi_check_types.specs.Faults.{fault, first}
use Rattle.chi_check_types.specs.Typed.{Typed}

module _ {A B : Type 0} (Gives : A → B → Type 0) where
  -- of what is made of a tree, or its first broken rule
  abbrev pub Answers : Result B TypeFault → Typed A → Type 0
  Answers (Ok b) t = (t.faults ≡ []) × ((a : A) × (t.made ≡ Some a) × Gives a b)
  Answers (Err (Broken rule place)) t = first t.faults ≡ Some (fault rule place)
  Answers (Err NoMemory) t = Unit {0}

-- the core and the type
abbrev pub CoreAndType : Made → CExpr × Ty → Type 0
CoreAndType m answer = (answer.0 ≡ m.core) × (answer.1 ≡ m.ty)

-- the type, and the expression of its default
abbrev pub TypeAndDefault : Meant → Ty × CExpr → Type 0
TypeAndDefault m answer = (answer.0 ≡ m.ty) × (default_of m.ty m.sizes ≡ Some answer.1)
