-- The arguments of a program's model, by the texts that the words give.
use Rattle.std.specs.Prelude.{◌≡◌, ℕ, ◌-◌, Bool, true, false, List, Some, Ok, Err, length, slice_get}
use Rattle.chi_cli.specs.declared.args.ArgFault.{ArgFault}
use Rattle.chi_cli.specs.declared.args.ArgFault.TheVariants as fault
use Rattle.chi_cli.specs.Arguments.{values_of}
use Rattle.chi_core.specs.declared.program.Core.{Core}
use Rattle.chi_core.specs.declared.program.ProcDef.{ProcDef}
use Rattle.chi_types.specs.declared.ty.Ty.{Ty, out-Ty}
use Rattle.chi_value.specs.declared.value.Value.{Value}
use Rattle.chi_explain_arguments.specs.Arguments.{count_text, kind_text, argument_text}

-- the texts mean these values, as the model's parameters want them
pub record Means (core : Core) (texts : List (List ℕ)) (values : List Value) : Type 0 where
  pub model : ProcDef
  pub is : slice_get core.procs core.model ≡ Some model
  pub read : values_of model.params texts ≡ Ok values

-- the texts don't fit the model's parameters
pub record Misfits (core : Core) (texts : List (List ℕ)) (wanted : ℕ) (fault : ArgFault) : Type 0 where
  pub model : ProcDef
  pub is : slice_get core.procs core.model ≡ Some model
  pub read : values_of model.params texts ≡ Err fault
  pub count : wanted ≡ length model.params

-- arguments are refused; want of memory is no refusal of theirs
abbrev pub is_misfit : ArgFault → Bool
is_misfit fault.Count = true
is_misfit (fault.Kind k) = true
is_misfit (fault.Text k) = true
is_misfit fault.NoMemory = false

-- What is told at length where texts don't fit these parameters: how many there are and how many there should be; or the number of
-- the parameter, from 1, with its type, and the text that is none of that type. Of want of memory nothing is told.
abbrev pub IsMisfitExplained : List Ty → List (List ℕ) → ArgFault → List ℕ → Type 0
IsMisfitExplained params texts fault.Count told = told ≡ count_text (length params) (length texts)
IsMisfitExplained params texts (fault.Kind k) told =
    (param : Ty) × (slice_get params (k - 1) ≡ Some param) × (told ≡ kind_text k (out-Ty param))
IsMisfitExplained params texts (fault.Text k) told =
    (param : Ty) × (slice_get params (k - 1) ≡ Some param) × (text : List ℕ) × (slice_get texts (k - 1) ≡ Some text)
    × (told ≡ argument_text k (out-Ty param) text)
IsMisfitExplained params texts fault.NoMemory told = ⊥
