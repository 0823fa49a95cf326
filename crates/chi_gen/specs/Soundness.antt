-- Private to chi_gen. What is generated is sound, in a body whose slots have types: all that the generator asks of it.
use Rattle.std.specs.Prelude.{◌≡◌, Bool, true, false, Option, Some, None, List}
use Rattle.chi_types.specs.declared.ty.Ty.{Ty}
use Rattle.chi_core.specs.declared.statement.Branch.{Branch, out-Branch}
use Rattle.chi_core.specs.declared.statement.CAlt.{CAlt, out-CAlt}
use Rattle.chi_core.specs.declared.statement.CStat.{CStat, out-CStat}
use Rattle.chi_core.specs.Kinds.{kinds_of, Every}
use Rattle.chi_core.specs.Scopes.{Scope}
use Rattle.chi_core.specs.SetSlots.{Known}
use Rattle.chi_core.specs.SoundStatements.{SoundStat, SoundAlternative}
use Rattle.chi_code.specs.declared.code.Around.{Around}

-- whether a loop is around
abbrev pub in_loop : Option Around → Bool
in_loop None = false
in_loop (Some near) = true

-- a statement, in a loop or not, is sound in some scope with these slots
pub record SoundAt (slots : List Ty) (loop : Bool) (x : CStat) : Type 0 where
  pub scope : Scope
  pub known : Known
  pub kinds : scope.slots ≡ kinds_of slots
  pub sound : SoundStat scope loop known (out-CStat x)

abbrev pub SoundBranchAt : List Ty → Bool → Branch → Type 0
SoundBranchAt slots loop x = Every (SoundAt slots loop) (out-Branch x).block

pub record SoundAlternativeAt (slots : List Ty) (loop : Bool) (x : CAlt) : Type 0 where
  pub scope : Scope
  pub known : Known
  pub kinds : scope.slots ≡ kinds_of slots
  pub sound : SoundAlternative scope loop known (out-CAlt x)

-- a body, outside of any loop
abbrev pub SoundBody : List Ty → List CStat → Type 0
SoundBody slots body = Every (SoundAt slots false) body
