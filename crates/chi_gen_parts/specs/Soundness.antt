-- Private to the generator. What is generated is sound, where the slots have types: all that its parts ask.
use Rattle.std.specs.Prelude.{◌≡◌, Some, List, slice_get}
use Rattle.chi_types.specs.declared.ty.Ty.{Ty}
use Rattle.chi_core.specs.declared.communication.CComm.{CComm}
use Rattle.chi_core.specs.declared.target.CStep.{CStep}
use Rattle.chi_core.specs.declared.target.CTarget.{CTarget}
use Rattle.chi_core.specs.Kinds.{Kind, kind_of, kinds_of}
use Rattle.chi_core.specs.Scopes.{Scope}
use Rattle.chi_core.specs.SetSlots.{Known}
use Rattle.chi_core.specs.SoundParts.{StepsLead, SoundComm}

-- a communication is sound in some scope with these slots
pub record SoundCommAt (slots : List Ty) (x : CComm) : Type 0 where
  pub scope : Scope
  pub known : Known
  pub kinds : scope.slots ≡ kinds_of slots
  pub sound : SoundComm scope known x

-- steps lead somewhere from a type
pub record LeadsFrom (t : Ty) (steps : List CStep) : Type 0 where
  pub scope : Scope
  pub known : Known
  pub goal : Kind
  pub leads : StepsLead scope known steps (kind_of t) goal

-- a target has a slot, and its steps lead somewhere from there
pub record SoundTargetAt (slots : List Ty) (t : CTarget) : Type 0 where
  pub ty : Ty
  pub is : slice_get slots t.slot ≡ Some ty
  pub leads : LeadsFrom ty t.steps
