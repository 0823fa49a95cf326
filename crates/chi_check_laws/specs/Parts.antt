-- When what the parts of statements come to is sound, with their streams.
use Rattle.std.specs.Prelude.{◌≡◌, ℕ, Bool, true, ◌&&◌, Option, Some, None, slice_get, IsTrue}
use Rattle.std.specs.List.{list_all}
use Rattle.chi_core.specs.declared.communication.CComm.{CComm}
use Rattle.chi_core.specs.declared.communication.CComm.TheVariants as comm
use Rattle.chi_core.specs.declared.expression.CExpr.{CExpr}
use Rattle.chi_core.specs.declared.target.CStep.{CStep}
use Rattle.chi_core.specs.declared.target.CStep.TheVariants as step
use Rattle.chi_core.specs.declared.target.CTarget.{CTarget}
use Rattle.chi_core.specs.Kinds.{Kind, kind_of}
use Rattle.chi_core.specs.Scopes.{Scope}
use Rattle.chi_core.specs.SetSlots.{Known as Set}
use Rattle.chi_core.specs.Sound.{SoundIn}
use Rattle.chi_core.specs.SoundParts.{StepsLead, SoundComm}
use Rattle.chi_check.specs.Below.chi_check_streams.specs.Streams.{of_target, of_communication}
use Rattle.chi_check.specs.Below.chi_check_stat_rules.specs.declared.parts.Aim.{Aim}
use Rattle.chi_check.specs.Below.chi_check_stat_rules.specs.declared.parts.Receiver.{Receiver}
use Rattle.chi_check_laws.specs.TypedTexts.{texts_are_short}

-- ---- their text literals are short

abbrev pub step_texts : CStep → Bool
step_texts (step.Index e) = texts_are_short e
step_texts (step.Part number) = true

abbrev pub target_texts : CTarget → Bool
target_texts t = list_all step_texts t.steps

abbrev pub texts_if_any : Option CExpr → Bool
texts_if_any None = true
texts_if_any (Some e) = texts_are_short e

abbrev pub communication_texts : CComm → Bool
communication_texts (comm.Send t e) = target_texts t && texts_if_any e
communication_texts (comm.Receive t slot) = target_texts t
communication_texts (comm.Delay e) = texts_are_short e
communication_texts (comm.Timer e) = texts_are_short e

-- ---- they are sound

-- the steps of a target lead from its slot, which counts as set, to what has its type, which is sound
pub record SoundAim (scope : Scope) (set : Set) (a : Aim) : Type 0 where
  pub kind : Kind
  pub counts : IsTrue (set a.target.slot)
  pub is : slice_get scope.slots a.target.slot ≡ Some kind
  pub steps : IsTrue (target_texts a.target) → (count : ℕ) → StepsLead scope set (of_target a.target count).part.steps kind (kind_of a.ty)
  pub ty : SoundIn scope.core a.ty

-- what receives is a slot of its type
abbrev pub SoundReceiver : Scope → Receiver → Type 0
SoundReceiver scope r = slice_get scope.slots r.slot ≡ Some (kind_of r.ty)

-- a communication
abbrev pub Communicates : Scope → Set → CComm → Type 0
Communicates scope set c = IsTrue (communication_texts c) → (count : ℕ) → SoundComm scope set (of_communication c count).part
