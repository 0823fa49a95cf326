-- Sound parts of statements: targets, channels, names that walks bind, what is written, what is offered, and what
-- is started.
use Rattle.std.specs.Prelude.{◌≡◌, ℕ, ◌≤◌, false, Option, Some, None, List, [], ◌∷◌, slice_get, IsTrue}
use Rattle.chi_types.specs.declared.ty.Ty.{Ty, Ty-F, out-Ty}
use Rattle.chi_types.specs.declared.ty.Way.TheVariants as way
use Rattle.chi_value.specs.declared.format.Piece.{Piece}
use Rattle.chi_value.specs.declared.format.Piece.TheVariants as piece
use Rattle.chi_value.specs.declared.format.Field.{Field}
use Rattle.chi_core.specs.declared.communication.CComm.{CComm}
use Rattle.chi_core.specs.declared.communication.CComm.TheVariants as comm
use Rattle.chi_core.specs.declared.element.CElem.{CElem, CElem-F, out-CElem}
use Rattle.chi_core.specs.declared.expression.CExpr.{CExpr, out-CExpr}
use Rattle.chi_core.specs.declared.program.ProcDef.{ProcDef}
use Rattle.chi_core.specs.declared.target.CStep.{CStep}
use Rattle.chi_core.specs.declared.target.CStep.TheVariants as step
use Rattle.chi_core.specs.declared.target.CTarget.{CTarget}
use Rattle.chi_core.specs.Kinds.{Kind, kinds_of, entry_of, is_plain_kind, is_void}
use Rattle.chi_core.specs.Scopes.{Scope, exit_of}
use Rattle.chi_core.specs.SetSlots.{Known, also_all}
use Rattle.chi_core.specs.SoundExpressions.{HasKind, HaveKinds}

-- steps lead from a kind to that of a part: an index into a list, a key into a dictionary, a number into a tuple
pub data StepsLead (scope : Scope) (known : Known) : List CStep → Kind → Kind → Type 0 where
  no_step : (T : Kind) → StepsLead scope known [] T T
  into_list : (e : CExpr) (steps : List CStep) (t : Ty) (U : Kind) → HasKind scope known (out-CExpr e) Ty-F.Int → StepsLead scope known steps (out-Ty t) U
      → StepsLead scope known (step.Index e ∷ steps) (Ty-F.ListOf t) U
  into_dictionary : (e : CExpr) (steps : List CStep) (key has : Ty) (U : Kind) → HasKind scope known (out-CExpr e) (out-Ty key) → StepsLead scope known steps (out-Ty has) U
      → StepsLead scope known (step.Index e ∷ steps) (Ty-F.DictOf key has) U
  into_tuple : (number : ℕ) (steps : List CStep) (parts : List (List ℕ × Ty)) (p : List ℕ × Ty) (U : Kind) → slice_get parts number ≡ Some p → StepsLead scope known steps (out-Ty p.1) U
      → StepsLead scope known (step.Part number ∷ steps) (Ty-F.TupleOf parts) U

-- a target takes values of a kind: a whole slot, or a part of a slot that counts as set
pub data TargetTakes (scope : Scope) (known : Known) (slot : ℕ) : List CStep → Kind → Type 0 where
  whole : (T : Kind) → slice_get scope.slots slot ≡ Some T → TargetTakes scope known slot [] T
  within : (s : CStep) (steps : List CStep) (T U : Kind) → IsTrue (known slot) → slice_get scope.slots slot ≡ Some T → StepsLead scope known (s ∷ steps) T U
      → TargetTakes scope known slot (s ∷ steps) U

-- as many targets as kinds, each of which takes values of its kind
pub data TargetsTake (scope : Scope) (known : Known) : List CTarget → List Kind → Type 0 where
  no_target : TargetsTake scope known [] []
  one_target : (t : CTarget) (ts : List CTarget) (T : Kind) (Ts : List Kind) → TargetTakes scope known t.slot t.steps T → TargetsTake scope known ts Ts
      → TargetsTake scope known (t ∷ ts) (T ∷ Ts)

-- a channel of values of a type, or of void, is read at a target
pub record ChannelAt (scope : Scope) (known : Known) (t : CTarget) (element : Ty) : Type 0 where
  pub kind : Kind
  pub set : IsTrue (known t.slot)
  pub is : slice_get scope.slots t.slot ≡ Some kind
  pub steps : StepsLead scope known t.steps kind (Ty-F.Chan way.Both element)

-- what can be walked over, and the kind of its elements
pub data WalkedOver : Kind → Kind → Type 0 where
  a_list : (t : Ty) → WalkedOver (Ty-F.ListOf t) (out-Ty t)
  a_set : (t : Ty) → WalkedOver (Ty-F.SetOf t) (out-Ty t)
  a_dictionary : (key has : Ty) → WalkedOver (Ty-F.DictOf key has) (entry_of key has)

-- as many slots as parts of a tuple, each of the kind of its part
pub data SlotsTakeParts (scope : Scope) : List ℕ → List (List ℕ × Ty) → Type 0 where
  no_slot : SlotsTakeParts scope [] []
  one_slot : (slot : ℕ) (slots : List ℕ) (p : List ℕ × Ty) (parts : List (List ℕ × Ty)) → slice_get scope.slots slot ≡ Some (out-Ty p.1) → SlotsTakeParts scope slots parts
      → SlotsTakeParts scope (slot ∷ slots) (p ∷ parts)

-- the slots of a walk take elements of a kind: one the element itself, several the parts of a tuple
pub data SlotsTake (scope : Scope) : List ℕ → Kind → Type 0 where
  element_itself : (slot : ℕ) (T : Kind) → slice_get scope.slots slot ≡ Some T → SlotsTake scope (slot ∷ []) T
  its_parts : (slot other : ℕ) (slots : List ℕ) (parts : List (List ℕ × Ty)) → SlotsTakeParts scope (slot ∷ other ∷ slots) parts
      → SlotsTake scope (slot ∷ other ∷ slots) (Ty-F.TupleOf parts)

-- the container and the slots of a walk or an unwind
pub record Walks (scope : Scope) (known : Known) (slots : List ℕ) (container : CExpr) : Type 0 where
  pub kind : Kind
  pub element : Kind
  pub has_kind : HasKind scope known (out-CExpr container) kind
  pub over : WalkedOver kind element
  pub take : SlotsTake scope slots element

-- a value for each piece of a format but plain text, of the kind that the piece shows
pub data Shows : List Piece → List Kind → Type 0 where
  no_piece : Shows [] []
  plain_text : (bytes : List ℕ) (pieces : List Piece) (Ts : List Kind) → Shows pieces Ts → Shows (piece.Plain bytes ∷ pieces) Ts
  any_plain : (field : Field) (pieces : List Piece) (T : Kind) (Ts : List Kind) → IsTrue (is_plain_kind T) → Shows pieces Ts → Shows (piece.Any field ∷ pieces) (T ∷ Ts)
  whole_number : (field : Field) (pieces : List Piece) (Ts : List Kind) → Shows pieces Ts → Shows (piece.Whole field ∷ pieces) (Ty-F.Int ∷ Ts)
  -- with at most nine decimals
  fixed_point : (field : Field) (decimals : ℕ) (pieces : List Piece) (Ts : List Kind) → decimals ≤ 9 → Shows pieces Ts
      → Shows (piece.Fixed field decimals ∷ pieces) (Ty-F.Real ∷ Ts)

-- A communication is sound: what is sent is of the type that the channel carries, the slot that receives has that type,
-- and there is neither a value nor a slot exactly where the channel carries void.
pub data SoundComm (scope : Scope) (known : Known) : CComm → Type 0 where
  sends : (t : CTarget) (e : CExpr) (element : Ty) → ChannelAt scope known t element → is_void (out-Ty element) ≡ false → HasKind scope known (out-CExpr e) (out-Ty element)
      → SoundComm scope known (comm.Send t (Some e))
  sends_void : (t : CTarget) (element : Ty) → ChannelAt scope known t element → IsTrue (is_void (out-Ty element)) → SoundComm scope known (comm.Send t None)
  receives : (t : CTarget) (slot : ℕ) (element : Ty) → ChannelAt scope known t element → is_void (out-Ty element) ≡ false → slice_get scope.slots slot ≡ Some (out-Ty element)
      → SoundComm scope known (comm.Receive t (Some slot))
  receives_void : (t : CTarget) (element : Ty) → ChannelAt scope known t element → IsTrue (is_void (out-Ty element)) → SoundComm scope known (comm.Receive t None)
  delays : (e : CExpr) → HasKind scope known (out-CExpr e) Ty-F.Real → SoundComm scope known (comm.Delay e)
  waits_for_timer : (e : CExpr) → HasKind scope known (out-CExpr e) Ty-F.Timer → SoundComm scope known (comm.Timer e)

-- a guard, if there is one, is a bool
pub data SoundGuard (scope : Scope) (known : Known) : Option CExpr → Type 0 where
  no_guard : SoundGuard scope known None
  a_guard : (e : CExpr) → HasKind scope known (out-CExpr e) Ty-F.Bool → SoundGuard scope known (Some e)

-- an exit has a value exactly where the header has an exit type, and the value is plain and of that type
pub data SoundExit (scope : Scope) (known : Known) : Option CExpr → Option Kind → Type 0 where
  without_value : SoundExit scope known None None
  with_value : (e : CExpr) (T : Kind) → HasKind scope known (out-CExpr e) T → IsTrue (is_plain_kind T) → SoundExit scope known (Some e) (Some T)

-- a definition starts processes with its own exit type, or with none
pub data MayStart : Option Kind → Option Kind → Type 0 where
  its_own : (exit : Option Kind) → MayStart exit exit
  none : (exit : Option Kind) → MayStart exit None

-- where the number of a new instance goes, if it goes anywhere
pub data TakesInstance (scope : Scope) (known : Known) : Option CTarget → Type 0 where
  nowhere : TakesInstance scope known None
  target : (t : CTarget) → TargetTakes scope known t.slot t.steps Ty-F.Inst → TakesInstance scope known (Some t)

-- What a definition with an exit of this kind, or without a value, starts. A target that is assigned as a whole doesn't
-- count as set for what is started after it.
mutual
  pub data SoundElements (scope : Scope) (exit : Option Kind) : Known → List CElem → Type 0 where
    no_element : (known : Known) → SoundElements scope exit known []
    one_element : (known : Known) (e : CElem) (es : List CElem) → SoundElement scope exit known (out-CElem e) → SoundElements scope exit known es
        → SoundElements scope exit known (e ∷ es)

  pub data SoundElement (scope : Scope) (exit : Option Kind) : Known → CElem-F CElem → Type 0 where
    -- the process is there, and gets an argument for each of its parameters
    makes : (known : Known) (t : Option CTarget) (number : ℕ) (arguments : List CExpr) (d : ProcDef) → slice_get scope.core.procs number ≡ Some d → MayStart exit (exit_of d)
        → HaveKinds scope known arguments (kinds_of d.params) → TakesInstance scope known t → SoundElement scope exit known (CElem-F.Make t number arguments)
    unwinds : (known : Known) (slots : List ℕ) (container : CExpr) (elements : List CElem) → Walks scope known slots container
        → SoundElements scope exit (also_all slots known) elements → SoundElement scope exit known (CElem-F.Unwind slots container elements)
