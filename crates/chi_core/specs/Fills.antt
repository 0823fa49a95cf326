-- What sets slots in a body: each declaration, target, walk, receive and unwind there, in the order of the text.
use Rattle.std.specs.Prelude.{◌≡◌, ℕ, ◌≤◌, Bool, true, false, Option, Some, None, List, [], ◌∷◌, ◌++◌, map, slice_get}
use Rattle.chi_core.specs.declared.communication.CComm.{CComm}
use Rattle.chi_core.specs.declared.communication.CComm.TheVariants as comm
use Rattle.chi_core.specs.declared.element.CElem.{CElem, CElem-F, fold-CElem}
use Rattle.chi_core.specs.declared.statement.Branch.{Branch, Branch-F, fold-Branch}
use Rattle.chi_core.specs.declared.statement.CAlt.{CAlt, CAlt-F, fold-CAlt}
use Rattle.chi_core.specs.declared.statement.CStat.{CStat, CStat-F, fold-CStat}
use Rattle.chi_core.specs.declared.target.CTarget.{CTarget}

-- a slot, and whether an unwind binds it
pub record Fill : Type 0 where
  pub slot : ℕ
  pub by_unwind : Bool

abbrev pub Fills : Type 0
Fills = List Fill

abbrev pub filled : ℕ → Fill
filled slot = record { slot = slot; by_unwind = false }

abbrev pub unwound : ℕ → Fill
unwound slot = record { slot = slot; by_unwind = true }

abbrev pub one_after_another : List Fills → Fills
one_after_another [] = []
one_after_another (first ∷ rest) = first ++ one_after_another rest

-- a target sets its slot, as a whole or in a part
abbrev pub by_target : CTarget → Fill
by_target t = filled t.slot

abbrev pub by_target_if : Option CTarget → Fills
by_target_if None = []
by_target_if (Some t) = by_target t ∷ []

abbrev pub by_slot_if : Option ℕ → Fills
by_slot_if None = []
by_slot_if (Some slot) = filled slot ∷ []

abbrev pub by_communication : CComm → Fills
by_communication (comm.Send t e) = []
by_communication (comm.Receive t slot) = by_slot_if slot
by_communication (comm.Delay e) = []
by_communication (comm.Timer e) = []

abbrev pub by_element_step : CElem-F Fills → Fills
by_element_step (CElem-F.Make t process arguments) = by_target_if t
by_element_step (CElem-F.Unwind slots container elements) = map unwound slots ++ one_after_another elements

abbrev pub by_element : CElem → Fills
by_element = fold-CElem Fills by_element_step

abbrev pub by_alternative_step : CAlt-F Fills Fills Fills → Fills
by_alternative_step (CAlt-F.Guarded guard communication block) = by_communication communication ++ one_after_another block
by_alternative_step (CAlt-F.Unwind slots container alternatives) = map unwound slots ++ one_after_another alternatives

abbrev pub by_branch_step : Branch-F Fills Fills Fills → Fills
by_branch_step b = one_after_another b.block

abbrev pub by_statement_step : CStat-F Fills Fills Fills → Fills
by_statement_step (CStat-F.Declare line slot e) = filled slot ∷ []
by_statement_step (CStat-F.Assign line targets es) = map by_target targets
by_statement_step (CStat-F.If line branches otherwise) = one_after_another branches ++ one_after_another otherwise
by_statement_step (CStat-F.While line test block) = one_after_another block
by_statement_step (CStat-F.For line slots container block) = map filled slots ++ one_after_another block
by_statement_step (CStat-F.Break line) = []
by_statement_step (CStat-F.Continue line) = []
by_statement_step (CStat-F.Pass line) = []
by_statement_step (CStat-F.Return line e) = []
by_statement_step (CStat-F.Exit line e) = []
by_statement_step (CStat-F.Write line pieces es) = []
by_statement_step (CStat-F.Select line alternatives) = one_after_another alternatives
by_statement_step (CStat-F.Run line elements) = one_after_another (map by_element elements)
by_statement_step (CStat-F.Start line elements) = one_after_another (map by_element elements)
by_statement_step (CStat-F.Finish line es) = []

abbrev pub by_statement : CStat → Fills
by_statement = fold-CStat Fills Fills Fills by_alternative_step by_statement_step by_branch_step

abbrev pub by_alternative : CAlt → Fills
by_alternative = fold-CAlt Fills Fills Fills by_alternative_step by_statement_step by_branch_step

abbrev pub by_branch : Branch → Fills
by_branch = fold-Branch Fills Fills Fills by_alternative_step by_statement_step by_branch_step

-- all that sets slots in a body
abbrev pub by_body : List CStat → Fills
by_body body = one_after_another (map by_statement body)

-- the slot that is set at a place of the list is set at no other
abbrev pub SetOnce : Fills → ℕ → ℕ → Type 0
SetOnce fills k slot = (j : ℕ) (other : Fill) → slice_get fills j ≡ Some other → other.slot ≡ slot → j ≡ k

-- a slot that an unwind binds is none of so many parameters, and nothing else sets it
abbrev pub UnwindsOwn : ℕ → Fills → Type 0
UnwindsOwn params fills = (k slot : ℕ) → slice_get fills k ≡ Some (unwound slot) → (params ≤ slot) × SetOnce fills k slot
