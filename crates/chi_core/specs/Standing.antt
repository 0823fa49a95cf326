-- Where a term stands in the body of its definition: what is left to do there, with the loops and walks around it,
-- and which slots count as set there.
use Rattle.std.specs.Prelude.{◌≡◌, ℕ, Bool, true, false, Option, Some, List, [], ◌∷◌, ◌++◌, map, slice_get}
use Rattle.chi_value.specs.declared.value.Value.{Value}
use Rattle.chi_core.specs.declared.communication.CComm.{CComm}
use Rattle.chi_core.specs.declared.expression.CExpr.{CExpr}
use Rattle.chi_core.specs.declared.statement.Branch.{Branch, out-Branch}
use Rattle.chi_core.specs.declared.statement.CAlt.{CAlt, CAlt-F, out-CAlt}
use Rattle.chi_core.specs.declared.statement.CStat.{CStat, CStat-F, out-CStat}
use Rattle.chi_core.specs.Scopes.{Home}
use Rattle.chi_core.specs.SetSlots.{Known, also_all, sets, params_known}
use Rattle.chi_core.specs.Terms.{Do, Loop, Walk, Term}

-- What stands around a block: the rest of the block around it; and before that, where it is the block of a loop or a
-- walk under way, that loop, or that walk with its container and the elements that are left.
pub data Frame : Type 0 where
  Inner : List CStat → Frame
  Looping : ℕ → CExpr → List CStat → List CStat → Frame
  Walking : ℕ → List ℕ → List Value → CExpr → List CStat → List CStat → Frame

-- what is left to do: the rest of a block, and then what stands around it
abbrev pub term_of : List CStat → List Frame → Term
term_of rest [] = map Do rest
term_of rest (Inner after ∷ frames) = map Do rest ++ term_of after frames
term_of rest (Looping line test block after ∷ frames) = map Do rest ++ Loop line test block ∷ term_of after frames
term_of rest (Walking line slots elements container block after ∷ frames) = map Do rest ++ Walk line slots elements block ∷ term_of after frames

-- a loop or a walk stands around
abbrev pub is_within_loop : List Frame → Bool
is_within_loop [] = false
is_within_loop (Inner after ∷ frames) = is_within_loop frames
is_within_loop (Looping line test block after ∷ frames) = true
is_within_loop (Walking line slots elements container block after ∷ frames) = true

-- among alternatives one communicates, with a body, within unwinds that bind these slots, the outermost first
pub data Among : List CAlt → List ℕ → CComm → List CStat → Type 0 where
  here : (a : CAlt) (more : List CAlt) (guard : Option CExpr) (communication : CComm) (body : List CStat) → out-CAlt a ≡ CAlt-F.Guarded guard communication body
      → Among (a ∷ more) [] communication body
  later : (a : CAlt) (more : List CAlt) (bound : List ℕ) (communication : CComm) (body : List CStat) → Among more bound communication body
      → Among (a ∷ more) bound communication body
  inside : (a : CAlt) (more : List CAlt) (slots : List ℕ) (container : CExpr) (alternatives : List CAlt) (bound : List ℕ) (communication : CComm) (body : List CStat)
      → out-CAlt a ≡ CAlt-F.Unwind slots container alternatives → Among alternatives bound communication body
      → Among (a ∷ more) (slots ++ bound) communication body

-- There is a place in the definition's body at which these slots count as set, this is the rest of its block, and these
-- frames stand around that block. Each way in is a rule, from the place before it.
pub data Standing (d : Home) : Known → List CStat → List Frame → Type 0 where
  begins : Standing d (params_known d) d.body []
  next : (known : Known) (x : CStat) (rest : List CStat) (frames : List Frame) → Standing d known (x ∷ rest) frames
      → Standing d (sets (out-CStat x) known) rest frames
  in_branch : (known : Known) (x : CStat) (rest : List CStat) (frames : List Frame) (line : ℕ) (branches : List Branch) (otherwise : List CStat) (k : ℕ) (b : Branch)
      → Standing d known (x ∷ rest) frames → out-CStat x ≡ CStat-F.If line branches otherwise → slice_get branches k ≡ Some b
      → Standing d known (out-Branch b).block (Inner rest ∷ frames)
  in_else : (known : Known) (x : CStat) (rest : List CStat) (frames : List Frame) (line : ℕ) (branches : List Branch) (otherwise : List CStat)
      → Standing d known (x ∷ rest) frames → out-CStat x ≡ CStat-F.If line branches otherwise
      → Standing d known otherwise (Inner rest ∷ frames)
  in_loop : (known : Known) (x : CStat) (rest : List CStat) (frames : List Frame) (line : ℕ) (test : CExpr) (block : List CStat)
      → Standing d known (x ∷ rest) frames → out-CStat x ≡ CStat-F.While line test block
      → Standing d known block (Looping line test block rest ∷ frames)
  -- where a loop or a walk turns, nothing counts that its block sets or the walk binds
  at_turn : (known : Known) (x : CStat) (rest : List CStat) (frames : List Frame) (line : ℕ) (test : CExpr) (block : List CStat)
      → Standing d known (x ∷ rest) frames → out-CStat x ≡ CStat-F.While line test block
      → Standing d known [] (Looping line test block rest ∷ frames)
  in_walk : (known : Known) (x : CStat) (rest : List CStat) (frames : List Frame) (line : ℕ) (slots : List ℕ) (elements : List Value) (container : CExpr) (block : List CStat)
      → Standing d known (x ∷ rest) frames → out-CStat x ≡ CStat-F.For line slots container block
      → Standing d (also_all slots known) block (Walking line slots elements container block rest ∷ frames)
  at_walk_turn : (known : Known) (x : CStat) (rest : List CStat) (frames : List Frame) (line : ℕ) (slots : List ℕ) (elements : List Value) (container : CExpr) (block : List CStat)
      → Standing d known (x ∷ rest) frames → out-CStat x ≡ CStat-F.For line slots container block
      → Standing d known [] (Walking line slots elements container block rest ∷ frames)
  -- once an alternative is taken
  in_body : (known : Known) (x : CStat) (rest : List CStat) (frames : List Frame) (line : ℕ) (alternatives : List CAlt) (bound : List ℕ) (communication : CComm) (body : List CStat)
      → Standing d known (x ∷ rest) frames → out-CStat x ≡ CStat-F.Select line alternatives → Among alternatives bound communication body
      → Standing d (also_all bound known) body (Inner rest ∷ frames)
