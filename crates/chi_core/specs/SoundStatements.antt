-- Sound statements, where the slots have kinds and some of them count as set, in a loop or not.
use Rattle.std.specs.Prelude.{◌≡◌, ℕ, Bool, true, Option, Some, List, [], ◌∷◌, map, slice_get, IsTrue}
use Rattle.chi_types.specs.declared.ty.Ty.{Ty, Ty-F}
use Rattle.chi_value.specs.declared.format.Piece.{Piece}
use Rattle.chi_core.specs.declared.communication.CComm.{CComm}
use Rattle.chi_core.specs.declared.element.CElem.{CElem}
use Rattle.chi_core.specs.declared.expression.CExpr.{CExpr, out-CExpr}
use Rattle.chi_core.specs.declared.statement.Branch.{Branch, out-Branch}
use Rattle.chi_core.specs.declared.statement.CAlt.{CAlt, CAlt-F, out-CAlt}
use Rattle.chi_core.specs.declared.statement.CStat.{CStat, CStat-F, out-CStat}
use Rattle.chi_core.specs.declared.target.CTarget.{CTarget}
use Rattle.chi_core.specs.Kinds.{Kind, part_kinds}
use Rattle.chi_core.specs.Scopes.{Scope, function, process, may_declare}
use Rattle.chi_core.specs.SetSlots.{StatLayer, Known, also_all, sets}
use Rattle.chi_core.specs.SoundExpressions.{HasKind, HaveKinds}
use Rattle.chi_core.specs.SoundParts.{TargetsTake, Walks, Shows, SoundComm, SoundGuard, SoundExit, SoundElements}

mutual
  pub data SoundStat (scope : Scope) : Bool → Known → StatLayer → Type 0 where
    declares : (loop : Bool) (known : Known) (line slot : ℕ) (e : CExpr) (T : Kind) → slice_get scope.slots slot ≡ Some T → IsTrue (may_declare scope.role T)
        → HasKind scope known (out-CExpr e) T → SoundStat scope loop known (CStat-F.Declare line slot e)
    -- as many values as targets
    assigns : (loop : Bool) (known : Known) (line : ℕ) (targets : List CTarget) (es : List CExpr) (Ts : List Kind) → HaveKinds scope known es Ts → TargetsTake scope known targets Ts
        → SoundStat scope loop known (CStat-F.Assign line targets es)
    -- or one tuple with a part for each of several targets
    spreads : (loop : Bool) (known : Known) (line : ℕ) (t u : CTarget) (more : List CTarget) (e : CExpr) (parts : List (List ℕ × Ty)) → HasKind scope known (out-CExpr e) (Ty-F.TupleOf parts)
        → TargetsTake scope known (t ∷ u ∷ more) (part_kinds parts) → SoundStat scope loop known (CStat-F.Assign line (t ∷ u ∷ more) (e ∷ []))
    chooses : (loop : Bool) (known : Known) (line : ℕ) (branches : List Branch) (otherwise : List CStat) → SoundBranches scope loop known branches → SoundBlock scope loop known otherwise
        → SoundStat scope loop known (CStat-F.If line branches otherwise)
    -- what the block of a loop sets doesn't count at its test
    loops : (loop : Bool) (known : Known) (line : ℕ) (test : CExpr) (block : List CStat) → HasKind scope known (out-CExpr test) Ty-F.Bool → SoundBlock scope true known block
        → SoundStat scope loop known (CStat-F.While line test block)
    walks : (loop : Bool) (known : Known) (line : ℕ) (slots : List ℕ) (container : CExpr) (block : List CStat) → Walks scope known slots container
        → SoundBlock scope true (also_all slots known) block → SoundStat scope loop known (CStat-F.For line slots container block)
    breaks : (known : Known) (line : ℕ) → SoundStat scope true known (CStat-F.Break line)
    continues : (known : Known) (line : ℕ) → SoundStat scope true known (CStat-F.Continue line)
    passes : (loop : Bool) (known : Known) (line : ℕ) → SoundStat scope loop known (CStat-F.Pass line)
    -- only a function returns
    returns : (loop : Bool) (known : Known) (line : ℕ) (e : CExpr) (T : Kind) → scope.role ≡ function T → HasKind scope known (out-CExpr e) T
        → SoundStat scope loop known (CStat-F.Return line e)
    -- and only a process exits, writes, communicates, delays, starts processes and waits for them
    exits : (loop : Bool) (known : Known) (line : ℕ) (e : Option CExpr) (exit : Option Kind) → scope.role ≡ process exit → SoundExit scope known e exit
        → SoundStat scope loop known (CStat-F.Exit line e)
    writes : (loop : Bool) (known : Known) (line : ℕ) (pieces : List Piece) (es : List CExpr) (exit : Option Kind) (Ts : List Kind) → scope.role ≡ process exit → HaveKinds scope known es Ts
        → Shows pieces Ts → SoundStat scope loop known (CStat-F.Write line pieces es)
    selects : (loop : Bool) (known : Known) (line : ℕ) (alternatives : List CAlt) (exit : Option Kind) → scope.role ≡ process exit → SoundAlternatives scope loop known alternatives
        → SoundStat scope loop known (CStat-F.Select line alternatives)
    runs : (loop : Bool) (known : Known) (line : ℕ) (elements : List CElem) (exit : Option Kind) → scope.role ≡ process exit → SoundElements scope exit known elements
        → SoundStat scope loop known (CStat-F.Run line elements)
    starts : (loop : Bool) (known : Known) (line : ℕ) (elements : List CElem) (exit : Option Kind) → scope.role ≡ process exit → SoundElements scope exit known elements
        → SoundStat scope loop known (CStat-F.Start line elements)
    finishes : (loop : Bool) (known : Known) (line : ℕ) (es : List CExpr) (exit : Option Kind) → scope.role ≡ process exit → HaveKinds scope known es (map (λ e. Ty-F.Inst) es)
        → SoundStat scope loop known (CStat-F.Finish line es)

  -- statements in turn: each knows what those before it have set
  pub data SoundBlock (scope : Scope) : Bool → Known → List CStat → Type 0 where
    no_statement : (loop : Bool) (known : Known) → SoundBlock scope loop known []
    one_statement : (loop : Bool) (known : Known) (x : CStat) (xs : List CStat) → SoundStat scope loop known (out-CStat x) → SoundBlock scope loop (sets (out-CStat x) known) xs
        → SoundBlock scope loop known (x ∷ xs)

  pub data SoundBranches (scope : Scope) : Bool → Known → List Branch → Type 0 where
    no_branch : (loop : Bool) (known : Known) → SoundBranches scope loop known []
    one_branch : (loop : Bool) (known : Known) (b : Branch) (bs : List Branch) → HasKind scope known (out-CExpr (out-Branch b).test) Ty-F.Bool → SoundBlock scope loop known (out-Branch b).block
        → SoundBranches scope loop known bs → SoundBranches scope loop known (b ∷ bs)

  pub data SoundAlternatives (scope : Scope) : Bool → Known → List CAlt → Type 0 where
    no_alternative : (loop : Bool) (known : Known) → SoundAlternatives scope loop known []
    one_alternative : (loop : Bool) (known : Known) (a : CAlt) (more : List CAlt) → SoundAlternative scope loop known (out-CAlt a) → SoundAlternatives scope loop known more
        → SoundAlternatives scope loop known (a ∷ more)

  pub data SoundAlternative (scope : Scope) : Bool → Known → CAlt-F CAlt CStat Branch → Type 0 where
    guarded : (loop : Bool) (known : Known) (guard : Option CExpr) (communication : CComm) (block : List CStat) → SoundGuard scope known guard → SoundComm scope known communication
        → SoundBlock scope loop known block → SoundAlternative scope loop known (CAlt-F.Guarded guard communication block)
    unwinds : (loop : Bool) (known : Known) (slots : List ℕ) (container : CExpr) (alternatives : List CAlt) → Walks scope known slots container
        → SoundAlternatives scope loop (also_all slots known) alternatives → SoundAlternative scope loop known (CAlt-F.Unwind slots container alternatives)
