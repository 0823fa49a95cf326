-- Sound statements of experiments, where the slots have kinds and some of them count as set, in a loop or not.
use Rattle.std.specs.Prelude.{◌≡◌, ℕ, Bool, true, false, List, [], ◌∷◌, Some, slice_get, IsTrue}
use Rattle.std.specs.List.{list_all}
use Rattle.chi_types.specs.declared.ty.Ty.{Ty-F}
use Rattle.chi_value.specs.declared.format.Piece.{Piece}
use Rattle.chi_core.specs.declared.experiment.XBranch.{XBranch, out-XBranch}
use Rattle.chi_core.specs.declared.experiment.XStat.{XStat, XStat-F, out-XStat}
use Rattle.chi_core.specs.declared.expression.CExpr.{CExpr, out-CExpr}
use Rattle.chi_core.specs.declared.program.ProcDef.{ProcDef}
use Rattle.chi_core.specs.declared.statement.CStat.{CStat, CStat-F, out-CStat}
use Rattle.chi_core.specs.declared.target.CTarget.{CTarget}
use Rattle.chi_core.specs.Kinds.{Kind, kinds_of, is_plain_kind}
use Rattle.chi_core.specs.Scopes.{Scope, exit_of}
use Rattle.chi_core.specs.SetSlots.{StatLayer, Known, also_all, sets, wholes}
use Rattle.chi_core.specs.SoundExpressions.{HasKind, HaveKinds}
use Rattle.chi_core.specs.SoundParts.{TargetTakes, Walks, Shows}
use Rattle.chi_core.specs.SoundStatements.{SoundStat}

-- the outermost layer of a statement of an experiment
abbrev pub XLayer : Type 0
XLayer = XStat-F XStat XBranch

-- what counts as set after a statement, in its block: what did before, and what it declares or assigns as a whole
abbrev pub sets_by : XLayer → Known → Known
sets_by (XStat-F.Line s) known = sets (out-CStat s) known
sets_by (XStat-F.RunModel line target model arguments widen) known = also_all (wholes (target ∷ [])) known
sets_by _ known = known

-- a statement without blocks that functions have too
abbrev pub is_line : StatLayer → Bool
is_line (CStat-F.Declare line slot e) = true
is_line (CStat-F.Assign line targets es) = true
is_line (CStat-F.Break line) = true
is_line (CStat-F.Continue line) = true
is_line (CStat-F.Pass line) = true
is_line _ = false

-- what a target takes of a model's exit: its value as it is, or an int as a real
pub data TakenAs : Kind → Bool → Kind → Type 0 where
  as_it_is : (T : Kind) → TakenAs T false T
  as_a_real : TakenAs Ty-F.Int true Ty-F.Real

mutual
  pub data SoundXStat (scope : Scope) : Bool → Known → XLayer → Type 0 where
    one_line : (loop : Bool) (known : Known) (s : CStat) → IsTrue (is_line (out-CStat s)) → SoundStat scope loop known (out-CStat s) → SoundXStat scope loop known (XStat-F.Line s)
    -- an experiment writes, as a process does
    one_write : (loop : Bool) (known : Known) (s : CStat) (line : ℕ) (pieces : List Piece) (es : List CExpr) (Ts : List Kind) → out-CStat s ≡ CStat-F.Write line pieces es → HaveKinds scope known es Ts
        → Shows pieces Ts → SoundXStat scope loop known (XStat-F.Line s)
    chooses : (loop : Bool) (known : Known) (line : ℕ) (branches : List XBranch) (otherwise : List XStat) → SoundXBranches scope loop known branches → SoundXBlock scope loop known otherwise
        → SoundXStat scope loop known (XStat-F.If line branches otherwise)
    -- what the block of a loop sets doesn't count at its test
    loops : (loop : Bool) (known : Known) (line : ℕ) (test : CExpr) (block : List XStat) → HasKind scope known (out-CExpr test) Ty-F.Bool → SoundXBlock scope true known block
        → SoundXStat scope loop known (XStat-F.While line test block)
    walks : (loop : Bool) (known : Known) (line : ℕ) (slots : List ℕ) (container : CExpr) (block : List XStat) → Walks scope known slots container
        → SoundXBlock scope true (also_all slots known) block → SoundXStat scope loop known (XStat-F.For line slots container block)
    -- a model with an exit type and parameters of plain types
    runs : (loop : Bool) (known : Known) (line : ℕ) (target : CTarget) (model : ℕ) (arguments : List CExpr) (widen : Bool) (d : ProcDef) (exit taken : Kind) → slice_get scope.core.procs model ≡ Some d
        → exit_of d ≡ Some exit → IsTrue (list_all is_plain_kind (kinds_of d.params)) → HaveKinds scope known arguments (kinds_of d.params) → TakenAs exit widen taken
        → TargetTakes scope known target.slot target.steps taken → SoundXStat scope loop known (XStat-F.RunModel line target model arguments widen)

  -- statements in turn: each knows what those before it have set
  pub data SoundXBlock (scope : Scope) : Bool → Known → List XStat → Type 0 where
    no_statement : (loop : Bool) (known : Known) → SoundXBlock scope loop known []
    one_statement : (loop : Bool) (known : Known) (x : XStat) (xs : List XStat) → SoundXStat scope loop known (out-XStat x) → SoundXBlock scope loop (sets_by (out-XStat x) known) xs
        → SoundXBlock scope loop known (x ∷ xs)

  pub data SoundXBranches (scope : Scope) : Bool → Known → List XBranch → Type 0 where
    no_branch : (loop : Bool) (known : Known) → SoundXBranches scope loop known []
    one_branch : (loop : Bool) (known : Known) (b : XBranch) (bs : List XBranch) → HasKind scope known (out-CExpr (out-XBranch b).test) Ty-F.Bool → SoundXBlock scope loop known (out-XBranch b).block
        → SoundXBranches scope loop known bs → SoundXBranches scope loop known (b ∷ bs)
