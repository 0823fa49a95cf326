-- When expressions of a sound program can be evaluated: what they read is there, and of its kind.
use Rattle.std.specs.Prelude.{◌≡◌, ◌≢◌, ℕ, ◌<◌, Some, List, [], ◌∷◌, true, slice_get, IsTrue}
use Rattle.std.specs.Option.{IsSomeAnd}
use Rattle.chi_core.specs.declared.expression.CExpr.{CExpr}
use Rattle.chi_core.specs.declared.program.ConstDef.{ConstDef}
use Rattle.chi_core.specs.declared.program.Core.{Core}
use Rattle.chi_core.specs.declared.scene.Scene.{Scene}
use Rattle.chi_core.specs.declared.view.View.{View}
use Rattle.chi_core.specs.Answer.{Amiss}
use Rattle.chi_core.specs.Kinded.{Held}
use Rattle.chi_core.specs.Kinds.{Kind, kind_of}
use Rattle.chi_core.specs.Of.{World, nowhere, IsOf, AreOf}
use Rattle.chi_core.specs.Scopes.{Scope, may_read}
use Rattle.chi_core.specs.SetSlots.{Known}
use Rattle.chi_core.specs.Sound.{Sound}
use Rattle.chi_core.specs.SoundExpressions.{HaveKinds}
use Rattle.chi_core.specs.Variables.{Variables}
use Rattle.chi_core_kinds.specs.Well.{FitsView, Kept, Same}
use Rattle.chi_code.specs.declared.code.Code.{Code}
use Rattle.chi_code.specs.Codes.{Codes}
use Rattle.chi_code.specs.ExpressionLayout.{ExprsAt}
use Rattle.chi_exec_law.specs.Runs.{Stuck, Halts, Leads}
use Rattle.chi_exec_law.specs.State.{State}
use Rattle.chi_exec_law.specs.Machine.{in_expressions, stops_at, step}
use Rattle.chi_exec_law.specs.Laws.{evaluated, begun}

-- In a definition, where some slots count as set: each constant that may be read there has a value of its kind, and so has
-- each variable that counts as set, in a world that has the channels and instances of the view.
pub record Evaluable (scope : Scope) (known : Known) (scene : Scene) (w : World) (variables : Variables) (view : View) : Type 0 where
  pub names : scene.names.kinds ≡ scope.core.names.kinds
  pub world : w.names ≡ scope.core.names.kinds
  pub constants : (number : ℕ) (c : ConstDef) → slice_get scope.core.consts number ≡ Some c → IsTrue (may_read scope.role number)
      → IsSomeAnd (slice_get scene.constants number) (IsOf (nowhere scope.core.names.kinds) (kind_of c.ty))
  pub held : Held w scope known variables
  pub fits : FitsView w view

-- Expressions that have kinds in a definition of a sound program come to values of these kinds, or fail, or cost too much.
abbrev pub EvaluationsAreWell : Type 0
EvaluationsAreWell =
    (scope : Scope) → Sound scope.core → (known : Known) (es : List CExpr) (Ts : List Kind) → HaveKinds scope known es Ts
    → (scene : Scene) (w : World) (variables : Variables) (view : View) → Evaluable scope known scene w variables view
    → Kept w (Same w (λ v values. AreOf v values Ts)) (evaluated scope.core scene variables es view)

-- Expressions of a program can be evaluated here: they have kinds in a definition of it, it is sound, and what they read is
-- there and of its kind.
pub record CanBeEvaluated (core : Core) (es : List CExpr) (scene : Scene) (variables : Variables) (view : View) : Type 0 where
  pub scope : Scope
  pub is : scope.core ≡ core
  pub sound : Sound scope.core
  pub known : Known
  pub kinds : List Kind
  pub have : HaveKinds scope known es kinds
  pub world : World
  pub evaluable : Evaluable scope known scene world variables view

-- so they are never amiss
abbrev pub EvaluationsAreNotAmiss : Type 0
EvaluationsAreNotAmiss =
    (core : Core) (es : List CExpr) (scene : Scene) (variables : Variables) (view : View) → CanBeEvaluated core es scene variables view
    → evaluated core scene variables es view ≢ Amiss

-- and a run of their code comes to an end, and is nowhere stuck on the way
abbrev pub RunsEnd : Type 0
RunsEnd =
    (core : Core) (es : List CExpr) (scene : Scene) (variables : Variables) (view : View) → CanBeEvaluated core es scene variables view
    → (code : Code) → Codes core code → (a z : ℕ) → ExprsAt code.instrs es a z → stops_at (in_expressions code scene) (slice_get code.instrs z) ≡ true
    → Halts (step (in_expressions code scene)) (begun a variables view)
    × ((s : State) → Leads (step (in_expressions code scene)) (begun a variables view) s → step (in_expressions code scene) s ≢ Stuck)

-- The expression of a constant can be evaluated once those before it are set, each to a value of its kind.
abbrev pub ConstantsCanBeEvaluated : Type 0
ConstantsCanBeEvaluated =
    (core : Core) → Sound core → (number : ℕ) (c : ConstDef) → slice_get core.consts number ≡ Some c
    → (scene : Scene) → scene.names.kinds ≡ core.names.kinds
    → ((other : ℕ) (d : ConstDef) → slice_get core.consts other ≡ Some d → other < number → IsSomeAnd (slice_get scene.constants other) (IsOf (nowhere core.names.kinds) (kind_of d.ty)))
    → (w : World) → w.names ≡ core.names.kinds → (view : View) → FitsView w view
    → CanBeEvaluated core (c.value ∷ []) scene [] view
