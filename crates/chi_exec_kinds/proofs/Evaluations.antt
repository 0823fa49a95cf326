-- Expressions of a sound program do well, and so does their code.
use Rattle.std.proofs.Common.{◌≡◌, ◌≢◌, ℕ, ◌<◌, ltb-true, List, [], ◌∷◌, length, Some, refl, subst}
use Rattle.std.specs.Prelude.{slice_get, IsTrue}
use Rattle.std.specs.Option.{IsSomeAnd}
use Rattle.chi_value.specs.declared.value.Value.{Value}
use Rattle.chi_core.specs.declared.program.ConstDef.{ConstDef}
use Rattle.chi_core.specs.declared.program.Core.{Core}
use Rattle.chi_core.specs.declared.scene.Scene.{Scene}
use Rattle.chi_core.specs.Answer.{Answer, Gives, Fails, Spent, Amiss}
use Rattle.chi_core.specs.Functions.{calls}
use Rattle.chi_core.specs.Kinds.{Kind, kind_of, Every}
use Rattle.chi_core.specs.Of.{nowhere, IsOf, AreOf}
use Rattle.chi_core.specs.Scopes.{Role, constant, function, process, may_read, constant_scope}
use Rattle.chi_core.specs.Sound.{Sound, nothing_known}
use Rattle.chi_core.specs.SoundExpressions.{no_expression, one_expression}
use Rattle.chi_core.specs.Variables.{Variables}
use Rattle.chi_core_kinds.specs.Well.{Same}
use Rattle.chi_core_kinds.proofs.Composing.{not_amiss}
use Rattle.chi_core_kinds.proofs.Expressions.{Provides, well_values}
use Rattle.chi_core_kinds.proofs.Functions.{SceneFits, provided, calls_well}
use Rattle.chi_core_kinds.proofs.Operations.{Laws}
use Rattle.chi_exec_law.specs.Runs.{Halts}
use Rattle.chi_exec_law.specs.State.{State}
use Rattle.chi_exec_law.specs.Machine.{Setting, in_expressions, step}
use Rattle.chi_exec_law.specs.Laws.{evaluated, begun, Values, ExpressionsRun}
use Rattle.chi_exec_law.proofs.Ends.{halts_along, never_stuck}
use Rattle.chi_exec_kinds.specs.Evaluable.{EvaluationsAreWell, EvaluationsAreNotAmiss, RunsEnd, ConstantsCanBeEvaluated}

module _ (laws : Laws) where
  -- each constant that may be read has a value of its kind
  abbrev Constants : Core → Role → Scene → Type 0
  Constants core role scene =
      (number : ℕ) (c : ConstDef) → slice_get core.consts number ≡ Some c → IsTrue (may_read role number)
      → IsSomeAnd (slice_get scene.constants number) (IsOf (nowhere core.names.kinds) (kind_of c.ty))

  module _ (core : Core) (fine : Sound core) (slots : List Kind) (scene : Scene) (names : scene.names.kinds ≡ core.names.kinds) where
    values_there : Every (λ names. 0 < length names) core.names.kinds
    values_there n values e = (fine.enumerations n values e).values

    all_set : ((number : ℕ) (c : ConstDef) → slice_get core.consts number ≡ Some c → IsSomeAnd (slice_get scene.constants number) (IsOf (nowhere core.names.kinds) (kind_of c.ty)))
        → (role : Role) → Provides (record { core = core; slots = slots; role = role }) (calls core.funcs scene) scene
    all_set constants role =
        let rests : SceneFits core scene = record { enumerations = values_there; names = names; constants = constants } in
        provided core slots role scene (calls core.funcs scene) rests (calls_well laws core fine scene rests)

    provides : (role : Role) → Constants core role scene → Provides (record { core = core; slots = slots; role = role }) (calls core.funcs scene) scene
    provides (constant number) constants = record { enumerations = values_there; names = names; constants = constants; called = λ may. absurd (cc) }
    provides (function result) constants = all_set (λ number c e. constants number c e refl) (function result)
    provides (process exit) constants = all_set (λ number c e. constants number c e refl) (process exit)

  pub are_well : EvaluationsAreWell
  are_well scope fine known es Ts have scene w variables view ready =
      well_values laws scope (calls scope.core.funcs scene) scene (provides scope.core fine scope.slots scene ready.names scope.role ready.constants) known variables es Ts have w
      (record { names = ready.world; held = ready.held }) view ready.fits

  pub are_right : EvaluationsAreNotAmiss
  are_right core es scene variables view can =
      subst (λ core. evaluated core scene variables es view ≢ Amiss) can.is
      (not_amiss can.world (Same can.world (λ v values. AreOf v values can.kinds)) _
      (are_well can.scope can.sound can.known es can.kinds can.have scene can.world variables view can.evaluable))

halting : (m : Setting) (z : ℕ) (variables : Variables) (s : State) (answer : Answer (List Value)) → answer ≢ Amiss → Values m z variables s answer → Halts (step m) s
halting m z variables s (Gives values view) right run = (_, run)
halting m z variables s (Fails kind) right run = (_, run)
halting m z variables s Spent right run = (_, run)
halting m z variables s Amiss right run = absurd (right refl)

pub runs_end : Laws → ExpressionsRun → RunsEnd
runs_end laws law core es scene variables view can code codes a z laid stops =
    let m = in_expressions code scene in
    let ends : Halts (step m) (begun a variables view) =
    halting m z variables (begun a variables view) (evaluated core scene variables es view) (are_right laws core es scene variables view can)
    (law core code codes scene es a z laid stops variables view) in
    (ends, λ s way. never_stuck (step m) s (halts_along (step m) (begun a variables view) s way ends))

pub constants_can : ConstantsCanBeEvaluated
constants_can core fine number c e scene names before w same view fits = record {
  scope = constant_scope core number;
  is = refl;
  sound = fine;
  known = nothing_known;
  kinds = kind_of c.ty ∷ [];
  have = one_expression c.value [] (kind_of c.ty) [] (fine.constants number c e).value no_expression;
  world = w;
  evaluable = record {
    names = names;
    world = same;
    constants = λ other d there may. before other d there (ltb-true other number may);
    held = record { sized = refl; each = λ slot known. absurd (cc) };
    fits = fits;
  };
}
