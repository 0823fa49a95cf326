-- Calls of functions give values of their results' kinds.
use Rattle.std.proofs.Common.{◌≡◌, ◌++◌, ℕ, zero, suc, ◌-◌, ◌<◌, ◌≤◌, Bool, eq-eqb, cond, ltb-true, List, [], ◌∷◌, map, length, replicate, take, drop, Option, Some, None, refl, sym, ap, subst, ◌∙◌, arith}
use Rattle.std.proofs.lemmas.List.{length-append, length-map, length-replicate, length-take, take-append-drop}
use Rattle.std.specs.Prelude.{slice_get, IsTrue, min}
use Rattle.chi_value.specs.declared.value.Value.{Value}
use Rattle.chi_core.specs.declared.limits.TheConstants.{MOST_CALLS}
use Rattle.chi_core.specs.declared.program.Core.{Core}
use Rattle.std.specs.Option.{IsSomeAnd, option_and_then}
use Rattle.chi_core.specs.declared.program.ConstDef.{ConstDef}
use Rattle.chi_core.specs.declared.program.FuncDef.{FuncDef}
use Rattle.chi_core.specs.declared.scene.Scene.{Scene}
use Rattle.chi_core.specs.declared.statement.CStat.{out-CStat}
use Rattle.chi_core.specs.Answer.{Does, tick}
use Rattle.chi_core.specs.Config.{Running}
use Rattle.chi_core.specs.Evaluation.{Run, eval}
use Rattle.chi_core.specs.Functions.{exec, did_then, taking, callee, body_run, run_at, calls}
use Rattle.chi_core.specs.Kinded.{HoldsOf, Held, At}
use Rattle.chi_core.specs.Kinds.{Kind, kind_of, kinds_of, Every}
use Rattle.chi_core.specs.Of.{World, nowhere, IsOf, AreOf, none_of, one_of}
use Rattle.chi_core.specs.Scopes.{Home, Role, function, function_home, params_of}
use Rattle.chi_core.specs.SetSlots.{StatLayer, Known, params_known}
use Rattle.chi_core.specs.Sound.{Sound, SoundFunction}
use Rattle.chi_core.specs.SoundStatements as sound
use Rattle.chi_core.specs.SoundStatements.{SoundStat}
use Rattle.chi_core.specs.Standing.{is_within_loop, begins}
use Rattle.chi_core.specs.Terms.{Do, Term, Did, On, Returns, act}
use Rattle.chi_core.specs.Variables.{Variables, variables_of}
use Rattle.chi_core.proofs.Bodies.{exec_empty, exec_over, exec_on}
use Rattle.chi_core_kinds.specs.Laws.{WellOf}
use Rattle.chi_core_kinds.specs.Well.{Kept, Same, Well}
use Rattle.chi_core_kinds.proofs.Composing.{well_gives, well_then, well_tick}
use Rattle.chi_core_kinds.proofs.Expressions.{Provides}
use Rattle.chi_core_kinds.proofs.Operations.{Laws}
use Rattle.chi_core_kinds.proofs.Held.{held_less}
use Rattle.chi_core_kinds.proofs.Instances.{at_grows}
use Rattle.chi_core_kinds.proofs.Standings.{Ready, nothing_left, a_statement, a_loop, a_walk, ready}
use Rattle.chi_core_kinds.proofs.Statements.{Shared, DidFits, at_place, first_at, loop_test, well_walk, well_tested, well_shared}

pub are_many : (w : World) (xs : List Value) (Ts : List Kind) → AreOf w xs Ts → length xs ≡ length Ts
are_many w _ _ none_of = refl
are_many w _ _ (one_of x xs T Ts is are) = ap suc (are_many w xs Ts are)

-- the arguments stand in the first slots
first_hold : (w : World) (xs : List Value) (Ts others : List Kind) (rest : Variables) → AreOf w xs Ts → (slot : ℕ) → slot < length Ts
    → HoldsOf w (slice_get (Ts ++ others) slot) (slice_get (map Some xs ++ rest) slot)
first_hold w _ _ others rest none_of slot l = absurd (omega (arith, l))
first_hold w _ _ others rest (one_of x xs T Ts is are) zero l = is
first_hold w _ _ others rest (one_of x xs T Ts is are) (suc slot) l = first_hold w xs Ts others rest are slot (omega (arith, l))

module _ (core : Core) (f : FuncDef) (fine : SoundFunction core f) where
  abbrev home : Home
  home = function_home core f

  params_many : length (params_of f) ≡ f.arity
  params_many =
      let taken : length (take f.arity (kinds_of f.slots)) ≡ min f.arity (length (kinds_of f.slots)) = length-take f.arity (kinds_of f.slots) in
      let all : length (kinds_of f.slots) ≡ length f.slots = length-map f.slots kind_of in
      let few : f.arity ≤ length f.slots = fine.arity in
      omega (arith, taken, all, few)

  -- the beginning of the body, with arguments
  at_beginning : (w : World) (xs : List Value) → AreOf w xs (params_of f) → At w home (variables_of (length f.slots) xs) (map Do f.body) Running
  at_beginning w xs are = at_place home w (variables_of (length f.slots) xs) (params_known home) f.body [] begins tt (record { sized = sizes; each = each })
    where
      others : List Kind
      others = drop f.arity (kinds_of f.slots)

      each : (slot : ℕ) → IsTrue (params_known home slot) → HoldsOf w (slice_get home.scope.slots slot) (slice_get (variables_of (length f.slots) xs) slot)
      each slot known =
          subst (λ Ts. HoldsOf w (slice_get Ts slot) (slice_get (variables_of (length f.slots) xs) slot)) (take-append-drop f.arity (kinds_of f.slots))
          (first_hold w xs (params_of f) others (replicate (length f.slots - length xs) None) are slot (ltb-true slot (length (params_of f)) known))

      sizes : length (variables_of (length f.slots) xs) ≡ length (kinds_of f.slots)
      sizes =
          let joined = length-append (map (λ (x : Value). Some x) xs) (replicate (length f.slots - length xs) None) in
          let arguments = length-map xs (λ (x : Value). Some x) in
          let none : Option Value = None in
          let unset = length-replicate (length f.slots - length xs) none in
          let all : length (kinds_of f.slots) ≡ length f.slots = length-map f.slots kind_of in
          let many = are_many w xs (params_of f) are in
          let params = params_many in
          let few : f.arity ≤ length f.slots = fine.arity in
          omega (arith, joined, arguments, unset, all, many, params, few)

  role_tells : (T : Kind) → home.scope.role ≡ function T → T ≡ kind_of f.result
  role_tells T e = cc (sym e)

  -- a function has no other statements
  all_shared : (T : Kind) → home.scope.role ≡ function T → (loop : Bool) (known : Known) (s : StatLayer) → SoundStat home.scope loop known s → Shared s
  all_shared T is _ _ _ (sound.exits _ _ line e exit role h) = absurd (cc)
  all_shared T is _ _ _ (sound.writes _ _ line pieces es exit Ts role h show) = absurd (cc)
  all_shared T is _ _ _ (sound.selects _ _ line alternatives exit role h) = absurd (cc)
  all_shared T is _ _ _ (sound.runs _ _ line elements exit role h) = absurd (cc)
  all_shared T is _ _ _ (sound.starts _ _ line elements exit role h) = absurd (cc)
  all_shared T is _ _ _ (sound.finishes _ _ line es exit role h) = absurd (cc)
  all_shared T is _ _ _ _ = tt

  module _ (laws : Laws) (run : Run) (scene : Scene) (provides : Provides home.scope run scene) where
    abbrev Result : World → Value → Type 0
    Result v = IsOf v (kind_of f.result)

    -- the first item of a term, if there is one, does well
    abbrev FirstWell : World → Variables → Term → Type 0
    FirstWell w variables [] = Unit {0}
    FirstWell w variables (item ∷ term) = Well w (DidFits home) (act (eval run scene variables) variables item term)

    well_first : (w : World) (variables : Variables) (known : Known) (term : Term) → w.names ≡ core.names.kinds → Ready home w known term → Held w home.scope known variables → FirstWell w variables term
    well_first w variables known _ names nothing_left held = tt
    well_first w variables known _ names (a_statement outer x rest frames p within walks) held =
        let s : SoundStat home.scope (is_within_loop frames) outer (out-CStat x) = first_at home fine.home outer x rest frames p in
        well_shared laws home run scene provides outer x rest frames p variables (is_within_loop frames) (out-CStat x) s refl refl
        (all_shared (kind_of f.result) refl (is_within_loop frames) outer (out-CStat x) s) w (record { names = names; held = held_less w home.scope outer known variables within held }) walks
    well_first w variables known _ names (a_loop line test block rest frames b walks) held =
        well_tested laws home run scene provides b.outer b.x rest frames b.place variables line test block b.is (loop_test home (is_within_loop frames) b.outer line test block
        (subst (SoundStat home.scope (is_within_loop frames) b.outer) b.is (first_at home fine.home b.outer b.x rest frames b.place)))
        w (record { names = names; held = held_less w home.scope b.outer known variables b.within held }) walks
    well_first w variables known _ names (a_walk line slots elements container block rest frames b fit) held =
        well_walk home w known variables line slots elements container block rest frames b fit held

    well_at : (w : World) (variables : Variables) (term : Term) → w.names ≡ core.names.kinds → At w home variables term Running → FirstWell w variables term
    well_at w variables term names at =
        well_first w variables at.known term names (subst (Ready home w at.known) (sym at.left) (ready home w at.known at.rest at.frames at.place at.walks)) at.held

    -- what follows an item, where the rest does well
    well_did : (next : Variables → Term → Does Value) (w : World) (did : Did) → ((after : Variables) (term : Term) → At w home after term Running → Well w Result (next after term))
        → DidFits home w did → Well w Result (did_then next did)
    well_did next w (On after term) well fit = well after term fit
    well_did next w (Returns v) well fit = well_gives w Result v (subst (λ T. IsOf w T v) (role_tells fit.0 fit.1) fit.2)

    well_exec : (n : ℕ) (w : World) (variables : Variables) (term : Term) → w.names ≡ core.names.kinds → At w home variables term Running → Well w Result (exec n run scene variables term)
    well_exec n w variables [] names at view fits = subst (Kept w (Same w Result)) (sym (exec_empty run scene variables n view)) tt
    well_exec zero w variables (item ∷ rest) names at view fits =
        subst (Kept w (Same w Result)) (sym (exec_over run scene variables view zero item (item ∷ rest) rest refl refl)) tt
    well_exec (suc n) w variables (item ∷ rest) names at view fits =
        subst (Kept w (Same w Result)) (sym (exec_on run scene variables n item rest view))
        (well_then w (λ v x. Unit {0}) Result _
        (λ v wider same ticked is. well_then v (DidFits home) Result (did_then (exec n run scene))
        (λ u wider' same' did fit. well_did (exec n run scene) u did (λ after term at. well_exec n u after term (wider'.names ∙ wider.names ∙ names) at) fit)
        (act (eval run scene variables) variables item rest)
        (well_at v variables (item ∷ rest) (wider.names ∙ names) (at_grows w v wider home variables (item ∷ rest) Running at)))
        tick (well_tick w) view fits)

    well_body : (w : World) (xs : List Value) → w.names ≡ core.names.kinds → AreOf w xs (params_of f) → Well w Result (body_run run scene (Some f) xs)
    well_body w xs names are view fits = well_exec view.left w (variables_of (length f.slots) xs) (map Do f.body) names (at_beginning w xs are) view fits

    -- the function is found where it takes so many arguments
    found : (number : ℕ) → slice_get core.funcs number ≡ Some f → (w : World) (xs : List Value) → AreOf w xs (params_of f) → callee core.funcs number (length xs) ≡ Some f
    found number e w xs are =
        ap (option_and_then (taking (length xs))) e
        ∙ ap (λ b. cond b (Some f) None) (eq-eqb (length xs) f.arity (are_many w xs (params_of f) are ∙ params_many))

    well_called : (w : World) (number : ℕ) (xs : List Value) → w.names ≡ core.names.kinds → slice_get core.funcs number ≡ Some f → AreOf w xs (params_of f)
        → Well w Result (body_run run scene (callee core.funcs number (length xs)) xs)
    well_called w number xs names e are = subst (λ o. Well w Result (body_run run scene o xs)) (sym (found number e w xs are)) (well_body w xs names are)

-- What calls rest on: the constants, and that each enumeration has a value.
pub record SceneFits (core : Core) (scene : Scene) : Type 0 where
  pub enumerations : Every (λ names. 0 < length names) core.names.kinds
  pub names : scene.names.kinds ≡ core.names.kinds
  pub constants : (number : ℕ) (c : ConstDef) → slice_get core.consts number ≡ Some c → IsSomeAnd (slice_get scene.constants number) (IsOf (nowhere core.names.kinds) (kind_of c.ty))

abbrev pub CallsWell : Core → Run → Type 0
CallsWell core run =
    (w : World) → w.names ≡ core.names.kinds → (number : ℕ) (f : FuncDef) → slice_get core.funcs number ≡ Some f → (xs : List Value) → AreOf w xs (params_of f) → WellOf w (kind_of f.result) (run number xs)

pub provided : (core : Core) (slots : List Kind) (role : Role) (scene : Scene) (run : Run) → SceneFits core scene → CallsWell core run
    → Provides (record { core = core; slots = slots; role = role }) run scene
provided core slots role scene run rests well = record {
  enumerations = rests.enumerations;
  names = rests.names;
  constants = λ number c e may. rests.constants number c e;
  called = λ may. well;
}

calls_at : (laws : Laws) (core : Core) → Sound core → (scene : Scene) → SceneFits core scene → (more : ℕ) → CallsWell core (run_at more core.funcs scene)
unfolding run_at
calls_at laws core fine scene rests zero = λ w names number f e xs are view fits. tt
calls_at laws core fine scene rests (suc more) = λ w names number f e xs are view fits.
    well_called core f (fine.functions number f e) laws (run_at more core.funcs scene) scene
    (provided core (kinds_of f.slots) (function (kind_of f.result)) scene (run_at more core.funcs scene) rests (calls_at laws core fine scene rests more)) w number xs names e are view fits

-- calls from outside of all functions
pub calls_well : (laws : Laws) (core : Core) → Sound core → (scene : Scene) → SceneFits core scene → CallsWell core (calls core.funcs scene)
calls_well laws core fine scene rests = calls_at laws core fine scene rests MOST_CALLS
