-- The end of a run is what the expressions come to.
use Rattle.std.proofs.Common.{◌≡◌, ◌≢◌, ℕ, ℤ, Bool, pos, ◌<◌, List, [], ◌∷◌, ◌++◌, reverse, length, refl, sym, ap, subst, ◌∙◌, arith}
use Rattle.std.proofs.lemmas.List.{reverse-reverse, length-reverse}
use Rattle.chi_value.specs.declared.value.Value.{Value}
use Rattle.chi_core.specs.declared.expression.CExpr.{CExpr}
use Rattle.chi_core.specs.declared.fault.FaultKind.{FaultKind}
use Rattle.chi_core.specs.declared.program.ConstDef.{ConstDef}
use Rattle.chi_core.specs.declared.program.Core.{Core}
use Rattle.chi_core.specs.declared.scene.Scene.{Scene}
use Rattle.chi_core.specs.declared.view.View.{View}
use Rattle.chi_core.specs.Answer.{Answer, Gives, Fails, Spent, Amiss, giving}
use Rattle.chi_core.specs.Beginning.{constant_scene, constant_view, constant_value}
use Rattle.chi_core.specs.Variables.{Variables}
use Rattle.chi_code.specs.declared.code.Code.{Code}
use Rattle.chi_core_frame.specs.declared.stop.Stop.{Stop}
use Rattle.chi_core_frame.specs.declared.stop.Stop.TheVariants as stop
use Rattle.chi_exec_law.specs.Runs.{Rests, Faults, Spends, Reaches, Halts}
use Rattle.chi_exec_law.specs.State.{State, state, frame_of}
use Rattle.chi_exec_law.specs.Machine.{Setting, in_expressions, step}
use Rattle.chi_exec_law.specs.Laws.{evaluated, begun, Values}
use Rattle.chi_exec_law.proofs.Ends.{ends_alike}
use Rattle.chi_exec_law.proofs.Stated.{expressions_run, constants_run}
use Rattle.chi_core_frame.specs.Stops.{Stops}
use Rattle.chi_exec_steps.specs.declared.machinery.Machine.{Machine}
use Rattle.chi_exec_steps.specs.Views.{state_of}
use Rattle.chi_exec.specs.Evaluations.{scene_in, Stretch, Ready}
use Rattle.chi_exec.specs.declared.evaluating.Outlook.{Outlook}
use Rattle.chi_value.specs.declared.names.Names.{Names}
use Rattle.chi_exec.specs.Constants.{ConstantAt, ConstantReady, Sets}
use Rattle.chi_exec.specs.Ends.{EndedAt}

module _ (m : Setting) where
  halting : (z : ℕ) (variables : Variables) (s : State) (o : Answer (List Value)) → o ≢ Amiss → Values m z variables s o → Halts (step m) s
  halting z variables s (Gives xs view) h v = (_, v)
  halting z variables s (Fails kind) h v = (_, v)
  halting z variables s Spent h v = (_, v)
  halting z variables s Amiss h v = absurd (h refl)

  -- the machine rests: these are the values, and this is left
  record Told (o : Answer (List Value)) (z : ℕ) (variables : Variables) (t : State) : Type 0 where
    gives : o ≡ Gives (reverse t.stack) t.view
    there : t.at ≡ z
    same : t.frame.variables ≡ variables

  told_by : (z : ℕ) (variables : Variables) (xs : List Value) (view : View) (t : State) → Rests t ≡ Rests (state z (reverse xs) (frame_of variables []) [] view) → Told (Gives xs view) z variables t
  told_by z variables xs view t e =
      let same : t ≡ state z (reverse xs) (frame_of variables []) [] view = cc in
      let stacks : t.stack ≡ reverse xs = ap (λ (s : State). s.stack) same in
      let views : t.view ≡ view = ap (λ (s : State). s.view) same in
      let values : reverse t.stack ≡ xs = ap reverse stacks ∙ reverse-reverse xs in
      record { gives = λ j. Gives (sym values j) (sym views j); there = ap (λ (s : State). s.at) same; same = ap (λ (s : State). s.frame.variables) same }

  told : (z : ℕ) (variables : Variables) (s : State) (o : Answer (List Value)) → o ≢ Amiss → Values m z variables s o → (t : State) → Reaches (step m) s (Rests t) → Told o z variables t
  told z variables s (Gives xs view) h v t r = told_by z variables xs view t (ends_alike (step m) s _ _ r v)
  told z variables s (Fails kind) h v t r = let e = ends_alike (step m) s _ _ r v in absurd cc
  told z variables s Spent h v t r = let e = ends_alike (step m) s _ _ r v in absurd cc
  told z variables s Amiss h v t r = absurd (h refl)

  faulted : (z : ℕ) (variables : Variables) (s : State) (o : Answer (List Value)) → o ≢ Amiss → Values m z variables s o → (kind : FaultKind) → Reaches (step m) s (Faults kind) → o ≡ Fails kind
  faulted z variables s (Gives xs view) h v kind r = let e = ends_alike (step m) s _ _ r v in absurd cc
  faulted z variables s (Fails k) h v kind r = let e = ends_alike (step m) s _ _ r v in let same : kind ≡ k = cc in ap Fails (sym same)
  faulted z variables s Spent h v kind r = let e = ends_alike (step m) s _ _ r v in absurd cc
  faulted z variables s Amiss h v kind r = absurd (h refl)

  used_up : (z : ℕ) (variables : Variables) (s : State) (o : Answer (List Value)) → o ≢ Amiss → Values m z variables s o → Reaches (step m) s Spends → o ≡ Spent
  used_up z variables s (Gives xs view) h v r = let e = ends_alike (step m) s _ _ r v in absurd cc
  used_up z variables s (Fails k) h v r = let e = ends_alike (step m) s _ _ r v in absurd cc
  used_up z variables s Spent h v r = refl
  used_up z variables s Amiss h v r = absurd (h refl)

module _ (code : Code) (scene : Scene) (at : ℕ) (variables : Variables) (view : View) (s : State) (is : s ≡ begun at variables view) where
  comes_to : (core : Core) (es : List CExpr) (r : Stretch code scene at variables view core es) → Values (in_expressions code scene) r.upto variables s (evaluated core scene variables es view)
  comes_to core es r = subst (λ s. Values (in_expressions code scene) r.upto variables s (evaluated core scene variables es view)) (sym is)
      (expressions_run core code r.codes scene es at r.upto r.laid r.stops variables view)

  pub starts : Ready code scene at variables view → Halts (step (in_expressions code scene)) s
  starts r = halting (in_expressions code scene) r.stretch.upto variables s _ r.stretch.right (comes_to r.core r.es r.stretch)

  module _ (core : Core) (es : List CExpr) (r : Stretch code scene at variables view core es) where
    pub values_are : (t : State) → Reaches (step (in_expressions code scene)) s (Rests t) → evaluated core scene variables es view ≡ Gives (reverse t.stack) t.view
    values_are t h = (told (in_expressions code scene) r.upto variables s _ r.right (comes_to core es r) t h).gives

    pub rests_there : (t : State) → Reaches (step (in_expressions code scene)) s (Rests t) → t.at ≡ r.upto
    rests_there t h = (told (in_expressions code scene) r.upto variables s _ r.right (comes_to core es r) t h).there

    pub variables_stay : (t : State) → Reaches (step (in_expressions code scene)) s (Rests t) → t.frame.variables ≡ variables
    variables_stay t h = (told (in_expressions code scene) r.upto variables s _ r.right (comes_to core es r) t h).same

    pub stops_so : (why : Stop) → EndedAt (step (in_expressions code scene)) s why → Stops why (evaluated core scene variables es view)
    stops_so (stop.Fault kind) h = faulted (in_expressions code scene) r.upto variables s _ r.right (comes_to core es r) kind h
    stops_so stop.Spent h = used_up (in_expressions code scene) r.upto variables s _ r.right (comes_to core es r) h
    stops_so stop.NoMemory h = tt

-- what evaluations read is what is found
pub scene_found : (names : Names) (before : List Value) (o : Outlook) (clock : ℤ) (constants : List Value) (finished : List Bool) → clock ≡ o.clock → constants ≡ before → finished ≡ o.finished.items
    → record { names = names; seed = o.seed; clock = clock; constants = constants; finished = finished } ≡ scene_in names before o
scene_found names before o clock constants finished c k f = λ j. record { names = names; seed = o.seed; clock = c j; constants = k j; finished = f j }

-- The same of a machine that has been set out, where what evaluations read is written in another way.

pub list_halts : (code : Code) (found : Scene) (at : ℕ) (variables : Variables) (view : View) (s : State) (scene : Scene) → Ready code found at variables view → s ≡ begun at variables view → scene ≡ found
    → Halts (step (in_expressions code scene)) s
list_halts code found at variables view s scene r is same = subst (λ (sc : Scene). Halts (step (in_expressions code sc)) s) (sym same) (starts code found at variables view s is r)

pub list_values : (code : Code) (found : Scene) (at : ℕ) (variables : Variables) (view : View) (s : State) (scene : Scene) (core : Core) (es : List CExpr) (m : Machine) (values : List Value) (left : View)
    → Stretch code found at variables view core es → s ≡ begun at variables view → scene ≡ found → Reaches (step (in_expressions code scene)) s (Rests (state_of m)) → values ≡ m.stack.items → left ≡ m.view
    → evaluated core found variables es view ≡ Gives values left
list_values code found at variables view s scene core es m values left r is same h v l =
    values_are code found at variables view s is core es r (state_of m) (subst (λ (sc : Scene). Reaches (step (in_expressions code sc)) s (Rests (state_of m))) same h)
    ∙ (λ j. Gives ((reverse-reverse m.stack.items ∙ sym v) j) (sym l j))

pub list_rests : (code : Code) (found : Scene) (at : ℕ) (variables : Variables) (view : View) (s : State) (scene : Scene) (core : Core) (es : List CExpr) (m : Machine)
    → (r : Stretch code found at variables view core es) → s ≡ begun at variables view → scene ≡ found → Reaches (step (in_expressions code scene)) s (Rests (state_of m)) → m.at ≡ r.upto
list_rests code found at variables view s scene core es m r is same h =
    rests_there code found at variables view s is core es r (state_of m) (subst (λ (sc : Scene). Reaches (step (in_expressions code sc)) s (Rests (state_of m))) same h)

pub list_variables : (code : Code) (found : Scene) (at : ℕ) (variables : Variables) (view : View) (s : State) (scene : Scene) (m : Machine)
    → Ready code found at variables view → s ≡ begun at variables view → scene ≡ found → Reaches (step (in_expressions code scene)) s (Rests (state_of m)) → m.frame.value.variables ≡ variables
list_variables code found at variables view s scene m r is same h =
    variables_stay code found at variables view s is r.core r.es r.stretch (state_of m) (subst (λ (sc : Scene). Reaches (step (in_expressions code sc)) s (Rests (state_of m))) same h)

pub list_stops : (code : Code) (found : Scene) (at : ℕ) (variables : Variables) (view : View) (s : State) (scene : Scene) (core : Core) (es : List CExpr) (why : Stop)
    → Stretch code found at variables view core es → s ≡ begun at variables view → scene ≡ found → EndedAt (step (in_expressions code scene)) s why → Stops why (evaluated core found variables es view)
list_stops code found at variables view s scene core es why r is same h =
    stops_so code found at variables view s is core es r why (subst (λ (sc : Scene). EndedAt (step (in_expressions code sc)) s why) same h)

-- Constants.

giving_there : (a : Answer Value) → a ≢ Amiss → giving (λ v. v ∷ []) a ≢ Amiss
giving_there (Gives v view) h e = absurd cc
giving_there (Fails kind) h e = absurd cc
giving_there Spent h e = absurd cc
giving_there Amiss h e = h refl

sets_one : (a : Answer Value) (before xs : List Value) (view : View) → giving (λ v. v ∷ []) a ≡ Gives xs view → (now : List Value) → ((v : Value) → xs ≡ v ∷ [] → now ≡ before ++ v ∷ []) → Sets before now a
sets_one (Gives v view) before xs new e now h = let same : v ∷ [] ≡ xs = cc in h v (sym same)
sets_one (Fails kind) before xs new e now h = absurd cc
sets_one Spent before xs new e now h = absurd cc
sets_one Amiss before xs new e now h = absurd cc

fails_one : (a : Answer Value) (kind : FaultKind) → giving (λ v. v ∷ []) a ≡ Fails kind → a ≡ Fails kind
fails_one (Gives v view) kind e = absurd cc
fails_one (Fails k) kind e = let same : k ≡ kind = cc in ap Fails same
fails_one Spent kind e = absurd cc
fails_one Amiss kind e = absurd cc

spends_one : (a : Answer Value) → giving (λ v. v ∷ []) a ≡ Spent → a ≡ Spent
spends_one (Gives v view) e = absurd cc
spends_one (Fails k) e = absurd cc
spends_one Spent e = refl
spends_one Amiss e = absurd cc

-- one value is there
one_there : (a : Answer Value) (xs : List Value) (view : View) → giving (λ v. v ∷ []) a ≡ Gives xs view → 0 < length xs
one_there (Gives v view) xs new e = let same : v ∷ [] ≡ xs = cc in let n : 1 ≡ length xs = ap length same in omega (arith, n)
one_there (Fails kind) xs new e = absurd cc
one_there Spent xs new e = absurd cc
one_there Amiss xs new e = absurd cc

module _ (code : Code) (at seed : ℕ) (before : List Value) (s : State) (is : s ≡ begun at [] constant_view) (scene : Scene) where
  module _ (core : Core) (c : ConstDef) (r : ConstantAt code at seed before core c) (there : scene ≡ constant_scene core seed before) where
    constant_comes : Values (in_expressions code scene) r.upto [] s (giving (λ v. v ∷ []) (constant_value core seed before c))
    constant_comes =
        subst (λ (sc : Scene). Values (in_expressions code sc) r.upto [] s (giving (λ v. v ∷ []) (constant_value core seed before c))) (sym there)
        (subst (λ s. Values (in_expressions code (constant_scene core seed before)) r.upto [] s (giving (λ v. v ∷ []) (constant_value core seed before c))) (sym is)
        (constants_run code (constant_scene core seed before) c r.number at r.upto r.laid r.sets [] constant_view))

    pub constant_starts : Halts (step (in_expressions code scene)) s
    constant_starts = halting (in_expressions code scene) r.upto [] s _ (giving_there _ r.right) constant_comes

    constant_told : (t : State) → Reaches (step (in_expressions code scene)) s (Rests t) → giving (λ v. v ∷ []) (constant_value core seed before c) ≡ Gives (reverse t.stack) t.view
    constant_told t h = (told (in_expressions code scene) r.upto [] s _ (giving_there _ r.right) constant_comes t h).gives

    pub constant_rests : (t : State) → Reaches (step (in_expressions code scene)) s (Rests t) → t.at ≡ r.upto
    constant_rests t h = (told (in_expressions code scene) r.upto [] s _ (giving_there _ r.right) constant_comes t h).there

    pub constant_there : (t : State) → Reaches (step (in_expressions code scene)) s (Rests t) → 0 < length t.stack
    constant_there t h = let n : 0 < length (reverse t.stack) = one_there _ _ _ (constant_told t h) in omega (arith, n, length-reverse t.stack)

    pub constant_sets : (t : State) (v : Value) (rest now : List Value) → Reaches (step (in_expressions code scene)) s (Rests t) → reverse t.stack ≡ rest ++ v ∷ [] → now ≡ before ++ v ∷ []
        → Sets before now (constant_value core seed before c)
    constant_sets t v rest now h e n =
        sets_one _ before (reverse t.stack) t.view (constant_told t h) now (λ w is. n ∙ ap (λ v. before ++ v ∷ []) (last_same rest v w (sym e ∙ is)))
      where
        last_same : (rest : List Value) (v w : Value) → rest ++ v ∷ [] ≡ w ∷ [] → v ≡ w
        last_same [] v w e = cc
        last_same (x ∷ []) v w e = absurd cc
        last_same (x ∷ y ∷ rest) v w e = absurd cc

    pub constant_stops : (why : Stop) → EndedAt (step (in_expressions code scene)) s why → Stops why (constant_value core seed before c)
    constant_stops (stop.Fault kind) h = fails_one _ kind (faulted (in_expressions code scene) r.upto [] s _ (giving_there _ r.right) constant_comes kind h)
    constant_stops stop.Spent h = spends_one _ (used_up (in_expressions code scene) r.upto [] s _ (giving_there _ r.right) constant_comes h)
    constant_stops stop.NoMemory h = tt

-- what a constant reads, as the machine has it
abbrev pub scene_before : Code → ℕ → List Value → Scene
scene_before code seed before = record { names = code.names; seed = seed; clock = pos 0; constants = before; finished = [] }

as_meant : (code : Code) (at seed : ℕ) (before : List Value) (scene : Scene) (core : Core) (c : ConstDef) → ConstantAt code at seed before core c → scene ≡ scene_before code seed before → scene ≡ constant_scene core seed before
as_meant code at seed before scene core c r same = same ∙ (λ j. record { names = r.codes.names j; seed = seed; clock = pos 0; constants = before; finished = [] })

pub const_halts : (code : Code) (at seed : ℕ) (before : List Value) (s : State) (scene : Scene) → ConstantReady code at seed before → s ≡ begun at [] constant_view → scene ≡ scene_before code seed before
    → Halts (step (in_expressions code scene)) s
const_halts code at seed before s scene r is same =
    constant_starts code at seed before s is scene r.core r.constant r.stands (as_meant code at seed before scene r.core r.constant r.stands same)

pub const_there : (code : Code) (at seed : ℕ) (before : List Value) (s : State) (scene : Scene) (m : Machine) → ConstantReady code at seed before → s ≡ begun at [] constant_view
    → scene ≡ scene_before code seed before → Reaches (step (in_expressions code scene)) s (Rests (state_of m)) → 0 < length m.stack.items
const_there code at seed before s scene m r is same h =
    let n : 0 < length (reverse m.stack.items) = constant_there code at seed before s is scene r.core r.constant r.stands (as_meant code at seed before scene r.core r.constant r.stands same) (state_of m) h in
    omega (arith, n, length-reverse m.stack.items)

pub const_rests : (code : Code) (at seed : ℕ) (before : List Value) (s : State) (scene : Scene) (core : Core) (c : ConstDef) (m : Machine) → (r : ConstantAt code at seed before core c)
    → s ≡ begun at [] constant_view → scene ≡ scene_before code seed before → Reaches (step (in_expressions code scene)) s (Rests (state_of m)) → m.at ≡ r.upto
const_rests code at seed before s scene core c m r is same h =
    constant_rests code at seed before s is scene core c r (as_meant code at seed before scene core c r same) (state_of m) h

pub const_sets : (code : Code) (at seed : ℕ) (before : List Value) (s : State) (scene : Scene) (core : Core) (c : ConstDef) (m : Machine) (v : Value) (rest now : List Value)
    → ConstantAt code at seed before core c → s ≡ begun at [] constant_view → scene ≡ scene_before code seed before → Reaches (step (in_expressions code scene)) s (Rests (state_of m))
    → m.stack.items ≡ rest ++ v ∷ [] → now ≡ before ++ v ∷ [] → Sets before now (constant_value core seed before c)
const_sets code at seed before s scene core c m v rest now r is same h e n =
    constant_sets code at seed before s is scene core c r (as_meant code at seed before scene core c r same) (state_of m) v rest now h (reverse-reverse m.stack.items ∙ e) n

pub const_stops : (code : Code) (at seed : ℕ) (before : List Value) (s : State) (scene : Scene) (core : Core) (c : ConstDef) (why : Stop)
    → ConstantAt code at seed before core c → s ≡ begun at [] constant_view → scene ≡ scene_before code seed before → EndedAt (step (in_expressions code scene)) s why
    → Stops why (constant_value core seed before c)
const_stops code at seed before s scene core c why r is same h = constant_stops code at seed before s is scene core c r (as_meant code at seed before scene core c r same) why h
