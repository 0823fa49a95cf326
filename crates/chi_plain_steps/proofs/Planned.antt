-- What an own statement of a process comes to, and what an item does that functions have too.
use Rattle.std.proofs.Common.{◌≡◌, ℕ, ℤ, List, [], ◌∷◌, Option, Some, None, Bool, true, false, map, sym, ◌∙◌, ap, refl}
use Rattle.std.specs.Prelude.{drop, slice_set}
use Rattle.std.specs.List.{slice_get}
use Rattle.chi_value.specs.declared.format.Piece.{Piece}
use Rattle.chi_value.specs.declared.value.Value.{Value}
use Rattle.chi_core.specs.declared.element.CElem.{CElem}
use Rattle.chi_core.specs.declared.expression.CExpr.{CExpr}
use Rattle.chi_core.specs.declared.program.Core.{Core}
use Rattle.chi_core.specs.declared.program.ProcDef.{ProcDef}
use Rattle.chi_core.specs.declared.statement.Branch.{Branch}
use Rattle.chi_core.specs.declared.statement.CAlt.{CAlt}
use Rattle.chi_core.specs.declared.statement.CStat.{CStat, CStat-F, out-CStat}
use Rattle.chi_core.specs.declared.statement.CStat.TheVariants as stat
use Rattle.chi_core.specs.declared.view.View.{View}
use Rattle.chi_core.specs.Answer.{Answer, Gives, Fails, Spent, Amiss, Does, then_do, wanted, giving, in_turn}
use Rattle.chi_core.specs.Config.{Config, Instance, settled, has_finished, with_instance, scene_of, value_in}
use Rattle.chi_core.specs.declared.scene.Scene.{Scene}
use Rattle.chi_core.specs.Evaluation.{Evaluates, eval}
use Rattle.chi_core.specs.Functions.{calls}
use Rattle.chi_core.specs.Opening.{opened}
use Rattle.chi_core.specs.Performing.{Exits, quietly, written, within_text, exits_with, exited, all_named, came_to, performed_stat, performed}
use Rattle.chi_core.specs.Reading.{quoted_in}
use Rattle.chi_core.specs.Starting.{all_started}
use Rattle.chi_core.specs.Terms.{Do, Loop, Walk, Term, Did, On, Returns, act_stat, act}
use Rattle.chi_core.specs.Variables.{Variables}
use Rattle.chi_plain_eval.specs.declared.surroundings.Surroundings.{Surroundings}
use Rattle.chi_plain_eval.specs.Surroundings as surroundings
use Rattle.chi_plain_eval.specs.Surroundings.{scene_in}
use Rattle.chi_core_frame.specs.Terms.{first_of}
use Rattle.chi_plain_eval.specs.Terms.{act_first}
use Rattle.chi_plain_open.specs.Instances.{rest_of}
use Rattle.chi_plain_steps.specs.Plans.{Plan, Writes, Leaves, Waits, Runs, Starts, Joins, leaves_with, left_with, is_own, planned, change_of, performed_at, own_in, own_of}
use Rattle.chi_plain_open.specs.Acted.{acted, went_on}

giving-giving : {A B C : Type 0} (g : B → C) (f : A → B) (it : Answer A) → giving g (giving f it) ≡ giving (λ x. g (f x)) it
giving-giving g f (Gives x view) = refl
giving-giving g f (Fails kind) = refl
giving-giving g f Spent = refl
giving-giving g f Amiss = refl

giving-then : {A B C : Type 0} (g : B → C) (it : Answer A) (next : A → Does B) → giving g (then_do it next) ≡ then_do it (λ x now. giving g (next x now))
giving-then g (Gives x view) next = refl
giving-then g (Fails kind) next = refl
giving-then g Spent next = refl
giving-then g Amiss next = refl

-- what a statement comes to, with its parts as lists
module _ (core : Core) (evaluates : Variables → Evaluates) (clock : ℤ) (variables : Variables) (view : View) (s : CStat) where
  abbrev plans : Answer Plan
  plans = planned core evaluates clock variables (out-CStat s) view

  at_layer : (layer : CStat-F CAlt CStat Branch) → out-CStat s ≡ layer → plans ≡ planned core evaluates clock variables layer view
  at_layer layer e = ap (λ l. planned core evaluates clock variables l view) e

  pub planned_write : (line : ℕ) (pieces now : List Piece) (values these : List CExpr) → s ≡ stat.Write line pieces values → now ≡ pieces → these ≡ values
      → plans ≡ giving Writes (written core (evaluates variables) now these view)
  planned_write line pieces now values these is same alike =
      at_layer (CStat-F.Write line pieces values) (ap out-CStat is ∙ stat.outs-Write line pieces values)
      ∙ (λ k. giving Writes (written core (evaluates variables) (sym same k) (sym alike k) view))

  pub planned_exit : (line : ℕ) (e : Option CExpr) → s ≡ stat.Exit line e → plans ≡ giving Leaves (left_with core (evaluates variables) e view)
  planned_exit line e is = at_layer (CStat-F.Exit line e) (ap out-CStat is ∙ stat.outs-Exit line e)

  pub planned_select : (line : ℕ) (alternatives now : List CAlt) → s ≡ stat.Select line alternatives → now ≡ alternatives
      → plans ≡ giving Waits (opened evaluates clock variables now view)
  planned_select line alternatives now is same =
      at_layer (CStat-F.Select line alternatives) (ap out-CStat is ∙ stat.outs-Select line alternatives)
      ∙ ap (λ l. giving Waits (opened evaluates clock variables l view)) (sym same)

  pub planned_run : (line : ℕ) (elements now : List CElem) → s ≡ stat.Run line elements → now ≡ elements
      → plans ≡ giving Runs (all_started evaluates core.procs variables now view)
  planned_run line elements now is same =
      at_layer (CStat-F.Run line elements) (ap out-CStat is ∙ stat.outs-Run line elements)
      ∙ ap (λ l. giving Runs (all_started evaluates core.procs variables l view)) (sym same)

  pub planned_start : (line : ℕ) (elements now : List CElem) → s ≡ stat.Start line elements → now ≡ elements
      → plans ≡ giving Starts (all_started evaluates core.procs variables now view)
  planned_start line elements now is same =
      at_layer (CStat-F.Start line elements) (ap out-CStat is ∙ stat.outs-Start line elements)
      ∙ ap (λ l. giving Starts (all_started evaluates core.procs variables l view)) (sym same)

  pub planned_finish : (line : ℕ) (expressions now : List CExpr) → s ≡ stat.Finish line expressions → now ≡ expressions
      → plans ≡ then_do (in_turn (map (evaluates variables) now) view) (λ values now. giving Joins (all_named [] values now))
  planned_finish line expressions now is same =
      at_layer (CStat-F.Finish line expressions) (ap out-CStat is ∙ stat.outs-Finish line expressions)
      ∙ ap (λ l. then_do (in_turn (map (evaluates variables) l) view) (λ values now. giving Joins (all_named [] values now))) (sym same)

pub ruleset planning = (planned_write, planned_exit, planned_select, planned_run, planned_start, planned_finish)

-- what an own statement does
module _ (core : Core) (config : Config) (p : ℕ) (i : Instance) (view : View) where
  abbrev plan : CStat-F CAlt CStat Branch → Answer Plan
  plan layer = planned core (value_in core config) config.clock i.variables layer view

  exits_is : (v : Value) (now : View) → exits_with core v now ≡ giving Exits (leaves_with core v now)
  exits_is v now = by_text (quoted_in core.names.kinds v)
    where
      by_text : (o : Option (List ℕ)) → then_do (wanted o now) (λ text new. giving (λ text. Exits (Some v)) (within_text text new))
          ≡ giving Exits (then_do (wanted o now) (λ text new. giving (λ text. Some v) (within_text text new)))
      by_text None = refl
      by_text (Some text) = sym (giving-giving Exits (λ text. Some v) (within_text text now))

  exited_is : (e : Option CExpr) → exited core (value_in core config i.variables) e view ≡ giving Exits (left_with core (value_in core config i.variables) e view)
  exited_is None = refl
  exited_is (Some e) =
      (λ k. then_do (value_in core config i.variables e view) (λ v now. exits_is v now k))
      ∙ sym (giving-then Exits (value_in core config i.variables e view) (leaves_with core))

  own_layer : (layer : CStat-F CAlt CStat Branch) → is_own layer ≡ true → performed_stat core config p i layer view ≡ giving (change_of core config p i) (plan layer)
  own_layer (CStat-F.Write line pieces values) e = sym (giving-giving (change_of core config p i) Writes (written core (value_in core config i.variables) pieces values view))
  own_layer (CStat-F.Exit line x) e = exited_is x ∙ sym (giving-giving (change_of core config p i) Leaves (left_with core (value_in core config i.variables) x view))
  own_layer (CStat-F.Select line alternatives) e =
      sym (giving-giving (change_of core config p i) Waits (opened (value_in core config) config.clock i.variables alternatives view))
  own_layer (CStat-F.Run line elements) e =
      sym (giving-giving (change_of core config p i) Runs (all_started (value_in core config) core.procs i.variables elements view))
  own_layer (CStat-F.Start line elements) e =
      sym (giving-giving (change_of core config p i) Starts (all_started (value_in core config) core.procs i.variables elements view))
  own_layer (CStat-F.Finish line expressions) e =
      (λ k. then_do (in_turn (map (value_in core config i.variables) expressions) view) (λ values now. sym (giving-giving (change_of core config p i) Joins (all_named [] values now)) k))
      ∙ sym (giving-then (change_of core config p i) (in_turn (map (value_in core config i.variables) expressions) view) (λ values now. giving Joins (all_named [] values now)))
  own_layer (CStat-F.Declare line slot e') e = absurd (cc)
  own_layer (CStat-F.Assign line targets values) e = absurd (cc)
  own_layer (CStat-F.If line branches otherwise) e = absurd (cc)
  own_layer (CStat-F.While line test block) e = absurd (cc)
  own_layer (CStat-F.For line slots e' block) e = absurd (cc)
  own_layer (CStat-F.Break line) e = absurd (cc)
  own_layer (CStat-F.Continue line) e = absurd (cc)
  own_layer (CStat-F.Pass line) e = absurd (cc)
  own_layer (CStat-F.Return line e') e = absurd (cc)

  shared_layer : (layer : CStat-F CAlt CStat Branch) → is_own layer ≡ false
      → performed_stat core config p i layer view ≡ then_do (act_stat (value_in core config i.variables) i.variables layer i.term view) (came_to core config p i)
  shared_layer (CStat-F.Write line pieces values) e = absurd (cc)
  shared_layer (CStat-F.Exit line x) e = absurd (cc)
  shared_layer (CStat-F.Select line alternatives) e = absurd (cc)
  shared_layer (CStat-F.Run line elements) e = absurd (cc)
  shared_layer (CStat-F.Start line elements) e = absurd (cc)
  shared_layer (CStat-F.Finish line expressions) e = absurd (cc)
  shared_layer (CStat-F.Declare line slot e') e = refl
  shared_layer (CStat-F.Assign line targets values) e = refl
  shared_layer (CStat-F.If line branches otherwise) e = refl
  shared_layer (CStat-F.While line test block) e = refl
  shared_layer (CStat-F.For line slots e' block) e = refl
  shared_layer (CStat-F.Break line) e = refl
  shared_layer (CStat-F.Continue line) e = refl
  shared_layer (CStat-F.Pass line) e = refl
  shared_layer (CStat-F.Return line e') e = refl

own_first : (term : Term) (s : CStat) → own_of term ≡ Some s → (first_of term ≡ Some (Do s)) × (is_own (out-CStat s) ≡ true)
own_first [] s e = absurd (cc)
own_first (Do x ∷ term) s e = by_test (is_own (out-CStat x)) refl e
  where
    by_test : (t : Bool) → is_own (out-CStat x) ≡ t → own_in x t ≡ Some s → (first_of (Do x ∷ term) ≡ Some (Do s)) × (is_own (out-CStat s) ≡ true)
    by_test true own e = let same : x ≡ s = cc in (ap (λ y. Some (Do y)) same, ap (λ y. is_own (out-CStat y)) (sym same) ∙ own)
    by_test false own e = absurd (cc)
own_first (Loop line test block ∷ term) s e = absurd (cc)
own_first (Walk line slots elements block ∷ term) s e = absurd (cc)

not_own : (x : CStat) → own_in x (is_own (out-CStat x)) ≡ None → is_own (out-CStat x) ≡ false
not_own x e = by_test (is_own (out-CStat x)) e
  where
    by_test : (t : Bool) → own_in x t ≡ None → t ≡ false
    by_test true e = absurd (cc)
    by_test false e = refl

-- an item that functions have too
module _ (core : Core) (config : Config) (p : ℕ) (i : Instance) (view : View) where
  on_with : (m : Answer Did) → then_do m (came_to core config p (rest_of i)) ≡ giving (λ j. quietly (with_instance config p j)) (then_do m (went_on i))
  on_with (Gives (On variables term) now) = refl
  on_with (Gives (Returns v) now) = refl
  on_with (Fails kind) = refl
  on_with Spent = refl
  on_with Amiss = refl

  shared_term : (term : Term) → i.term ≡ term → own_of term ≡ None
      → then_do (wanted (first_of term) view) (performed core config p (rest_of i))
      ≡ giving (λ j. quietly (with_instance config p j)) (then_do (act_first (value_in core config i.variables) i.variables term view) (went_on i))
  shared_term [] is e = refl
  shared_term (Do x ∷ rest) is e =
      shared_layer core config p (rest_of i) view (out-CStat x) (not_own x e)
      ∙ ap (λ t. then_do (act (value_in core config i.variables) i.variables (Do x) t view) (came_to core config p (rest_of i))) (ap (drop 1) is)
      ∙ on_with (act (value_in core config i.variables) i.variables (Do x) rest view)
  shared_term (Loop line test block ∷ rest) is e =
      ap (λ t. then_do (act (value_in core config i.variables) i.variables (Loop line test block) t view) (came_to core config p (rest_of i))) (ap (drop 1) is)
      ∙ on_with (act (value_in core config i.variables) i.variables (Loop line test block) rest view)
  shared_term (Walk line slots elements block ∷ rest) is e =
      ap (λ t. then_do (act (value_in core config i.variables) i.variables (Walk line slots elements block) t view) (came_to core config p (rest_of i))) (ap (drop 1) is)
      ∙ on_with (act (value_in core config i.variables) i.variables (Walk line slots elements block) rest view)

-- with the surroundings by which an instance evaluates
module _ (core : Core) (config : Config) (p : ℕ) (i : Instance) (view : View) (s : Surroundings) (at : slice_get config.instances p ≡ Some i) (sees : scene_in s ≡ scene_of core config)
    (functions : s.functions.now ≡ core.funcs) where
  evaluates : surroundings.value_in s ≡ value_in core config
  evaluates = λ k variables. eval (calls (functions k) (sees k)) (sees k) variables

  pub seen_own : (x : CStat) (variables : Variables) → own_of i.term ≡ Some x → variables ≡ i.variables
      → performed_at core config p view ≡ giving (change_of core config p (rest_of i)) (planned core (surroundings.value_in s) s.clock variables (out-CStat x) view)
  seen_own x variables own same =
      let f = own_first i.term x own in
      let clock : s.clock ≡ config.clock = ap (λ (scene : Scene). scene.clock) sees in
      ap (λ o. then_do (wanted o view) (λ i now. then_do (wanted (first_of i.term) now) (performed core config p (rest_of i)))) at
      ∙ ap (λ o. then_do (wanted o view) (performed core config p (rest_of i))) f.0
      ∙ own_layer core config p (rest_of i) view (out-CStat x) f.1
      ∙ (λ k. giving (change_of core config p (rest_of i)) (planned core (sym evaluates k) (sym clock k) (sym same k) (out-CStat x) view))

  pub seen_shared : own_of i.term ≡ None
      → performed_at core config p view ≡ giving (λ j. quietly (with_instance config p j)) (acted (surroundings.value_in s) i view)
  seen_shared none =
      ap (λ o. then_do (wanted o view) (λ i now. then_do (wanted (first_of i.term) now) (performed core config p (rest_of i)))) at
      ∙ shared_term core config p i view i.term refl none
      ∙ (λ k. giving (λ j. quietly (with_instance config p j)) (acted (sym evaluates k) i view))

-- the instance settles after it
pub shared_gives : (config : Config) (p : ℕ) (m : Answer Instance) (k : Instance) (now : View) → giving settled m ≡ Gives k now
    → giving (λ j. quietly (with_instance config p j)) m ≡ Gives (quietly (record config { instances = slice_set config.instances p k })) now
shared_gives config p (Gives j view) k now e =
    let same : settled j ≡ k = cc in
    let alike : view ≡ now = cc in
    (λ i. Gives (quietly (record config { instances = slice_set config.instances p (same i) })) (alike i))
shared_gives config p (Fails kind) k now e = absurd (cc)
shared_gives config p Spent k now e = absurd (cc)
shared_gives config p Amiss k now e = absurd (cc)

-- what is read there
pub scene_is : (core : Core) (config : Config) (s : Scene) (clock : ℤ) (constants : List Value) (finished : List Bool)
    → s ≡ record { names = core.names; seed = config.seed; clock = clock; constants = constants; finished = finished } → clock ≡ config.clock → constants ≡ config.constants
    → finished ≡ map has_finished config.instances → s ≡ scene_of core config
scene_is core config s clock constants finished is same alike flags =
    is ∙ (λ k. record { names = core.names; seed = config.seed; clock = same k; constants = alike k; finished = flags k })

-- with the processes as a list
module _ (core : Core) (evaluates : Variables → Evaluates) (clock : ℤ) (variables : Variables) (view : View) (s : CStat) where
  pub planned_run_by : (line : ℕ) (elements now : List CElem) (procs : List ProcDef) → s ≡ stat.Run line elements → now ≡ elements → procs ≡ core.procs
      → planned core evaluates clock variables (out-CStat s) view ≡ giving Runs (all_started evaluates procs variables now view)
  planned_run_by line elements now procs is same alike =
      planned_run core evaluates clock variables view s line elements now is same ∙ ap (λ ps. giving Runs (all_started evaluates ps variables now view)) (sym alike)

  pub planned_start_by : (line : ℕ) (elements now : List CElem) (procs : List ProcDef) → s ≡ stat.Start line elements → now ≡ elements → procs ≡ core.procs
      → planned core evaluates clock variables (out-CStat s) view ≡ giving Starts (all_started evaluates procs variables now view)
  planned_start_by line elements now procs is same alike =
      planned_start core evaluates clock variables view s line elements now is same ∙ ap (λ ps. giving Starts (all_started evaluates ps variables now view)) (sym alike)
