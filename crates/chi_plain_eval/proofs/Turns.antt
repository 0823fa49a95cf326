-- Calls, and the turns of a body.
use Rattle.std.proofs.Common.{◌≡◌, ◌≢◌, ℕ, ◌-◌, ◌+◌, ◌<◌, ◌≤◌, Bool, true, false, List, [], ◌∷◌, Option, Some, None, length, map, drop, refl, sym, ap, ◌∙◌, subst, arith, IsTrue, ◌↔◌}
use Rattle.chi_value.specs.declared.value.Value.{Value}
use Rattle.chi_core.specs.declared.fault.FaultKind.TheVariants.{CallDepth, NoReturn}
use Rattle.chi_core.specs.declared.program.FuncDef.{FuncDef}
use Rattle.chi_core.specs.declared.statement.CStat.{CStat}
use Rattle.chi_core.specs.declared.scene.Scene.{Scene}
use Rattle.chi_core.specs.declared.view.View.{View}
use Rattle.chi_core.specs.Answer.{Answer, Gives, Fails, Spent, Amiss, then_do}
use Rattle.chi_core.specs.Variables.{Variables, variables_of}
use Rattle.chi_core.specs.Evaluation.{Run, eval, Evaluates}
use Rattle.chi_core.specs.Terms.{Item, Do, Term, act}
use Rattle.chi_core.specs.Functions.{exec, run_at, callee, did_then}
use Rattle.chi_core.proofs.Bodies.{run_none, run_lost, run_found, exec_none, exec_over, exec_spent, exec_turn}
use Rattle.chi_plain_eval.specs.declared.calls.Calls.{Calls}
use Rattle.chi_plain_eval.specs.declared.calls.Calls.TheVariants.{Never, Within}
use Rattle.chi_core_frame.specs.declared.stop.Stop.{Stop}
use Rattle.chi_plain_eval.specs.declared.surroundings.Surroundings.{Surroundings}
use Rattle.chi_plain_eval.specs.Calls.{run_of}
use Rattle.chi_core_frame.specs.Stops.{Stops}
use Rattle.chi_plain_eval.specs.Surroundings.{scene_in}
use Rattle.chi_core_frame.specs.Terms.{first_of}
use Rattle.chi_plain_eval.specs.Terms.{act_first, came_to}
use Rattle.chi_core_frame.proofs.Stopping.{then_stops, then_there}

module _ (calls : Calls) (s : Surroundings) (k : ℕ) (arguments : List Value) (view : View) where
  pub never_called : calls ≡ Never → run_of calls s k arguments view ≢ Amiss → ⊥
  unfolding run_of
  never_called e h = h (ap (λ c. run_of c s k arguments view) e)

  pub too_deep : (more : ℕ) → calls ≡ Within more → more ≡ 0 → run_of calls s k arguments view ≡ Fails CallDepth
  unfolding run_of
  too_deep more e z = ap (λ c. run_of c s k arguments view) e ∙ run_none s.functions.now (scene_in s) k arguments view more z

  by_functions : (more : ℕ) → calls ≡ Within more → run_of calls s k arguments view ≡ run_at more s.functions.now (scene_in s) k arguments view
  unfolding run_of
  by_functions more e = ap (λ c. run_of c s k arguments view) e

  lost_or : (more : ℕ) → 0 < more → (o : Option FuncDef) → callee s.functions.now k (length arguments) ≡ o → calls ≡ Within more → run_of calls s k arguments view ≢ Amiss → o ≢ None
  lost_or more h o is e there none = there (by_functions more e ∙ run_lost s.functions.now (scene_in s) k arguments view more h (is ∙ none))

  pub there_is : (more n : ℕ) → calls ≡ Within more → 0 < more → n ≡ length arguments → run_of calls s k arguments view ≢ Amiss → callee s.functions.now k n ≢ None
  there_is more n e h count there none = lost_or more h (callee s.functions.now k (length arguments)) refl e there (ap (callee s.functions.now k) (sym count) ∙ none)

  pub body_is : (more less n : ℕ) (f : FuncDef) (variables : Variables) (body : List CStat) → calls ≡ Within more → 0 < more → (next : Calls) → next ≡ Within less → less ≡ more - 1
      → n ≡ length arguments → callee s.functions.now k n ≡ Some f → variables ≡ variables_of (length f.slots) arguments → body ≡ f.body
      → run_of calls s k arguments view ≡ exec view.left (run_of next s) (scene_in s) variables (map Do body) view
  unfolding run_of
  body_is more less n f variables body e h next is l count found vs b =
      by_functions more e
      ∙ run_found s.functions.now (scene_in s) k arguments view more f h (ap (callee s.functions.now k) (sym count) ∙ found)
      ∙ (λ i. exec view.left (run_at (sym l i) s.functions.now (scene_in s)) (scene_in s) (sym vs i) (map Do (sym b i)) view)
      ∙ ap (λ c. exec view.left (run_of c s) (scene_in s) variables (map Do body) view) (sym is)

-- the first item, which there is
pub act_is : (value_of : Evaluates) (variables : Variables) (term : Term) (i : Item) (view : View) → first_of term ≡ Some i
    → act_first value_of variables term view ≡ act value_of variables i (drop 1 term) view
act_is value_of variables [] i view e = absurd (cc)
act_is value_of variables (j ∷ rest) i view e = let same : j ≡ i = cc in ap (λ j. act value_of variables j rest view) same

-- what comes before the rest of what an item does
pub act_there : (value_of : Evaluates) (variables : Variables) (term : Term) (i : Item) (view : View) → first_of term ≡ Some i
    → act_first value_of variables term view ≢ Amiss → act value_of variables i (drop 1 term) view ≢ Amiss
act_there value_of variables term i view e h a = h (act_is value_of variables term i view e ∙ a)

pub act_some : (value_of : Evaluates) (variables : Variables) (term : Term) (view : View) → act_first value_of variables term view ≢ Amiss → term ≡ [] → ⊥
act_some value_of variables term view h e = h (ap (λ t. act_first value_of variables t view) e)

module _ (run : Run) (scene : Scene) (variables : Variables) (term : Term) (view : View) (whole : Answer Value) (n k : ℕ) (b : Bool) where
  some : (IsTrue b ↔ (term ≡ [])) → b ≡ false → term ≢ []
  some both more_left e = let done_all : b ≡ true = both.1 e in absurd (cc)

  turn : (t : Term) → t ≢ [] → (m : ℕ) → 0 < m → 0 < view.left
      → exec m run scene variables t view ≡ then_do (act_first (eval run scene variables) variables t (record view { left = view.left - 1 })) (did_then (exec (m - 1) run scene))
  turn [] not_empty m h l = absurd (not_empty refl)
  turn (i ∷ rest) not_empty m h l = exec_turn run scene variables view m i (i ∷ rest) rest refl h l

  pub turn_is : (IsTrue b ↔ (term ≡ [])) → b ≡ false → k < n → 0 < view.left → whole ≡ exec (n - k) run scene variables term view
      → whole ≡ then_do (act_first (eval run scene variables) variables term (record view { left = view.left - 1 })) (did_then (exec (n - k - 1) run scene))
  turn_is both more_left h l is = is ∙ turn term (some both more_left) (n - k) (omega arith) l

  pub turn_there : (IsTrue b ↔ (term ≡ [])) → b ≡ false → k < n → 0 < view.left → whole ≡ exec (n - k) run scene variables term view → whole ≢ Amiss
      → act_first (eval run scene variables) variables term (record view { left = view.left - 1 }) ≢ Amiss
  turn_there both more_left h l is there = then_there _ (did_then (exec (n - k - 1) run scene)) (λ a. there (turn_is both more_left h l is ∙ a))

  pub turn_stops : (stop : Stop) → (IsTrue b ↔ (term ≡ [])) → b ≡ false → k < n → 0 < view.left → whole ≡ exec (n - k) run scene variables term view
      → Stops stop (act_first (eval run scene variables) variables term (record view { left = view.left - 1 })) → Stops stop whole
  turn_stops stop both more_left h l is s =
      let P : Answer Value → Type 0 = Stops stop in
      subst P (sym (turn_is both more_left h l is)) (then_stops stop _ (did_then (exec (n - k - 1) run scene)) s)

  pub turn_goes : (r : Option Value) (variables2 : Variables) (term2 : Term) (view2 : View) → (IsTrue b ↔ (term ≡ [])) → b ≡ false → k < n → 0 < view.left
      → whole ≡ exec (n - k) run scene variables term view
      → act_first (eval run scene variables) variables term (record view { left = view.left - 1 }) ≡ Gives (came_to r variables2 term2) view2 → r ≡ None
      → whole ≡ exec (n - (k + 1)) run scene variables2 term2 view2
  turn_goes r variables2 term2 view2 both more_left h l is does none =
      let next : n - k - 1 ≡ n - (k + 1) = omega arith in
      turn_is both more_left h l is ∙ ap (λ a. then_do a (did_then (exec (n - k - 1) run scene))) (does ∙ ap (λ r. Gives (came_to r variables2 term2) view2) none)
      ∙ ap (λ m. exec m run scene variables2 term2 view2) next

  pub turn_gives : (r : Option Value) (v : Value) (variables2 : Variables) (term2 : Term) (view2 : View) → (IsTrue b ↔ (term ≡ [])) → b ≡ false → k < n → 0 < view.left
      → whole ≡ exec (n - k) run scene variables term view
      → act_first (eval run scene variables) variables term (record view { left = view.left - 1 }) ≡ Gives (came_to r variables2 term2) view2 → r ≡ Some v
      → whole ≡ Gives v view2
  turn_gives r v variables2 term2 view2 both more_left h l is does returns =
      turn_is both more_left h l is ∙ ap (λ a. then_do a (did_then (exec (n - k - 1) run scene))) (does ∙ ap (λ r. Gives (came_to r variables2 term2) view2) returns)

  pub turn_none : (IsTrue b ↔ (term ≡ [])) → b ≡ true → whole ≡ exec (n - k) run scene variables term view → whole ≡ Fails NoReturn
  turn_none both done_all is = is ∙ exec_none run scene variables view (n - k) term (both.0 done_all)

  spent_at : (t : Term) → t ≢ [] → (m : ℕ) → view.left ≡ 0 → exec m run scene variables t view ≡ Spent
  spent_at [] not_empty m z = absurd (not_empty refl)
  spent_at (i ∷ rest) not_empty m z = exec_spent run scene variables view m i (i ∷ rest) rest refl z

  pub turn_spent : (IsTrue b ↔ (term ≡ [])) → b ≡ false → view.left ≡ 0 → whole ≡ exec (n - k) run scene variables term view → whole ≡ Spent
  turn_spent both more_left z is = is ∙ spent_at term (some both more_left) (n - k) z

  over_at : (t : Term) → t ≢ [] → (m : ℕ) → m ≡ 0 → exec m run scene variables t view ≡ Spent
  over_at [] not_empty m z = absurd (not_empty refl)
  over_at (i ∷ rest) not_empty m z = exec_over run scene variables view m i (i ∷ rest) rest refl z

  pub turns_over : (IsTrue b ↔ (term ≡ [])) → b ≡ false → n ≤ k → whole ≡ exec (n - k) run scene variables term view → whole ≡ Spent
  turns_over both more_left past is = is ∙ over_at term (some both more_left) (n - k) (omega arith)

pub turns_start : (n : ℕ) (run : Run) (scene : Scene) (variables : Variables) (start term : Term) (view : View) → term ≡ start
    → exec n run scene variables start view ≡ exec (n - 0) run scene variables term view
turns_start n run scene variables start term view e = let all : n - 0 ≡ n = omega arith in λ i. exec (sym all i) run scene variables (sym e i) view

pub ruleset calling = (never_called, too_deep, there_is, body_is)

pub ruleset turns = (turns_start, turn_there, turn_stops, turn_goes, turn_gives, turn_none, turn_spent, turns_over)

pub ruleset acts = (act_is, act_there, act_some)
