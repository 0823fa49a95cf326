-- What targets, the items of terms and calls of functions leave of the bound: no more than there was.
use Rattle.std.proofs.Common.{ℕ, zero, suc, le_refl, List, [], ◌∷◌, Option, Some, None, map, length}
use Rattle.chi_value.specs.declared.value.Value.{Value, Value-F, out-Value}
use Rattle.chi_ops.specs.Operations.{lookup}
use Rattle.chi_ops.specs.Sequences.{index}
use Rattle.chi_ops.specs.Store.{Step, by, put}
use Rattle.chi_core.specs.declared.expression.CExpr.{CExpr}
use Rattle.chi_core.specs.declared.program.FuncDef.{FuncDef}
use Rattle.chi_core.specs.declared.scene.Scene.{Scene}
use Rattle.chi_core.specs.declared.statement.Branch.{Branch, out-Branch}
use Rattle.chi_core.specs.declared.statement.CAlt.{CAlt}
use Rattle.chi_core.specs.declared.statement.CStat.{CStat, CStat-F, out-CStat}
use Rattle.chi_core.specs.declared.target.CStep.{CStep}
use Rattle.chi_core.specs.declared.target.CStep.TheVariants as step
use Rattle.chi_core.specs.declared.target.CTarget.{CTarget}
use Rattle.chi_core.specs.Answer.{then_do, gives, wanted, tick, in_turn, through}
use Rattle.chi_core.specs.Evaluation.{Run, eval, Evaluates, on_truth}
use Rattle.chi_core.specs.Functions.{did_then, exec, callee, body_run, run_at}
use Rattle.chi_core.specs.Reading.{truth_of, part_of, elements_of}
use Rattle.chi_core.specs.Spots.{Spot, step_at, spot_of, element_by, read_step, read_at, store_into, store}
use Rattle.chi_core.specs.Terms.{Item, Do, Loop, Walk, Term, Did, On, Returns, first_the, after_loop, from_loop, goes_on, walked, spread, chosen, tested, assigned, act_stat, act}
use Rattle.chi_core.specs.Variables.{Variables, variables_of, value_at, with_slot, side_by_side, bound}
use Rattle.chi_core.proofs.Used.{Within, Uses, within-then, within-giving, uses-gives, uses-wanted, EachUses, uses-gathered, uses-through, uses-tick}
use Rattle.chi_core.proofs.UsedByOperators.{uses-done}
use Rattle.chi_core.proofs.UsedByExpressions.{uses-on_truth, RunUses, uses-eval}

pub uses-element_by : (v : Value) (x : Value-F Value) (key : Value) (k : Value-F Value) → Uses (element_by v x key k)
uses-element_by v (Value-F.DictOf items) key k = uses-done (lookup v key)
uses-element_by v _ key (Value-F.Int i) = uses-done (index v i)
uses-element_by v _ key _ = λ view. tt

pub uses-store : (entry : Spot × Value) (variables : Variables) → Uses (store entry variables)
uses-store entry variables = into entry.0.path
  where
    into : (path : List Step) → Uses (store_into entry.0.slot path entry.1 variables)
    into [] = uses-wanted (with_slot entry.0.slot entry.1 variables)
    into (s ∷ path) = λ view.
        within-then _ _ _ (uses-wanted (value_at variables entry.0.slot) view) (λ v now.
        within-then _ _ _ (uses-done (put (s ∷ path) entry.1 v) now) (λ changed. uses-wanted (with_slot entry.0.slot changed variables)))

-- where evaluation leaves no more
module _ (value_of : Evaluates) (each : (e : CExpr) → Uses (value_of e)) where
  uses-step_at : (s : CStep) → Uses (step_at value_of s)
  uses-step_at (step.Index e) = λ view. within-giving view.left by (value_of e view) (each e view)
  uses-step_at (step.Part number) = λ view. le_refl view.left

  each_step : (steps : List CStep) → EachUses (map (step_at value_of) steps)
  each_step [] = tt
  each_step (s ∷ steps) = (uses-step_at s, each_step steps)

  pub uses-spot_of : (target : CTarget) → Uses (spot_of value_of target)
  uses-spot_of target view =
      within-giving view.left (λ path. record { slot = target.slot; path = path }) (in_turn (map (step_at value_of) target.steps) view)
      (uses-gathered [] (map (step_at value_of) target.steps) (each_step target.steps) view)

  uses-read_step : (s : CStep) (v : Value) → Uses (read_step value_of s v)
  uses-read_step (step.Index e) v = λ view.
      within-then view.left (value_of e view) (λ key. element_by v (out-Value v) key (out-Value key)) (each e view)
      (λ key. uses-element_by v (out-Value v) key (out-Value key))
  uses-read_step (step.Part number) v = uses-wanted (part_of v number)

  pub uses-read_at : (variables : Variables) (target : CTarget) → Uses (read_at value_of variables target)
  uses-read_at variables target view =
      within-then view.left (wanted (value_at variables target.slot) view) (through (read_step value_of) target.steps)
      (uses-wanted (value_at variables target.slot) view) (uses-through (read_step value_of) uses-read_step target.steps)

  pub each_value : (expressions : List CExpr) → EachUses (map value_of expressions)
  each_value [] = tt
  each_value (e ∷ es) = (each e, each_value es)

  each_spot : (targets : List CTarget) → EachUses (map (spot_of value_of) targets)
  each_spot [] = tt
  each_spot (t ∷ ts) = (uses-spot_of t, each_spot ts)

  pub uses-values : (expressions : List CExpr) → Uses (in_turn (map value_of expressions))
  uses-values expressions = uses-gathered [] (map value_of expressions) (each_value expressions)

  module _ (variables : Variables) where
    uses-goes_on : (term : Option Term) → Uses (goes_on variables term)
    uses-goes_on term view = within-giving view.left (On variables) (wanted term view) (uses-wanted term view)

    uses-chosen : (bs : List Branch) (otherwise : List CStat) (term : Term) → Uses (chosen value_of variables bs otherwise term)
    uses-chosen [] otherwise term view = le_refl view.left
    uses-chosen (b ∷ bs) otherwise term view =
        within-then view.left (value_of (out-Branch b).test view)
        (λ x. on_truth (truth_of x) (gives (On variables (first_the (out-Branch b).block term))) (chosen value_of variables bs otherwise term))
        (each (out-Branch b).test view)
        (λ x. uses-on_truth (truth_of x) (gives (On variables (first_the (out-Branch b).block term))) (chosen value_of variables bs otherwise term)
        (uses-gives (On variables (first_the (out-Branch b).block term))) (uses-chosen bs otherwise term))

    uses-tested : (line : ℕ) (test : CExpr) (block : List CStat) (term : Term) → Uses (tested value_of variables line test block term)
    uses-tested line test block term view =
        within-then view.left (value_of test view)
        (λ x. on_truth (truth_of x) (gives (On variables (first_the block (Loop line test block ∷ term)))) (gives (On variables term)))
        (each test view)
        (λ x. uses-on_truth (truth_of x) (gives (On variables (first_the block (Loop line test block ∷ term)))) (gives (On variables term))
        (uses-gives (On variables (first_the block (Loop line test block ∷ term)))) (uses-gives (On variables term)))

    uses-assigned : (targets : List CTarget) (expressions : List CExpr) (term : Term) → Uses (assigned value_of variables targets expressions term)
    uses-assigned targets expressions term view =
        within-then _ _ _ (uses-values expressions view) (λ given now.
        within-then _ _ _ (uses-wanted (spread targets given) now) (λ values later.
        within-then _ _ _ (uses-gathered [] (map (spot_of value_of) targets) (each_spot targets) later) (λ spots new.
        within-then _ _ _ (uses-wanted (side_by_side spots values) new) (λ stores last.
        within-giving _ _ _ (uses-through store uses-store stores variables last)))))

    uses-walked : (line : ℕ) (slots : List ℕ) (xs : List Value) (block : List CStat) (term : Term) → Uses (walked variables line slots xs block term)
    uses-walked line slots [] block term view = le_refl view.left
    uses-walked line slots (x ∷ xs) block term view = within-giving _ _ _ (uses-wanted (bound slots x variables) view)

    pub uses-act_stat : (s : CStat-F CAlt CStat Branch) (term : Term) → Uses (act_stat value_of variables s term)
    uses-act_stat (CStat-F.Declare line slot e) term = λ view.
        within-then _ _ _ (each e view) (λ x now. within-giving _ _ _ (uses-wanted (with_slot slot x variables) now))
    uses-act_stat (CStat-F.Assign line targets values) term = uses-assigned targets values term
    uses-act_stat (CStat-F.If line branches otherwise) term = uses-chosen branches otherwise term
    uses-act_stat (CStat-F.While line test block) term = uses-tested line test block term
    uses-act_stat (CStat-F.For line slots e block) term = λ view.
        within-then _ _ _ (each e view) (λ x now. within-giving _ _ _ (uses-wanted (elements_of x) now))
    uses-act_stat (CStat-F.Break line) term = uses-goes_on (after_loop term)
    uses-act_stat (CStat-F.Continue line) term = uses-goes_on (from_loop term)
    uses-act_stat (CStat-F.Pass line) term = uses-gives (On variables term)
    uses-act_stat (CStat-F.Return line e) term = λ view. within-giving view.left Returns (value_of e view) (each e view)
    uses-act_stat _ term = λ view. tt

    pub uses-act : (i : Item) (term : Term) → Uses (act value_of variables i term)
    uses-act (Do s) term = uses-act_stat (out-CStat s) term
    uses-act (Loop line test block) term = uses-tested line test block term
    uses-act (Walk line slots elements block) term = uses-walked line slots elements block term

-- functions

module _ (run : Run) (each : RunUses run) (scene : Scene) where
  pub uses-exec : (turns : ℕ) (variables : Variables) (term : Term) → Uses (exec turns run scene variables term)
  unfolding exec
  uses-exec zero variables [] view = tt
  uses-exec (suc turns) variables [] view = tt
  uses-exec zero variables (i ∷ term) view = tt
  uses-exec (suc turns) variables (i ∷ term) view =
      within-then view.left (tick view) (λ ticked now. then_do (act (eval run scene variables) variables i term now) (did_then (exec turns run scene)))
      (uses-tick view) (λ ticked now.
      within-then now.left (act (eval run scene variables) variables i term now) (did_then (exec turns run scene))
      (uses-act (eval run scene variables) (uses-eval run each scene variables) variables i term now)
      (did (λ variables' term'. uses-exec turns variables' term')))
    where
      did : ((variables' : Variables) (term' : Term) → Uses (exec turns run scene variables' term')) → (d : Did) → Uses (did_then (exec turns run scene) d)
      did next (On variables' term') = next variables' term'
      did next (Returns v) = λ now. le_refl now.left

pub uses-run_at : (depth : ℕ) (functions : List FuncDef) (scene : Scene) → RunUses (run_at depth functions scene)
unfolding run_at
uses-run_at zero functions scene number arguments view = tt
uses-run_at (suc more) functions scene number arguments view =
    by_callee (uses-run_at more functions scene) (callee functions number (length arguments))
  where
    by_callee : RunUses (run_at more functions scene) → (o : Option FuncDef) → Within view.left (body_run (run_at more functions scene) scene o arguments view)
    by_callee below None = tt
    by_callee below (Some f) =
        uses-exec (run_at more functions scene) below scene view.left (variables_of (length f.slots) arguments) (map Do f.body) view
