-- Walks as they begin, and the tests of loops: where the whole isn't amiss, each value is of its kind.
use Rattle.std.proofs.Common.{◌≡◌, ◌≢◌, ℕ, List, ◌∷◌, None, ap}
use Rattle.chi_value.specs.declared.value.Value.{Value}
use Rattle.chi_core.specs.declared.expression.CExpr.{CExpr}
use Rattle.chi_core.specs.declared.experiment.XStat.{XStat}
use Rattle.chi_core.specs.declared.view.View.{View}
use Rattle.chi_core.specs.Answer.{Answer, Gives, Amiss, gives, wanted, giving}
use Rattle.chi_core.specs.Evaluation.{Evaluates, on_truth}
use Rattle.chi_core.specs.Reading.{truth_of, elements_of}
use Rattle.chi_core.specs.Variables.{Variables}
use Rattle.chi_core_frame.proofs.Stopping.{then_there, next_there, wanted_there}
use Rattle.chi_xper.specs.Items.{Term, Walk, Loop, quietly, first_the, tested, walking}

pub giving_there : {A B : Type 0} (f : A → B) (it : Answer A) → giving f it ≢ Amiss → it ≢ Amiss
giving_there f it h e = h (ap (giving f) e)

-- the beginning of a walk
module _ (m : Evaluates) (variables : Variables) (line : ℕ) (slots : List ℕ) (e : CExpr) (block : List XStat) (rest : Term) (view : View) where
  pub walk_first : walking m variables line slots e block rest view ≢ Amiss → m e view ≢ Amiss
  walk_first h = then_there (m e view) (λ x now. giving (λ elements. quietly variables (Walk line slots elements block ∷ rest)) (wanted (elements_of x) now)) h

  pub elements_there : (v : Value) (now : View) → m e view ≡ Gives v now → walking m variables line slots e block rest view ≢ Amiss → elements_of v ≢ None
  elements_there v now got h =
      wanted_there (elements_of v) now (giving_there (λ elements. quietly variables (Walk line slots elements block ∷ rest)) (wanted (elements_of v) now)
      (next_there (m e view) (λ x now. giving (λ elements. quietly variables (Walk line slots elements block ∷ rest)) (wanted (elements_of x) now)) v now h got))

-- the test of a loop
module _ (m : Evaluates) (variables : Variables) (line : ℕ) (test : CExpr) (block : List XStat) (rest : Term) (view : View) where
  pub test_first : tested m variables line test block rest view ≢ Amiss → m test view ≢ Amiss
  test_first h = then_there (m test view) (λ x. on_truth (truth_of x) (gives (quietly variables (first_the block (Loop line test block ∷ rest)))) (gives (quietly variables rest))) h

  pub test_truth : (v : Value) (now : View) → m test view ≡ Gives v now → tested m variables line test block rest view ≢ Amiss → truth_of v ≢ None
  test_truth v now got h none =
      next_there (m test view) (λ x. on_truth (truth_of x) (gives (quietly variables (first_the block (Loop line test block ∷ rest)))) (gives (quietly variables rest))) v now h got
      (ap (λ o. on_truth o (gives (quietly variables (first_the block (Loop line test block ∷ rest)))) (gives (quietly variables rest)) now) none)

pub ruleset beginning = (walk_first, elements_there)

pub ruleset testing = (test_first, test_truth)
