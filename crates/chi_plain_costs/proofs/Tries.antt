-- What is evaluated of an item, one thing after another.
use Rattle.std.proofs.Common.{◌≡◌, ◌≢◌, ℕ, ◌+◌, ◌<◌, ◌≤◌, Bool, true, false, List, ◌∷◌, Some, None, length, drop, get_or, ap, sym, subst, ◌∙◌}
use Rattle.std.specs.Prelude.{IfErr, OnOk, Result, map}
use Rattle.std.proofs.lemmas.List.{drop_more, drop_all}
use Rattle.chi_value.specs.declared.value.Value.{Value}
use Rattle.chi_core.specs.declared.expression.CExpr.{CExpr}
use Rattle.chi_core.specs.declared.statement.Branch.{Branch, out-Branch}
use Rattle.chi_core.specs.declared.statement.CAlt.{CAlt}
use Rattle.chi_core.specs.declared.statement.CStat.{CStat, CStat-F, out-CStat}
use Rattle.chi_core.specs.declared.statement.CStat.TheVariants as stat
use Rattle.chi_core.specs.declared.target.CTarget.{CTarget}
use Rattle.chi_core.specs.declared.view.View.{View}
use Rattle.chi_core.specs.Answer.{Answer, Does, Gives, Amiss, then_do, gives, giving, in_turn, through}
use Rattle.chi_core.specs.Evaluation.{Evaluates, on_truth}
use Rattle.chi_core.specs.Reading.{truth_of}
use Rattle.chi_core.specs.Spots.{Spot, spot_of}
use Rattle.chi_core_frame.specs.declared.stop.Stop.{Stop}
use Rattle.chi_core_frame.specs.Stops.{Stops}
use Rattle.chi_core_frame.proofs.Stopping.{then_stops, then_there}
use Rattle.chi_plain_open.proofs.Going.{giving_stops, if_err, on_ok, well_first, well_giving}
use Rattle.chi_plain_costs.specs.Tried.{tried_assignment, tried_expression, tried_statement, tried_target, tried_tests}

-- an expression, and the indexes of a target

module _ (m : Evaluates) (view : View) where
  module _ (e : CExpr) where
    given : Value → Unit {0}
    given x = tt

    pub expression_there : tried_expression m e view ≢ Amiss → m e view ≢ Amiss
    unfolding given
    expression_there well = well_giving given (m e view) well

    pub expression_gives : (v : Value) (now : View) → m e view ≡ Gives v now → tried_expression m e view ≡ Gives tt now
    unfolding given
    expression_gives v now got = ap (giving given) got

    pub expression_stops : (stop : Stop) → Stops stop (m e view) → Stops stop (tried_expression m e view)
    unfolding given
    expression_stops stop s = giving_stops stop (m e view) given s

  module _ (target : CTarget) where
    placed : Spot → Unit {0}
    placed spot = tt

    pub target_there : tried_target m target tt view ≢ Amiss → spot_of m target view ≢ Amiss
    unfolding placed
    target_there well = well_giving placed (spot_of m target view) well

    pub target_gives : (spot : Spot) (now : View) → spot_of m target view ≡ Gives spot now → tried_target m target tt view ≡ Gives tt now
    unfolding placed
    target_gives spot now got = ap (giving placed) got

    pub target_stops : (stop : Stop) → Stops stop (spot_of m target view) → Stops stop (tried_target m target tt view)
    unfolding placed
    target_stops stop s = giving_stops stop (spot_of m target view) placed s

  -- the values, and then the targets
  module _ (targets : List CTarget) (values : List CExpr) where
    then_targets : List Value → Does (Unit {0})
    then_targets found = through (tried_target m) targets tt

    pub values_there : tried_assignment m targets values view ≢ Amiss → in_turn (map m values) view ≢ Amiss
    unfolding then_targets
    values_there well = well_first (in_turn (map m values) view) then_targets well

    pub values_stop : (stop : Stop) → Stops stop (in_turn (map m values) view) → Stops stop (tried_assignment m targets values view)
    unfolding then_targets
    values_stop stop s = then_stops stop (in_turn (map m values) view) then_targets s

    module _ (found : List Value) (now : View) (got : in_turn (map m values) view ≡ Gives found now) where
      pub passed_on : tried_assignment m targets values view ≡ through (tried_target m) targets tt now
      unfolding then_targets
      passed_on = ap (λ a. then_do a then_targets) got

      pub targets_there : tried_assignment m targets values view ≢ Amiss → through (tried_target m) targets tt now ≢ Amiss
      targets_there well e = well (passed_on ∙ e)

      pub assigned : (result : Result (Unit {0}) Stop) (new : View) → OnOk result (through (tried_target m) targets tt now ≡ Gives tt new)
          → OnOk result (tried_assignment m targets values view ≡ Gives tt new)
      assigned result new p = on_ok result p (λ e. passed_on ∙ e)

      pub unassigned : (result : Result (Unit {0}) Stop) → IfErr result (λ stop. Stops stop (through (tried_target m) targets tt now))
          → IfErr result (λ stop. Stops stop (tried_assignment m targets values view))
      unassigned result p = if_err result p (λ stop e. let P : Answer (Unit {0}) → Type 0 = Stops stop in subst P (sym passed_on) e)

pub ruleset expressions = (expression_there, expression_gives, expression_stops)

pub ruleset targets = (target_there, target_gives, target_stops)

pub ruleset assignments = (values_there, values_stop, targets_there, assigned, unassigned)

-- the tests of branches

module _ (m : Evaluates) (all : List Branch) (view : View) (i : ℕ) where
  pub tests_last : length all ≤ i → tried_tests m (drop i all) view ≡ Gives tt view
  tests_last h = ap (λ bs. tried_tests m bs view) (drop_all i all h)

  module _ (b : Branch) (h : i < length all) (is : b ≡ get_or all i b) where
    next : Value → Does (Unit {0})
    next x = on_truth (truth_of x) (gives tt) (tried_tests m (drop (i + 1) all))

    step : tried_tests m (drop i all) view ≡ then_do (m (out-Branch b).test view) next
    unfolding next
    step =
        ap (λ bs. tried_tests m bs view) (drop_more all i b h)
        ∙ ap (λ c. tried_tests m (c ∷ drop (i + 1) all) view) (sym is)

    pub tests_first : tried_tests m (drop i all) view ≢ Amiss → m (out-Branch b).test view ≢ Amiss
    tests_first there = then_there _ next (λ a. there (step ∙ a))

    pub tests_stop : (stop : Stop) → Stops stop (m (out-Branch b).test view) → Stops stop (tried_tests m (drop i all) view)
    tests_stop stop s = let P : Answer (Unit {0}) → Type 0 = Stops stop in subst P (sym step) (then_stops stop _ next s)

    module _ (v : Value) (now : View) (got : m (out-Branch b).test view ≡ Gives v now) where
      goes : tried_tests m (drop i all) view ≡ next v now
      goes = step ∙ ap (λ a. then_do a next) got

      pub tests_truth : tried_tests m (drop i all) view ≢ Amiss → truth_of v ≢ None
      unfolding next
      tests_truth there none = there (goes ∙ ap (λ o. on_truth o (gives tt) (tried_tests m (drop (i + 1) all)) now) none)

      pub tests_take : (t : Bool) → truth_of v ≡ Some t → t ≡ true → tried_tests m (drop i all) view ≡ Gives tt now
      unfolding next
      tests_take t so e = goes ∙ ap (λ o. on_truth o (gives tt) (tried_tests m (drop (i + 1) all)) now) (so ∙ ap Some e)

      pub tests_pass : (t : Bool) → truth_of v ≡ Some t → t ≡ false → tried_tests m (drop i all) view ≡ tried_tests m (drop (i + 1) all) now
      unfolding next
      tests_pass t so e = goes ∙ ap (λ o. on_truth o (gives tt) (tried_tests m (drop (i + 1) all)) now) (so ∙ ap Some e)

pub ruleset tests = (tests_first, tests_stop, tests_truth, tests_take, tests_pass, tests_last)

-- a statement, with its parts as lists

module _ (m : Evaluates) (view : View) (s : CStat) where
  at_layer : (layer : CStat-F CAlt CStat Branch) → out-CStat s ≡ layer → tried_statement m (out-CStat s) view ≡ tried_statement m layer view
  at_layer layer e = ap (λ l. tried_statement m l view) e

  pub tried_assign : (line : ℕ) (targets places : List CTarget) (values expressions : List CExpr) → s ≡ stat.Assign line targets values → places ≡ targets → expressions ≡ values
      → tried_statement m (out-CStat s) view ≡ tried_assignment m places expressions view
  tried_assign line targets places values expressions is same alike =
      at_layer (CStat-F.Assign line targets values) (ap out-CStat is ∙ stat.outs-Assign line targets values)
      ∙ (λ k. tried_assignment m (sym same k) (sym alike k) view)

  pub tried_if : (line : ℕ) (branches these : List Branch) (otherwise : List CStat) → s ≡ stat.If line branches otherwise → these ≡ branches
      → tried_statement m (out-CStat s) view ≡ tried_tests m these view
  tried_if line branches these otherwise is same =
      at_layer (CStat-F.If line branches otherwise) (ap out-CStat is ∙ stat.outs-If line branches otherwise)
      ∙ ap (λ bs. tried_tests m bs view) (sym same)

pub ruleset statements = (tried_assign, tried_if)
