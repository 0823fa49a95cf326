-- Private to proofs: what of an item is evaluated, which is all of it that costs.
use Rattle.std.specs.Prelude.{List, [], ◌∷◌, map}
use Rattle.chi_core.specs.declared.expression.CExpr.{CExpr}
use Rattle.chi_core.specs.declared.statement.Branch.{Branch, out-Branch}
use Rattle.chi_core.specs.declared.statement.CAlt.{CAlt}
use Rattle.chi_core.specs.declared.statement.CStat.{CStat, CStat-F, out-CStat}
use Rattle.chi_core.specs.declared.target.CTarget.{CTarget}
use Rattle.chi_core.specs.Answer.{Does, then_do, gives, giving, in_turn, through}
use Rattle.chi_core.specs.Evaluation.{Evaluates, on_truth}
use Rattle.chi_core.specs.Reading.{truth_of}
use Rattle.chi_core.specs.Spots.{Spot, spot_of}
use Rattle.chi_core.specs.Terms.{Item, Do, Loop, Walk}
use Rattle.chi_value.specs.declared.value.Value.{Value}

-- something is done, and what it gives isn't kept
abbrev pub Tries : Type 0
Tries = Does (Unit {0})

-- with this evaluation of expressions
module _ (value_of : Evaluates) where
  abbrev pub tried_expression : CExpr → Tries
  tried_expression e view = giving (λ (x : Value). tt) (value_of e view)

  -- the indexes of a target
  abbrev pub tried_target : CTarget → Unit {0} → Tries
  tried_target target before view = giving (λ (spot : Spot). tt) (spot_of value_of target view)

  -- the values, and then the targets
  abbrev pub tried_assignment : List CTarget → List CExpr → Tries
  tried_assignment targets expressions view =
      then_do (in_turn (map value_of expressions) view) (λ (values : List Value). through tried_target targets tt)

  -- tests, up to the first that is true
  abbrev pub tried_tests : List Branch → Tries
  tried_tests [] view = gives tt view
  tried_tests (b ∷ bs) view = then_do (value_of (out-Branch b).test view) (λ x. on_truth (truth_of x) (gives tt) (tried_tests bs))

  -- a statement that functions have too
  abbrev pub tried_statement : CStat-F CAlt CStat Branch → Tries
  tried_statement (CStat-F.Declare line slot e) = tried_expression e
  tried_statement (CStat-F.Assign line targets values) = tried_assignment targets values
  tried_statement (CStat-F.If line branches otherwise) = tried_tests branches
  tried_statement (CStat-F.While line test block) = tried_expression test
  tried_statement (CStat-F.For line slots e block) = tried_expression e
  tried_statement (CStat-F.Return line e) = tried_expression e
  tried_statement _ = gives tt

  abbrev pub tried_item : Item → Tries
  tried_item (Do s) = tried_statement (out-CStat s)
  tried_item (Loop line test block) = tried_expression test
  tried_item (Walk line slots elements block) = gives tt
