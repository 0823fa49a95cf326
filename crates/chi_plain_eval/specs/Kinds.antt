-- What expressions with parts do, by their kinds, where the evaluation of the parts is given. Private to proofs.
use Rattle.std.specs.Prelude.{ℕ, Bool, true, false, List, Option, Some, None}
use Rattle.chi_value.specs.declared.value.Value.{Value, Value-F, out-Value}
use Rattle.chi_core.specs.declared.expression.CExpr.{CExpr}
use Rattle.chi_core.specs.Answer.{Does, then_do, gives, wanted}
use Rattle.chi_core.specs.Reading.{truth_of, part_of}
use Rattle.chi_core.specs.Evaluation.{Evaluates, Run, on_truth, inserted, repeated}

-- what a list has
abbrev pub items_of : Value-F Value → Option (List Value)
items_of (Value-F.ListOf items) = Some items
items_of _ = None

module _ (value_of : Evaluates) where
  -- the second only where the first comes to this truth: true for `and`, false for `or`
  abbrev pub second_where : Bool → CExpr → CExpr → Does Value
  second_where true a b view = then_do (value_of a view) (λ x. on_truth (truth_of x) (value_of b) (gives x))
  second_where false a b view = then_do (value_of a view) (λ x. on_truth (truth_of x) (gives x) (value_of b))

  abbrev pub taken_part : CExpr → ℕ → Does Value
  taken_part a number view = then_do (value_of a view) (λ x. wanted (part_of x number))

  -- a list, an element, and the function that says before which others it stands
  abbrev pub inserted_by : Run → ℕ → CExpr → CExpr → Does Value
  inserted_by run function a b view =
      then_do (value_of a view) (λ xs new. then_do (value_of b new) (λ x. inserted run function xs x (out-Value xs)))

  abbrev pub repeated_each : CExpr → CExpr → Does Value
  repeated_each count each view = then_do (value_of count view) (λ n. repeated (value_of each) (out-Value n))
