-- Expressions: their values, and what their evaluation uses up.
use Rattle.std.specs.Prelude.{ℕ, suc, pos, negsuc, nat_le, Bool, true, false, Option, Some, None, List, [], ◌∷◌, slice_get, if◌then◌else◌}
use Rattle.chi_value.specs.declared.defaults.TheConstants.{MOST_CHANNELS}
use Rattle.chi_value.specs.declared.value.TheConstants.{MOST_ELEMENTS}
use Rattle.chi_value.specs.declared.value.Value.{Value, Value-F, out-Value}
use Rattle.chi_value.specs.declared.value.Value.TheVariants as value
use Rattle.chi_value.specs.declared.shape.Shape.{Shape}
use Rattle.chi_value.specs.Default.{default}
use Rattle.chi_ops.specs.Operations.{build}
use Rattle.chi_ops.specs.Sequences.{insert_at}
use Rattle.chi_core.specs.declared.expression.CExpr.{CExpr, CExpr-F, fold-CExpr}
use Rattle.chi_core.specs.declared.fault.FaultKind.TheVariants.{TooManyChannels, TooLarge}
use Rattle.chi_core.specs.Answer.{Answer, Gives, Fails, Amiss, View, Does, then_do, gives, amiss, wanted, giving, in_turn, times}
use Rattle.chi_core.specs.Reading.{truth_of, part_of}
use Rattle.chi_core.specs.Variables.{Variables, value_at}
use Rattle.chi_core.specs.Scene.{Scene}
use Rattle.chi_core.specs.Containers.{done}
use Rattle.chi_core.specs.Operators.{applied}

-- what a call of a function, by its number, does with its arguments
abbrev pub Run : Type 0
Run = ℕ → List Value → Does Value

-- the first of two things where a truth value is true, the second where it is false
abbrev pub on_truth : {A : Type 0} → Option Bool → Does A → Does A → Does A
on_truth (Some true) first second = first
on_truth (Some false) first second = second
on_truth None first second = amiss

-- a default, with the channels that there are then
abbrev pub within_channels : View → Value × ℕ → Answer Value
within_channels view made =
    if nat_le made.1 MOST_CHANNELS then Gives made.0 (record view { channels = made.1 }) else Fails TooManyChannels

-- a fresh default: each channel in it is new
abbrev pub fresh : Shape → Does Value
fresh shape view = within_channels view (default shape view.channels)

-- a list of so many values, each of which is evaluated anew
abbrev pub repeated : Does Value → Value-F Value → Does Value
repeated each (Value-F.Int (pos count)) view =
    if nat_le count MOST_ELEMENTS then giving value.ListOf (times count each view) else Fails TooLarge
repeated each (Value-F.Int (negsuc n)) view = Fails TooLarge
repeated each _ view = Amiss

-- how many elements come before the first that passes a test, which is done for one after another; all where none does
abbrev pub place_before : (Value → Does Value) → List Value → Does ℕ
place_before test [] view = Gives 0 view
place_before test (y ∷ ys) view =
    then_do (test y view) (λ x. on_truth (truth_of x) (gives 0) (λ new. giving suc (place_before test ys new)))

-- a list with x before its first element y of which the function says that x stands before y, or else at its end
abbrev pub inserted : Run → ℕ → Value → Value → Value-F Value → Does Value
inserted run function xs x (Value-F.ListOf items) view =
    then_do (place_before (λ y. run function (x ∷ y ∷ [])) items view) (λ place. done (insert_at xs place x))
inserted run function xs x _ view = Amiss

-- an expression, where its parts are given by what they do
abbrev pub eval_step : Run → Scene → Variables → CExpr-F (Does Value) → Does Value
eval_step run scene variables (CExpr-F.Lit v) view = Gives v view
eval_step run scene variables (CExpr-F.Var slot) view = wanted (value_at variables slot) view
eval_step run scene variables (CExpr-F.Const number) view = wanted (slice_get scene.constants number) view
eval_step run scene variables (CExpr-F.Op name parts) view = then_do (in_turn parts view) (applied scene name)
eval_step run scene variables (CExpr-F.And a b) view = then_do (a view) (λ x. on_truth (truth_of x) b (gives x))
eval_step run scene variables (CExpr-F.Or a b) view = then_do (a view) (λ x. on_truth (truth_of x) (gives x) b)
eval_step run scene variables (CExpr-F.Build kind parts) view = then_do (in_turn parts view) (λ values. done (build kind values))
eval_step run scene variables (CExpr-F.Part a number) view = then_do (a view) (λ x. wanted (part_of x number))
eval_step run scene variables (CExpr-F.Call function parts) view = then_do (in_turn parts view) (run function)
eval_step run scene variables (CExpr-F.InsertBy a b function) view =
    then_do (a view) (λ xs new. then_do (b new) (λ x. inserted run function xs x (out-Value xs)))
eval_step run scene variables (CExpr-F.Default shape) view = fresh shape view
eval_step run scene variables (CExpr-F.Repeat count each) view = then_do (count view) (λ n. repeated each (out-Value n))

-- the value of an expression
unfoldable pub eval : Run → Scene → Variables → CExpr → Does Value
eval run scene variables = fold-CExpr (Does Value) (eval_step run scene variables)

-- an expression's value, as an evaluation with these variables gives it
abbrev pub Evaluates : Type 0
Evaluates = CExpr → Does Value
