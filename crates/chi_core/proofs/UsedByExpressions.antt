-- What the evaluation of an expression leaves of the bound: no more than there was.
use Rattle.std.proofs.Common.{ℕ, suc, le_refl, List, [], ◌∷◌, Option, Some, None, Bool, true, false, map, sym, subst}
use Rattle.std.specs.Prelude.{pos, negsuc, nat_le}
use Rattle.std.specs.List.{slice_get}
use Rattle.chi_value.specs.declared.defaults.TheConstants.{MOST_CHANNELS}
use Rattle.chi_value.specs.declared.shape.Shape.{Shape}
use Rattle.chi_value.specs.declared.value.TheConstants.{MOST_ELEMENTS}
use Rattle.chi_value.specs.declared.value.Value.{Value, Value-F, out-Value}
use Rattle.chi_value.specs.declared.value.Value.TheVariants as value
use Rattle.chi_value.specs.Default.{default}
use Rattle.chi_ops.specs.Operations.{build}
use Rattle.chi_ops.specs.Sequences.{insert_at}
use Rattle.chi_core.specs.declared.expression.CExpr.{CExpr, CExpr-F, map-CExpr, fold-roll-CExpr, ind-CExpr, roll-CExpr}
use Rattle.chi_core.specs.declared.fault.FaultKind.TheVariants.{TooManyChannels, TooLarge}
use Rattle.chi_core.specs.declared.scene.Scene.{Scene}
use Rattle.chi_core.specs.Answer.{Gives, Fails, Does, then_do, gives, wanted, giving, in_turn, times}
use Rattle.chi_core.specs.Containers.{done}
use Rattle.chi_core.specs.Evaluation.{Run, on_truth, within_channels, fresh, repeated, place_before, inserted, eval_step, eval}
use Rattle.chi_core.specs.Operators.{applied}
use Rattle.chi_core.specs.Reading.{truth_of, part_of}
use Rattle.chi_core.specs.Variables.{Variables, value_at}
use Rattle.chi_core.proofs.Used.{Within, Uses, within-then, within-giving, within-if, uses-gives, uses-wanted, EachUses, uses-gathered, uses-times}
use Rattle.chi_core.proofs.UsedByOperators.{uses-done, uses-applied}

pub uses-on_truth : {A : Type 0} (o : Option Bool) (m n : Does A) → Uses m → Uses n → Uses (on_truth o m n)
uses-on_truth (Some true) m n h l = h
uses-on_truth (Some false) m n h l = l
uses-on_truth None m n h l = λ view. tt

pub uses-fresh : (shape : Shape) → Uses (fresh shape)
uses-fresh shape view = by_count (default shape view.channels)
  where
    by_count : (made : Value × ℕ) → Within view.left (within_channels view made)
    by_count made =
        within-if (nat_le made.1 MOST_CHANNELS) view.left (Gives made.0 (record view { channels = made.1 })) (Fails TooManyChannels) (le_refl view.left) tt

uses-repeated : (m : Does Value) → Uses m → (x : Value-F Value) → Uses (repeated m x)
uses-repeated m h (Value-F.Int (pos count)) = λ view.
    within-if (nat_le count MOST_ELEMENTS) view.left (giving value.ListOf (times count m view)) (Fails TooLarge)
    (within-giving view.left value.ListOf (times count m view) (uses-times [] count m h view)) tt
uses-repeated m h (Value-F.Int (negsuc n)) = λ view. tt
uses-repeated m h _ = λ view. tt

uses-place : (test : Value → Does Value) → ((y : Value) → Uses (test y)) → (ys : List Value) → Uses (place_before test ys)
uses-place test h [] view = le_refl view.left
uses-place test h (y ∷ ys) view =
    within-then view.left (test y view) (λ x. on_truth (truth_of x) (gives 0) (λ new. giving suc (place_before test ys new))) (h y view)
    (λ x. uses-on_truth (truth_of x) (gives 0) (λ new. giving suc (place_before test ys new)) (uses-gives {A = ℕ} 0)
    (λ new. within-giving new.left suc (place_before test ys new) (uses-place test h ys new)))

-- calls leave no more
abbrev pub RunUses : Run → Type 0
RunUses run = (function : ℕ) (arguments : List Value) → Uses (run function arguments)

module _ (run : Run) (calls : RunUses run) (scene : Scene) (variables : Variables) where
  uses-inserted : (function : ℕ) (xs x : Value) (y : Value-F Value) → Uses (inserted run function xs x y)
  uses-inserted function xs x (Value-F.ListOf items) = λ view.
      within-then view.left (place_before (λ y. run function (x ∷ y ∷ [])) items view) (λ place. done (insert_at xs place x))
      (uses-place (λ y. run function (x ∷ y ∷ [])) (λ y. calls function (x ∷ y ∷ [])) items view) (λ place. uses-done (insert_at xs place x))
  uses-inserted function xs x _ = λ view. tt

  abbrev meaning : CExpr → Does Value
  meaning = eval run scene variables

  -- an expression whose evaluation leaves no more
  abbrev Held : Type 0
  Held = (e : CExpr) × Uses (meaning e)

  abbrev expression_of : Held → CExpr
  expression_of h = h.0

  each : (parts : List Held) → EachUses (map meaning (map expression_of parts))
  each [] = tt
  each (h ∷ hs) = (h.1, each hs)

  layer : (y : CExpr-F Held) → Uses (eval_step run scene variables (map-CExpr CExpr (Does Value) meaning (map-CExpr Held CExpr expression_of y)))
  layer (CExpr-F.Lit v) = λ view. le_refl view.left
  layer (CExpr-F.Var slot) = uses-wanted (value_at variables slot)
  layer (CExpr-F.Const number) = uses-wanted (slice_get scene.constants number)
  layer (CExpr-F.Op name parts) = λ view.
      within-then view.left (in_turn (map meaning (map expression_of parts)) view) (applied scene name)
      (uses-gathered [] (map meaning (map expression_of parts)) (each parts) view) (uses-applied scene name)
  layer (CExpr-F.And a b) = λ view.
      within-then view.left (meaning a.0 view) (λ x. on_truth (truth_of x) (meaning b.0) (gives x)) (a.1 view)
      (λ x. uses-on_truth (truth_of x) (meaning b.0) (gives x) b.1 (uses-gives x))
  layer (CExpr-F.Or a b) = λ view.
      within-then view.left (meaning a.0 view) (λ x. on_truth (truth_of x) (gives x) (meaning b.0)) (a.1 view)
      (λ x. uses-on_truth (truth_of x) (gives x) (meaning b.0) (uses-gives x) b.1)
  layer (CExpr-F.Build kind parts) = λ view.
      within-then view.left (in_turn (map meaning (map expression_of parts)) view) (λ values. done (build kind values))
      (uses-gathered [] (map meaning (map expression_of parts)) (each parts) view) (λ values. uses-done (build kind values))
  layer (CExpr-F.Part a number) = λ view.
      within-then view.left (meaning a.0 view) (λ x. wanted (part_of x number)) (a.1 view) (λ x. uses-wanted (part_of x number))
  layer (CExpr-F.Call function parts) = λ view.
      within-then view.left (in_turn (map meaning (map expression_of parts)) view) (run function)
      (uses-gathered [] (map meaning (map expression_of parts)) (each parts) view) (calls function)
  layer (CExpr-F.InsertBy a b function) = λ view.
      within-then view.left (meaning a.0 view) (λ xs new. then_do (meaning b.0 new) (λ x. inserted run function xs x (out-Value xs))) (a.1 view)
      (λ xs new. within-then new.left (meaning b.0 new) (λ x. inserted run function xs x (out-Value xs)) (b.1 new)
      (λ x. uses-inserted function xs x (out-Value xs)))
  layer (CExpr-F.Default shape) = uses-fresh shape
  layer (CExpr-F.Repeat count each) = λ view.
      within-then view.left (meaning count.0 view) (λ n. repeated (meaning each.0) (out-Value n)) (count.1 view)
      (λ n. uses-repeated (meaning each.0) each.1 (out-Value n))

  abbrev EvalUses : CExpr → Type 0
  EvalUses e = Uses (meaning e)

  pub uses-eval : (e : CExpr) → Uses (eval run scene variables e)
  unfolding eval
  uses-eval = ind-CExpr EvalUses (λ x y e. subst (λ x. EvalUses (roll-CExpr x)) e
      (subst (λ (m : Does Value). Uses m)
      (sym (fold-roll-CExpr (Does Value) (eval_step run scene variables) (map-CExpr Held CExpr expression_of y))) (layer y)))
