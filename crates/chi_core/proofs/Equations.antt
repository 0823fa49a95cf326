-- One equation for each kind of expression.
use Rattle.std.proofs.Common.{◌≡◌, ℕ, List, map, ap, ◌∙◌}
use Rattle.std.specs.Prelude.{slice_get}
use Rattle.chi_value.specs.declared.value.Value.{Value, out-Value}
use Rattle.chi_value.specs.declared.format.Kind.{Kind}
use Rattle.chi_value.specs.declared.shape.Shape.{Shape}
use Rattle.chi_ops.specs.Operations.{build}
use Rattle.chi_core.specs.declared.op_name.OpName.{OpName}
use Rattle.chi_core.specs.declared.expression.CExpr.{CExpr, CExpr-F, fold_out-CExpr, map-CExpr, out-CExpr}
use Rattle.chi_core.specs.declared.expression.CExpr.TheVariants as e
use Rattle.chi_core.specs.Answer.{Gives, View, Does, then_do, gives, wanted, in_turn}
use Rattle.chi_core.specs.Reading.{truth_of, part_of}
use Rattle.chi_core.specs.Variables.{Variables, value_at}
use Rattle.chi_core.specs.Scene.{Scene}
use Rattle.chi_core.specs.Containers.{done}
use Rattle.chi_core.specs.Operators.{applied}
use Rattle.chi_core.specs.Evaluation.{Run, eval, eval_step, on_truth, inserted, fresh, repeated}

pub eval_out : (run : Run) (scene : Scene) (variables : Variables) (x : CExpr) (o : CExpr-F CExpr) → out-CExpr x ≡ o → (view : View)
    → eval run scene variables x view ≡ eval_step run scene variables (map-CExpr _ _ (eval run scene variables) o) view
unfolding eval
eval_out run scene variables x o h view =
    ap (λ f. f view) (fold_out-CExpr (Does Value) (eval_step run scene variables) x)
    ∙ ap (λ o. eval_step run scene variables (map-CExpr _ _ (eval run scene variables) o) view) h

module _ (run : Run) (scene : Scene) (variables : Variables) (view : View) where
  pub eval_lit : (v : Value) → eval run scene variables (e.Lit v) view ≡ Gives v view
  eval_lit v = eval_out run scene variables (e.Lit v) _ (e.outs-Lit v) view

  pub eval_var : (slot : ℕ) → eval run scene variables (e.Var slot) view ≡ wanted (value_at variables slot) view
  eval_var slot = eval_out run scene variables (e.Var slot) _ (e.outs-Var slot) view

  pub eval_const : (k : ℕ) → eval run scene variables (e.Const k) view ≡ wanted (slice_get scene.constants k) view
  eval_const k = eval_out run scene variables (e.Const k) _ (e.outs-Const k) view

  pub eval_op : (name : OpName) (parts : List CExpr) → eval run scene variables (e.Op name parts) view ≡ then_do (in_turn (map (eval run scene variables) parts) view) (applied scene name)
  eval_op name parts = eval_out run scene variables (e.Op name parts) _ (e.outs-Op name parts) view

  pub eval_and : (a b : CExpr) → eval run scene variables (e.And a b) view ≡ then_do (eval run scene variables a view) (λ x. on_truth (truth_of x) (eval run scene variables b) (gives x))
  eval_and a b = eval_out run scene variables (e.And a b) _ (e.outs-And a b) view

  pub eval_or : (a b : CExpr) → eval run scene variables (e.Or a b) view ≡ then_do (eval run scene variables a view) (λ x. on_truth (truth_of x) (gives x) (eval run scene variables b))
  eval_or a b = eval_out run scene variables (e.Or a b) _ (e.outs-Or a b) view

  pub eval_build : (kind : Kind) (parts : List CExpr) → eval run scene variables (e.Build kind parts) view ≡ then_do (in_turn (map (eval run scene variables) parts) view) (λ values. done (build kind values))
  eval_build kind parts = eval_out run scene variables (e.Build kind parts) _ (e.outs-Build kind parts) view

  pub eval_part : (a : CExpr) (k : ℕ) → eval run scene variables (e.Part a k) view ≡ then_do (eval run scene variables a view) (λ x. wanted (part_of x k))
  eval_part a k = eval_out run scene variables (e.Part a k) _ (e.outs-Part a k) view

  pub eval_call : (k : ℕ) (parts : List CExpr) → eval run scene variables (e.Call k parts) view ≡ then_do (in_turn (map (eval run scene variables) parts) view) (run k)
  eval_call k parts = eval_out run scene variables (e.Call k parts) _ (e.outs-Call k parts) view

  pub eval_default : (shape : Shape) → eval run scene variables (e.Default shape) view ≡ fresh shape view
  eval_default shape = eval_out run scene variables (e.Default shape) _ (e.outs-Default shape) view

  pub eval_repeat : (n each : CExpr) → eval run scene variables (e.Repeat n each) view ≡ then_do (eval run scene variables n view) (λ x. repeated (eval run scene variables each) (out-Value x))
  eval_repeat n each = eval_out run scene variables (e.Repeat n each) _ (e.outs-Repeat n each) view

  pub eval_insert : (a b : CExpr) (k : ℕ) → eval run scene variables (e.InsertBy a b k) view
      ≡ then_do (eval run scene variables a view) (λ xs now. then_do (eval run scene variables b now) (λ x. inserted run k xs x (out-Value xs)))
  eval_insert a b k = eval_out run scene variables (e.InsertBy a b k) _ (e.outs-InsertBy a b k) view
