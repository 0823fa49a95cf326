-- What each kind of expression is, and that what it asks for isn't amiss where the whole isn't.
use Rattle.std.proofs.Common.{◌≡◌, ◌≢◌, ℕ, ◌∙◌, Bool, true, false, List, Some, None, map, ap, sym, refl, slice_get}
use Rattle.std.specs.Prelude.{nat_eq, if◌then◌else◌}
use Rattle.std.specs.Option.{option_and_then}
use Rattle.chi_core.specs.declared.program.FuncDef.{FuncDef}
use Rattle.chi_core.specs.Functions.{callee, taking}
use Rattle.chi_value.specs.declared.value.Value.{Value}
use Rattle.chi_value.specs.declared.format.Kind.{Kind}
use Rattle.chi_value.specs.declared.shape.Shape.{Shape}
use Rattle.chi_ops.specs.Operations.{build}
use Rattle.chi_core.specs.declared.op_name.OpName.{OpName}
use Rattle.chi_core.specs.declared.expression.CExpr.{CExpr}
use Rattle.chi_core.specs.declared.expression.CExpr.TheVariants as e
use Rattle.chi_core.specs.declared.scene.Scene.{Scene}
use Rattle.chi_core.specs.declared.view.View.{View}
use Rattle.chi_core.specs.Answer.{Gives, Amiss, then_do, wanted, in_turn}
use Rattle.chi_core.specs.Reading.{part_of}
use Rattle.chi_core.specs.Variables.{Variables, value_at}
use Rattle.chi_core.specs.Containers.{done}
use Rattle.chi_core.specs.Operators.{applied}
use Rattle.chi_core.specs.Evaluation.{Run, Evaluates, eval, fresh}
use Rattle.chi_core.proofs.Equations.{eval_lit, eval_var, eval_const, eval_op, eval_and, eval_or, eval_build, eval_part, eval_call, eval_insert, eval_default, eval_repeat}
use Rattle.chi_core_frame.specs.declared.stop.Stop.{Stop}
use Rattle.chi_core_frame.specs.Stops.{Stops}
use Rattle.chi_plain_eval.specs.Kinds as kinds
use Rattle.chi_core_apply.proofs.Parts.{at_place}
use Rattle.chi_core_frame.proofs.Stopping.{then_stops, then_there, wanted_there}

-- the function that takes so many arguments
taking_is : (count : ℕ) (f : FuncDef) → taking count f ≢ None → taking count f ≡ Some f
taking_is count f h = by_test (nat_eq count f.arity) h
  where
    by_test : (b : Bool) → (if b then Some f else None) ≢ None → (if b then Some f else None) ≡ Some f
    by_test true h = refl
    by_test false h = absurd (h refl)

pub callee_place : (functions : List FuncDef) (k count : ℕ) → callee functions k count ≢ None → slice_get functions k ≢ None
callee_place functions k count h e = h (ap (option_and_then (taking count)) e)

pub callee_found : (functions : List FuncDef) (k count : ℕ) (f : FuncDef) → slice_get functions k ≡ Some f → callee functions k count ≢ None → callee functions k count ≡ Some f
callee_found functions k count f e h = ap (option_and_then (taking count)) e ∙ taking_is count f (λ a. h (ap (option_and_then (taking count)) e ∙ a))

module _ (run : Run) (scene : Scene) (variables : Variables) (view : View) (x : CExpr) where
  pub var_there : (slot : ℕ) → x ≡ e.Var slot → eval run scene variables x view ≢ Amiss → value_at variables slot ≢ None
  var_there slot is h = wanted_there (value_at variables slot) view (λ a. h (ap (λ x. eval run scene variables x view) is ∙ eval_var run scene variables view slot ∙ a))

  pub const_there : (k : ℕ) → x ≡ e.Const k → eval run scene variables x view ≢ Amiss → slice_get scene.constants k ≢ None
  const_there k is h = wanted_there (slice_get scene.constants k) view (λ a. h (ap (λ x. eval run scene variables x view) is ∙ eval_const run scene variables view k ∙ a))

  -- what each kind of expression is
  pub lit_is : (v : Value) → x ≡ e.Lit v → eval run scene variables x view ≡ Gives v view
  lit_is v is = ap (λ x. eval run scene variables x view) is ∙ eval_lit run scene variables view v

  pub var_is : (slot : ℕ) (v : Value) → x ≡ e.Var slot → value_at variables slot ≡ Some v → eval run scene variables x view ≡ Gives v view
  var_is slot v is at = ap (λ x. eval run scene variables x view) is ∙ eval_var run scene variables view slot ∙ ap (λ o. wanted o view) at

  pub const_is : (k : ℕ) (v : Value) → x ≡ e.Const k → slice_get scene.constants k ≡ Some v → eval run scene variables x view ≡ Gives v view
  const_is k v is at = ap (λ x. eval run scene variables x view) is ∙ eval_const run scene variables view k ∙ ap (λ o. wanted o view) at

  pub op_is : (name : OpName) (parts l : List CExpr) → x ≡ e.Op name parts → l ≡ parts
      → eval run scene variables x view ≡ then_do (in_turn (map (eval run scene variables) l) view) (applied scene name)
  op_is name parts l is same = ap (λ x. eval run scene variables x view) (is ∙ ap (e.Op name) (sym same)) ∙ eval_op run scene variables view name l

  pub and_is : (a b c d : CExpr) → x ≡ e.And a b → c ≡ a → d ≡ b → eval run scene variables x view ≡ kinds.second_where (eval run scene variables) true c d view
  and_is a b c d is same next = ap (λ x. eval run scene variables x view) (is ∙ (λ i. e.And (sym same i) (sym next i))) ∙ eval_and run scene variables view c d

  pub or_is : (a b c d : CExpr) → x ≡ e.Or a b → c ≡ a → d ≡ b → eval run scene variables x view ≡ kinds.second_where (eval run scene variables) false c d view
  or_is a b c d is same next = ap (λ x. eval run scene variables x view) (is ∙ (λ i. e.Or (sym same i) (sym next i))) ∙ eval_or run scene variables view c d

  pub build_is : (kind : Kind) (parts l : List CExpr) → x ≡ e.Build kind parts → l ≡ parts
      → eval run scene variables x view ≡ then_do (in_turn (map (eval run scene variables) l) view) (λ values. done (build kind values))
  build_is kind parts l is same = ap (λ x. eval run scene variables x view) (is ∙ ap (e.Build kind) (sym same)) ∙ eval_build run scene variables view kind l

  pub part_is : (a c : CExpr) (k : ℕ) → x ≡ e.Part a k → c ≡ a → eval run scene variables x view ≡ kinds.taken_part (eval run scene variables) c k view
  part_is a c k is same = ap (λ x. eval run scene variables x view) (is ∙ ap (λ a. e.Part a k) (sym same)) ∙ eval_part run scene variables view c k

  pub call_is : (k : ℕ) (parts l : List CExpr) → x ≡ e.Call k parts → l ≡ parts
      → eval run scene variables x view ≡ then_do (in_turn (map (eval run scene variables) l) view) (run k)
  call_is k parts l is same = ap (λ x. eval run scene variables x view) (is ∙ ap (e.Call k) (sym same)) ∙ eval_call run scene variables view k l

  pub insert_is : (a b c d : CExpr) (k : ℕ) → x ≡ e.InsertBy a b k → c ≡ a → d ≡ b
      → eval run scene variables x view ≡ kinds.inserted_by (eval run scene variables) run k c d view
  insert_is a b c d k is same next =
      ap (λ x. eval run scene variables x view) (is ∙ (λ i. e.InsertBy (sym same i) (sym next i) k)) ∙ eval_insert run scene variables view c d k

  pub default_is : (shape : Shape) → x ≡ e.Default shape → eval run scene variables x view ≡ fresh shape view
  default_is shape is = ap (λ x. eval run scene variables x view) is ∙ eval_default run scene variables view shape

  pub repeat_is : (a b c d : CExpr) → x ≡ e.Repeat a b → c ≡ a → d ≡ b → eval run scene variables x view ≡ kinds.repeated_each (eval run scene variables) c d view
  repeat_is a b c d is same next = ap (λ x. eval run scene variables x view) (is ∙ (λ i. e.Repeat (sym same i) (sym next i))) ∙ eval_repeat run scene variables view c d

  -- and where the whole isn't amiss
  pub op_whole : (name : OpName) (parts : List CExpr) → x ≡ e.Op name parts → eval run scene variables x view ≢ Amiss
      → then_do (in_turn (map (eval run scene variables) parts) view) (applied scene name) ≢ Amiss
  op_whole name parts is h a = h (op_is name parts parts is refl ∙ a)

  pub and_whole : (a b : CExpr) → x ≡ e.And a b → eval run scene variables x view ≢ Amiss → kinds.second_where (eval run scene variables) true a b view ≢ Amiss
  and_whole a b is h n = h (and_is a b a b is refl refl ∙ n)

  pub or_whole : (a b : CExpr) → x ≡ e.Or a b → eval run scene variables x view ≢ Amiss → kinds.second_where (eval run scene variables) false a b view ≢ Amiss
  or_whole a b is h n = h (or_is a b a b is refl refl ∙ n)

  pub build_whole : (kind : Kind) (parts : List CExpr) → x ≡ e.Build kind parts → eval run scene variables x view ≢ Amiss
      → then_do (in_turn (map (eval run scene variables) parts) view) (λ values. done (build kind values)) ≢ Amiss
  build_whole kind parts is h a = h (build_is kind parts parts is refl ∙ a)

  pub part_whole : (a : CExpr) (k : ℕ) → x ≡ e.Part a k → eval run scene variables x view ≢ Amiss → kinds.taken_part (eval run scene variables) a k view ≢ Amiss
  part_whole a k is h n = h (part_is a a k is refl ∙ n)

  pub call_whole : (k : ℕ) (parts : List CExpr) → x ≡ e.Call k parts → eval run scene variables x view ≢ Amiss
      → then_do (in_turn (map (eval run scene variables) parts) view) (run k) ≢ Amiss
  call_whole k parts is h a = h (call_is k parts parts is refl ∙ a)

  pub insert_whole : (a b : CExpr) (k : ℕ) → x ≡ e.InsertBy a b k → eval run scene variables x view ≢ Amiss
      → kinds.inserted_by (eval run scene variables) run k a b view ≢ Amiss
  insert_whole a b k is h n = h (insert_is a b a b k is refl refl ∙ n)

  pub repeat_whole : (a b : CExpr) → x ≡ e.Repeat a b → eval run scene variables x view ≢ Amiss → kinds.repeated_each (eval run scene variables) a b view ≢ Amiss
  repeat_whole a b is h n = h (repeat_is a b a b is refl refl ∙ n)

-- the part of a tuple
module _ (m : Evaluates) (a : CExpr) (k : ℕ) (view : View) where
  pub part_first : kinds.taken_part m a k view ≢ Amiss → m a view ≢ Amiss
  part_first h = then_there (m a view) (λ x. wanted (part_of x k)) h

  pub part_stops : (stop : Stop) → Stops stop (m a view) → Stops stop (kinds.taken_part m a k view)
  part_stops stop s = then_stops stop (m a view) (λ x. wanted (part_of x k)) s

  pub part_goes : (v : Value) (now : View) → m a view ≡ Gives v now → kinds.taken_part m a k view ≡ wanted (part_of v k) now
  part_goes v now got = ap (λ it. then_do it (λ x. wanted (part_of x k))) got

  pub part_next : (v : Value) (now : View) → m a view ≡ Gives v now → kinds.taken_part m a k view ≢ Amiss → wanted (part_of v k) now ≢ Amiss
  part_next v now got h n = h (part_goes v now got ∙ n)

pub ruleset parts = (part_first, part_stops, part_next)

pub ruleset standing = (var_there, const_there, op_whole, and_whole, or_whole, build_whole, part_whole, call_whole, insert_whole, repeat_whole)

pub ruleset places = (at_place, callee_place, callee_found)
