-- The code that reads a target brings what stands there.
use Rattle.std.proofs.Common.{◌≡◌, ℕ, ◌+◌, List, [], ◌∷◌, false, refl, ap, ◌∙◌, arith}
use Rattle.chi_types.specs.declared.ty.Ty.{Ty, Ty-F, out-Ty}
use Rattle.chi_value.specs.declared.value.Value.{Value, out-Value}
use Rattle.chi_core.specs.declared.expression.CExpr.{CExpr, out-CExpr}
use Rattle.chi_core.specs.declared.op_name.OpName.{OpName}
use Rattle.chi_core.specs.declared.op_name.OpName.TheVariants as op
use Rattle.chi_core.specs.declared.target.CStep.{CStep}
use Rattle.chi_core.specs.declared.target.CStep.TheVariants as into
use Rattle.chi_core.specs.declared.target.CTarget.{CTarget}
use Rattle.chi_core.specs.declared.view.View.{View}
use Rattle.chi_core.specs.Answer.{Does, wanted, through}
use Rattle.chi_core.specs.Evaluation.{Run, eval}
use Rattle.chi_core.specs.Operators.{applied}
use Rattle.chi_core.specs.Reading.{part_of}
use Rattle.chi_core.specs.Spots.{element_by, read_step, read_at}
use Rattle.chi_core.specs.Variables.{Variables, value_at}
use Rattle.chi_core.proofs.Used.{uses-wanted}
use Rattle.chi_core.proofs.UsedByTerms.{uses-element_by}
use Rattle.chi_code.specs.declared.instr.Instr.TheVariants as i
use Rattle.chi_code.specs.ExpressionLayout.{Has, ExprAt}
use Rattle.chi_code.specs.StatementLayout.{IntoAt, no_step, into_list, into_dictionary, into_tuple, ReadAt, reads}
use Rattle.chi_exec_law.specs.Runs.{taken, Just, Brings}
use Rattle.chi_exec_law.specs.State.{Turning, Caller, State, state, frame_of, on_stack}
use Rattle.chi_exec_law.specs.Instructions.{key_or}
use Rattle.chi_exec_law.specs.Machine.{Setting, Inner, halts, step}
use Rattle.chi_exec_law.specs.Laws.{Calls}
use Rattle.chi_exec_law.proofs.Going.{just_brings, fewer, brings_here, taken_brings}
use Rattle.chi_exec_law.proofs.Moving.{acts}
use Rattle.chi_exec_law.proofs.Expressions.{expr_runs}

module _ (m : Setting) (run : Run) (callers : List Caller) (free : halts m callers (m.stops Inner) ≡ false) (calls : Calls m run callers) (variables : Variables) (stack : List Value) (under : List Turning) where
  abbrev At : ℕ → List Value → View → State
  At a values view = state a values (frame_of variables under) callers view

  abbrev Top : ℕ → Value → View → State
  Top z = on_stack z stack (frame_of variables under) callers

  abbrev value_of : CExpr → Does Value
  value_of = eval run m.scene variables

  -- an index, or a key
  by_key : (name : OpName) → ((v k : Value) (other : Does Value) → key_or name (v ∷ k ∷ []) other ≡ element_by v (out-Value v) k (out-Value k)) → (e : CExpr) (a b : ℕ) → ExprAt m.code.instrs (out-CExpr e) a b
      → Has m.code.instrs b (i.Op name 2) → (v : Value) (view : View) → Brings (step m) view.left (At a (v ∷ stack) view) (Just (Top (b + 1))) (read_step value_of (into.Index e) v view)
  by_key name is e a b h k v view =
      just_brings (step m) view.left _ (on_stack b (v ∷ stack) (frame_of variables under) callers) (Just (Top (b + 1))) (value_of e view) (λ key. element_by v (out-Value v) key (out-Value key))
      (expr_runs m run callers free calls variables e a b h (v ∷ stack) under view)
      (λ key now le. fewer (step m) now.left view.left _ (Just (Top (b + 1))) _ le
      (taken_brings (step m) now.left _ (Top (b + 1)) (element_by v (out-Value v) key (out-Value key) now) (uses-element_by v (out-Value v) key (out-Value key) now)
      (acts m (i.Op name 2) b (key ∷ v ∷ stack) (frame_of variables under) callers now k free
      ∙ ap (λ (f : Does Value). taken (f now) (Top (b + 1))) (is v key (applied m.scene name (v ∷ key ∷ []))))))

  into_runs : (T : Ty-F Ty) (steps : List CStep) (a z : ℕ) → IntoAt m.code.instrs T steps a z → (v : Value) (view : View)
      → Brings (step m) view.left (At a (v ∷ stack) view) (Just (Top z)) (through (read_step value_of) steps v view)
  into_runs _ _ _ _ (no_step T a) v view = brings_here (step m) view.left _ (Just (Top a)) v view (omega arith) refl
  into_runs _ _ _ _ (into_list t e steps a b c h k r) v view =
      just_brings (step m) view.left _ (Top (b + 1)) (Just (Top c)) (read_step value_of (into.Index e) v view) (through (read_step value_of) steps) (by_key op.Index (λ v k other. refl) e a b h k v view)
      (λ x now le. fewer (step m) now.left view.left _ (Just (Top c)) _ le (into_runs (out-Ty t) steps (b + 1) c r x now))
  into_runs _ _ _ _ (into_dictionary key has e steps a b c h k r) v view =
      just_brings (step m) view.left _ (Top (b + 1)) (Just (Top c)) (read_step value_of (into.Index e) v view) (through (read_step value_of) steps) (by_key op.Lookup (λ v k other. refl) e a b h k v view)
      (λ x now le. fewer (step m) now.left view.left _ (Just (Top c)) _ le (into_runs (out-Ty has) steps (b + 1) c r x now))
  into_runs _ _ _ _ (into_tuple parts p number steps a c at k r) v view =
      just_brings (step m) view.left _ (Top (a + 1)) (Just (Top c)) (wanted (part_of v number) view) (through (read_step value_of) steps)
      (taken_brings (step m) view.left _ (Top (a + 1)) (wanted (part_of v number) view) (uses-wanted (part_of v number) view) (acts m (i.Part number) a (v ∷ stack) (frame_of variables under) callers view k free))
      (λ x now le. fewer (step m) now.left view.left _ (Just (Top c)) _ le (into_runs (out-Ty p.1) steps (a + 1) c r x now))

  pub read_runs : (slots : List Ty) (t : CTarget) (a z : ℕ) → ReadAt m.code.instrs slots t a z → (view : View) → Brings (step m) view.left (At a stack view) (Just (Top z)) (read_at value_of variables t view)
  read_runs slots t _ _ (reads T a z at k r) view =
      just_brings (step m) view.left _ (Top (a + 1)) (Just (Top z)) (wanted (value_at variables t.slot) view) (through (read_step value_of) t.steps)
      (taken_brings (step m) view.left _ (Top (a + 1)) (wanted (value_at variables t.slot) view) (uses-wanted (value_at variables t.slot) view) (acts m (i.Load t.slot) a stack (frame_of variables under) callers view k free))
      (λ x now le. fewer (step m) now.left view.left _ (Just (Top z)) _ le (into_runs (out-Ty T) t.steps (a + 1) z r x now))
