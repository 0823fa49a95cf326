-- What is said of the machine: its code does what expressions, items, bodies, calls and constants mean.
use Rattle.std.specs.Prelude.{◌≡◌, ℕ, ◌+◌, ◌≤◌, Some, List, [], ◌∷◌, ◌++◌, map, length, reverse, true, false, slice_get}
use Rattle.chi_types.specs.declared.ty.Ty.{Ty}
use Rattle.chi_value.specs.declared.value.Value.{Value}
use Rattle.chi_core.specs.declared.expression.CExpr.{CExpr, out-CExpr}
use Rattle.chi_core.specs.declared.limits.TheConstants.{MOST_CALLS}
use Rattle.chi_core.specs.declared.program.ConstDef.{ConstDef}
use Rattle.chi_core.specs.declared.program.Core.{Core}
use Rattle.chi_core.specs.declared.scene.Scene.{Scene}
use Rattle.chi_core.specs.declared.view.View.{View}
use Rattle.chi_core.specs.Answer.{Answer, Gives, Fails, Spent, Amiss, giving, in_turn}
use Rattle.chi_core.specs.Beginning.{no_call, constant_scene, constant_view, constant_value}
use Rattle.chi_core.specs.Evaluation.{Run, eval}
use Rattle.chi_core.specs.Functions.{calls, run_at, exec}
use Rattle.chi_core.specs.Step.{line_of}
use Rattle.chi_core.specs.Terms.{Item, Term, act}
use Rattle.chi_core.specs.Variables.{Variables}
use Rattle.chi_code.specs.declared.code.Around.{Around}
use Rattle.chi_code.specs.declared.code.Code.{Code}
use Rattle.chi_code.specs.declared.instr.Instr.{Instr}
use Rattle.chi_code.specs.declared.instr.Instr.TheVariants as i
use Rattle.chi_code.specs.Codes.{in_function, Codes}
use Rattle.chi_code.specs.ExpressionLayout.{Has, ExprAt, ExprsAt}
use Rattle.chi_exec_law.specs.Runs.{End, Rests, Faults, Spends, Goal, Just, Reaches, Brings}
use Rattle.chi_exec_law.specs.State.{Turning, Frame, Caller, State, state, frame_of, on_stack, pushed}
use Rattle.chi_exec_law.specs.Instructions.{set_const_on}
use Rattle.chi_exec_law.specs.Machine.{Setting, Inner, Work, in_expressions, stops_at, halts, step}
use Rattle.chi_exec_law.specs.Standing.{TermAt, ReadyAt, DidAt}

-- what expressions come to, one after another
abbrev pub evaluated : Core → Scene → Variables → List CExpr → View → Answer (List Value)
evaluated core scene variables es = in_turn (map (eval (calls core.funcs scene) scene variables) es)

-- A whole run, outside of all functions: nothing is on the stack, and nothing is under way.

abbrev pub begun : ℕ → Variables → View → State
begun a variables view = state a [] (frame_of variables []) [] view

-- A run ends in what values come to: it rests at z with exactly these on the stack, the variables as they were; or it
-- ends as they fail. Where they are amiss nothing is said.
abbrev pub Values : Setting → ℕ → Variables → State → Answer (List Value) → Type 0
Values m z variables s (Gives values view) = Reaches (step m) s (Rests (state z (reverse values) (frame_of variables []) [] view))
Values m z variables s (Fails kind) = Reaches (step m) s (Faults kind)
Values m z variables s Spent = Reaches (step m) s Spends
Values m z variables s Amiss = Unit {0}

abbrev pub ExpressionsRun : Type 0
ExpressionsRun =
    (core : Core) (code : Code) → Codes core code → (scene : Scene) (es : List CExpr) (a z : ℕ) → ExprsAt code.instrs es a z
    → stops_at (in_expressions code scene) (slice_get code.instrs z) ≡ true → (variables : Variables) (view : View)
    → Values (in_expressions code scene) z variables (begun a variables view) (evaluated core scene variables es view)

-- A constant's code from a on, which calls nothing, up to the instruction that sets it at z.
abbrev pub ConstantsRun : Type 0
ConstantsRun =
    (code : Code) (scene : Scene) (c : ConstDef) (number a z : ℕ) → ExprAt code.instrs (out-CExpr c.value) a z → Has code.instrs z (i.SetConst number c.line)
    → (variables : Variables) (view : View)
    → Values (in_expressions code scene) z variables (begun a variables view) (giving (λ v. v ∷ []) (eval no_call scene variables c.value view))

-- What the constants are once that one is set, after those whose values these are: its value joins them.
abbrev pub SetsTo : Setting → State → ℕ → ℕ → List Value → Answer Value → Type 0
SetsTo m s number line before (Gives v view) =
    (t : State) × Reaches (step m) s (Rests t) × Has m.code.instrs t.at (i.SetConst number line) × (set_const_on t before ≡ Some (before ++ v ∷ []))
SetsTo m s number line before (Fails kind) = Reaches (step m) s (Faults kind)
SetsTo m s number line before Spent = Reaches (step m) s Spends
SetsTo m s number line before Amiss = Unit {0}

abbrev pub ConstantsSet : Type 0
ConstantsSet =
    (core : Core) (code : Code) (c : ConstDef) (number a z : ℕ) → ExprAt code.instrs (out-CExpr c.value) a z → Has code.instrs z (i.SetConst number c.line)
    → (seed : ℕ) (before : List Value)
    → SetsTo (in_expressions code (constant_scene core seed before)) (begun a [] constant_view) number c.line before (constant_value core seed before c)

-- a run has one end at most
abbrev pub OneEnd : Type 0
OneEnd = (m : Setting) (s : State) (e f : End State) → Reaches (step m) s e → Reaches (step m) s f → e ≡ f

-- Anywhere: with values on the stack, with something under way, within other calls. So a machine that is over this one
-- has these laws too.

-- values come on top, as many as were wanted
abbrev pub All : ℕ → ℕ → List Value → Frame → List Caller → Goal State (List Value)
All count z stack frame callers values view s = (length values ≡ count) × (s ≡ state z (pushed values stack) frame callers view)

-- From a call with its arguments on top, the machine brings what the call does.
abbrev pub Calls : Setting → Run → List Caller → Type 0
Calls m run callers =
    (frame : Frame) (number : ℕ) (arguments : List Value) (a : ℕ) (stack : List Value) (view : View) → Has m.code.instrs a (i.Call number)
    → Brings (step m) view.left (state a (pushed arguments stack) frame callers view) (Just (on_stack (a + 1) stack frame callers)) (run number arguments view)

-- The machine runs the code of a program. So many callers wait that so many calls may still be within each other, and the
-- run isn't one that a part of an expression stops.
pub record InCode (core : Core) (m : Setting) (callers : List Caller) (more : ℕ) : Type 0 where
  pub codes : Codes core m.code
  pub free : halts m callers (m.stops Inner) ≡ false
  pub count : length callers + more ≡ MOST_CALLS

abbrev pub CallsLead : Type 0
CallsLead = (core : Core) (m : Setting) (callers : List Caller) (more : ℕ) → InCode core m callers more → Calls m (run_at more core.funcs m.scene) callers

abbrev pub ExpressionsLead : Type 0
ExpressionsLead =
    (core : Core) (m : Setting) (callers : List Caller) (more : ℕ) → InCode core m callers more → (es : List CExpr) (a z : ℕ) → ExprsAt m.code.instrs es a z
    → (variables : Variables) (under : List Turning) (stack : List Value) (view : View)
    → Brings (step m) view.left (state a stack (frame_of variables under) callers view) (All (length es) z stack (frame_of variables under) callers)
    (in_turn (map (eval (run_at more core.funcs m.scene) m.scene variables) es) view)

-- An item of a term, in a function or in a process, from behind the instruction that begins its turn, which has its line.
-- What only an instance does is amiss here.
abbrev pub ItemsLead : Type 0
ItemsLead =
    (core : Core) (m : Setting) (callers : List Caller) (more : ℕ) → InCode core m callers more → halts m callers (m.stops Work) ≡ false
    → (turn : ℕ → Instr) (slots : List Ty) (end : Instr) (around : List Around) (under : List Turning) (x : Item) (term : Term) (a : ℕ)
    → ReadyAt m.code.instrs turn slots end around under (x ∷ term) a → (variables : Variables) (stack : List Value) (view : View)
    → Brings (step m) view.left (state (a + 1) stack (frame_of variables under) callers view) (DidAt m.code.instrs turn slots end stack callers)
    (act (eval (run_at more core.funcs m.scene) m.scene variables) variables x term view)

abbrev pub ItemsHaveLines : Type 0
ItemsHaveLines =
    (code : List Instr) (turn : ℕ → Instr) (slots : List Ty) (end : Instr) (around : List Around) (under : List Turning) (x : Item) (term : Term) (a : ℕ)
    → ReadyAt code turn slots end around under (x ∷ term) a → Has code a (turn (line_of x))

-- What is left of a function's body: its value comes back to the caller, which has what it had.
abbrev pub BodiesLead : Type 0
BodiesLead =
    (core : Core) (m : Setting) (c : Caller) (callers : List Caller) (more : ℕ) → InCode core m (c ∷ callers) more
    → (slots : List Ty) (around : List Around) (under : List Turning) (term : Term) (a : ℕ) → TermAt m.code.instrs in_function slots i.NoRet around under term a
    → (variables : Variables) (stack : List Value) (turns : ℕ) (view : View) → view.left ≤ turns
    → Brings (step m) view.left (state a stack (frame_of variables under) (c ∷ callers) view) (Just (on_stack c.back stack c.frame callers))
    (exec turns (run_at more core.funcs m.scene) m.scene variables term view)
