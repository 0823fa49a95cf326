-- A place in the code, and what is under way there, stand for a term.
use Rattle.std.specs.Prelude.{ℕ, List, [], ◌∷◌}
use Rattle.chi_types.specs.declared.ty.Ty.{Ty}
use Rattle.chi_value.specs.declared.value.Value.{Value}
use Rattle.chi_core.specs.declared.expression.CExpr.{CExpr}
use Rattle.chi_core.specs.declared.statement.CStat.{CStat, out-CStat}
use Rattle.chi_core.specs.declared.view.View.{View}
use Rattle.chi_core.specs.Terms.{Do, Loop, Walk, Term, Did, On, Returns}
use Rattle.chi_core.specs.Variables.{Variables}
use Rattle.chi_code.specs.declared.code.Around.{Around}
use Rattle.chi_code.specs.declared.instr.Instr.{Instr}
use Rattle.chi_code.specs.declared.instr.Instr.TheVariants as i
use Rattle.chi_code.specs.ExpressionLayout.{Has}
use Rattle.chi_code.specs.StatementLayout.{looping, walking, StatAt, LoopAt, WalkAt}
use Rattle.chi_exec_law.specs.State.{Turning, Walking, Frame, Caller, State, state, frame_of}

-- In a body whose turns begin with an instruction of its own, whose slots have types, and behind which an instruction
-- stands. The loops around a place are those of the term's items, and what is under way there are the walks among them.
module _ (code : List Instr) (turn : ℕ → Instr) (slots : List Ty) (end : Instr) where
  mutual
    -- through jumps to the instruction that is next
    pub data TermAt : List Around → List Turning → Term → ℕ → Type 0 where
      here : (around : List Around) (under : List Turning) (term : Term) (a : ℕ) → ReadyAt around under term a → TermAt around under term a
      jumps : (around : List Around) (under : List Turning) (term : Term) (a b : ℕ) → Has code a (i.Jump b) → TermAt around under term b → TermAt around under term a

    -- there begins the turn of the first item; or there is the end of the body
    pub data ReadyAt : List Around → List Turning → Term → ℕ → Type 0 where
      over : (a : ℕ) → Has code a end → ReadyAt [] [] [] a
      does : (around : List Around) (under : List Turning) (x : CStat) (term : Term) (a b : ℕ) → StatAt code turn slots around (out-CStat x) a b → TermAt around under term b
          → ReadyAt around under (Do x ∷ term) a
      again : (around : List Around) (under : List Turning) (line : ℕ) (test : CExpr) (block : List CStat) (term : Term) (a b : ℕ) → LoopAt code turn slots around line test block a b
          → TermAt around under term b → ReadyAt (looping a b ∷ around) under (Loop line test block ∷ term) a
      walks_on : (around : List Around) (under : List Turning) (line : ℕ) (names : List ℕ) (elements : List Value) (block : List CStat) (term : Term) (a b : ℕ)
          → WalkAt code turn slots around line names block a b → TermAt around under term b
          → ReadyAt (walking a b ∷ around) (Walking elements ∷ under) (Walk line names elements block ∷ term) a

  -- the machine stands for what an item came to: a place for the term that is left; or a `ret`, with the value on top
  pub data DidAt (stack : List Value) (callers : List Caller) : Did → View → State → Type 0 where
    went : (around : List Around) (under : List Turning) (variables : Variables) (term : Term) (a : ℕ) (view : View) → TermAt around under term a
        → DidAt stack callers (On variables term) view (state a stack (frame_of variables under) callers view)
    gave : (x : Value) (frame : Frame) (a : ℕ) (view : View) → Has code a i.Ret → DidAt stack callers (Returns x) view (state a (x ∷ stack) frame callers view)
