-- A place in the code stands for a term: blocks, breaks, and the jumps on the way.
use Rattle.std.proofs.Common.{◌≡◌, ℕ, List, ◌∷◌, Some, Bool, true, false, refl}
use Rattle.chi_types.specs.declared.ty.Ty.{Ty}
use Rattle.chi_value.specs.declared.value.Value.{Value}
use Rattle.chi_core.specs.declared.statement.CStat.{CStat}
use Rattle.chi_core.specs.declared.view.View.{View}
use Rattle.chi_core.specs.Terms.{Term, first_the, after_loop, from_loop}
use Rattle.chi_code.specs.declared.code.Around.{Around}
use Rattle.chi_code.specs.declared.instr.Instr.{Instr}
use Rattle.chi_code.specs.declared.instr.Instr.TheVariants as i
use Rattle.chi_code.specs.StatementLayout.{BlockAt, no_statement, one_statement}
use Rattle.chi_exec_law.specs.Runs.{Leads}
use Rattle.chi_exec_law.specs.State.{Turning, Walking, Frame, Caller, state}
use Rattle.chi_exec_law.specs.Machine.{Inner, Setting, halts, step}
use Rattle.chi_exec_law.specs.Standing.{TermAt, here, jumps, ReadyAt, does, again, walks_on}
use Rattle.chi_exec_law.proofs.Going.{leads_same, leads_on, leads_step}
use Rattle.chi_exec_law.proofs.Moving.{acts}

-- what is under way once a loop, or a walk, is left
pub data Left : Bool → List Turning → List Turning → Type 0 where
  same : (under : List Turning) → Left false under under
  popped : (w : List Value) (under : List Turning) → Left true (Walking w ∷ under) under

module _ (code : List Instr) (turn : ℕ → Instr) (slots : List Ty) (end : Instr) where
  -- a block, and what comes after it
  pub block_term : (around : List Around) (under : List Turning) (xs : List CStat) (term : Term) (a b : ℕ) → BlockAt code turn slots around xs a b → TermAt code turn slots end around under term b
      → TermAt code turn slots end around under (first_the xs term) a
  block_term _ under _ term _ _ (no_statement around a) t = t
  block_term _ under _ term _ _ (one_statement around x xs a b c h k) t = here around under _ a (does around under x _ a b h (block_term around under xs term b c k t))

  -- `break` leads to where the loop around ends, `continue` to where it turns
  pub record Broken (l : Around) (around : List Around) (under : List Turning) (term : Term) : Type 0 where
    pub rest : Term
    pub is : after_loop term ≡ Some rest
    pub outer : List Turning
    pub left : Left l.walks under outer
    pub at : TermAt code turn slots end around outer rest l.end

  pub record Continued (l : Around) (around : List Around) (under : List Turning) (term : Term) : Type 0 where
    pub rest : Term
    pub is : from_loop term ≡ Some rest
    pub at : TermAt code turn slots end (l ∷ around) under rest l.top

  mutual
    pub broken : (l : Around) (around : List Around) (under : List Turning) (term : Term) (a : ℕ) → TermAt code turn slots end (l ∷ around) under term a → Broken l around under term
    broken l around under term a (here _ _ _ _ h) = ready_broken l around under term a h
    broken l around under term a (jumps _ _ _ _ b h t) = broken l around under term b t

    ready_broken : (l : Around) (around : List Around) (under : List Turning) (term : Term) (a : ℕ) → ReadyAt code turn slots end (l ∷ around) under term a → Broken l around under term
    ready_broken l around under _ a (does _ _ x term _ b h t) = let r = broken l around under term b t in record { rest = r.rest; is = r.is; outer = r.outer; left = r.left; at = r.at }
    ready_broken _ around under _ _ (again _ _ line test block term a b h t) = record { rest = term; is = refl; outer = under; left = same under; at = t }
    ready_broken _ around _ _ _ (walks_on _ under line names elements block term a b h t) = record { rest = term; is = refl; outer = under; left = popped elements under; at = t }

  mutual
    pub continued : (l : Around) (around : List Around) (under : List Turning) (term : Term) (a : ℕ) → TermAt code turn slots end (l ∷ around) under term a → Continued l around under term
    continued l around under term a (here _ _ _ _ h) = ready_continued l around under term a h
    continued l around under term a (jumps _ _ _ _ b h t) = continued l around under term b t

    ready_continued : (l : Around) (around : List Around) (under : List Turning) (term : Term) (a : ℕ) → ReadyAt code turn slots end (l ∷ around) under term a → Continued l around under term
    ready_continued l around under _ a (does _ _ x term _ b h t) = let r = continued l around under term b t in record { rest = r.rest; is = r.is; at = r.at }
    ready_continued _ around under _ _ (again _ _ line test block term a b h t) = record { rest = _; is = refl; at = here _ _ _ a (again around under line test block term a b h t) }
    ready_continued _ around _ _ _ (walks_on _ under line names elements block term a b h t) =
        record { rest = _; is = refl; at = here _ _ _ a (walks_on around under line names elements block term a b h t) }

-- jumps lead to the instruction that is next to be done
module _ (m : Setting) (turn : ℕ → Instr) (slots : List Ty) (end : Instr) (stack : List Value) (frame : Frame) (callers : List Caller) (view : View)
    (work : halts m callers (m.stops Inner) ≡ false) where
  pub settle : (around : List Around) (under : List Turning) (term : Term) (a : ℕ) → TermAt m.code.instrs turn slots end around under term a
      → (z : ℕ) × ReadyAt m.code.instrs turn slots end around under term z × Leads (step m) (state a stack frame callers view) (state z stack frame callers view)
  settle _ _ _ _ (here around under term a h) = (a, h, leads_same (step m) _)
  settle _ _ _ _ (jumps around under term a z h t) =
      let r = settle around under term z t in
      (r.0, r.1, leads_on (step m) _ _ _ (leads_step (step m) _ _ (acts m (i.Jump z) a stack frame callers view h work)) r.2)
