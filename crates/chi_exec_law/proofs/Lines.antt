-- Where an item is first, its turn begins with the instruction that has its line.
use Rattle.std.proofs.Common.{ℕ, List, ◌∷◌}
use Rattle.chi_types.specs.declared.ty.Ty.{Ty}
use Rattle.chi_core.specs.SetSlots.{StatLayer}
use Rattle.chi_core.specs.Step.{line_in, line_of}
use Rattle.chi_core.specs.Terms.{Item, Term}
use Rattle.chi_code.specs.declared.code.Around.{Around}
use Rattle.chi_code.specs.declared.instr.Instr.{Instr}
use Rattle.chi_code.specs.ExpressionLayout.{Has}
use Rattle.chi_code.specs.StatementLayout.{StatAt, declares, assigns, chooses, loops, walks, breaks, leaves, continues, passes, returns, exits_with, exits, writes, selects, runs, starts, finishes, loop, walk}
use Rattle.chi_exec_law.specs.State.{Turning}
use Rattle.chi_exec_law.specs.Standing.{ReadyAt, does, again, walks_on}

module _ (code : List Instr) (turn : ℕ → Instr) (slots : List Ty) where
  pub stat_line : (around : List Around) (o : StatLayer) (a z : ℕ) → StatAt code turn slots around o a z → Has code a (turn (line_in o))
  stat_line _ _ _ _ (declares around line slot e a c s h k) = s
  stat_line _ _ _ _ (assigns around line ts es a b c d s h p k j) = s
  stat_line _ _ _ _ (chooses around line bs otherwise a z s h) = s
  stat_line _ _ _ _ (loops _ _ _ _ _ _ (loop around line test block a c d s h k l j)) = s
  stat_line _ _ _ _ (walks around line names e block a c z s h k w) = s
  stat_line _ _ _ _ (breaks around line top out a s k) = s
  stat_line _ _ _ _ (leaves around line top out a s k j) = s
  stat_line _ _ _ _ (continues l around line a s k) = s
  stat_line _ _ _ _ (passes around line a s) = s
  stat_line _ _ _ _ (returns around line e a c s h k) = s
  stat_line _ _ _ _ (exits_with around line e a c s h k) = s
  stat_line _ _ _ _ (exits around line a s k) = s
  stat_line _ _ _ _ (writes around line pieces es a c s h k) = s
  stat_line _ _ _ _ (selects around line alternatives a c out s h k) = s
  stat_line _ _ _ _ (runs around line elements a c s h k) = s
  stat_line _ _ _ _ (starts around line elements a c s h) = s
  stat_line _ _ _ _ (finishes around line es a c s h k) = s

  pub item_line : (end : Instr) (around : List Around) (under : List Turning) (x : Item) (term : Term) (a : ℕ) → ReadyAt code turn slots end around under (x ∷ term) a → Has code a (turn (line_of x))
  item_line end _ _ _ _ _ (does around under x term a z h t) = stat_line around _ a z h
  item_line end _ _ _ _ _ (again _ _ _ _ _ term _ _ (loop around line test block a c d s h k l j) t) = s
  item_line end _ _ _ _ _ (walks_on _ _ _ _ _ _ term _ _ (walk around line names block a c s k l j) t) = s
