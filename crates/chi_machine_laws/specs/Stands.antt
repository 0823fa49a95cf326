-- The machine's state between two labels stands for a configuration.
use Rattle.std.specs.Prelude.{◌≡◌, ℕ, List, [], ◌∷◌, Some, slice_get}
use Rattle.chi_types.specs.declared.ty.Ty.{Ty}
use Rattle.chi_core.specs.declared.program.Core.{Core}
use Rattle.chi_core.specs.declared.program.ProcDef.{ProcDef}
use Rattle.chi_core.specs.Config as config
use Rattle.chi_core.specs.Config.{Config, Offer, Instance, State}
use Rattle.chi_core.specs.Step as step
use Rattle.chi_core.specs.Terms.{Item, Term}
use Rattle.chi_core.specs.Variables.{Variables}
use Rattle.chi_code.specs.declared.code.Around.{Around}
use Rattle.chi_code.specs.declared.code.Code.{Code}
use Rattle.chi_code.specs.declared.instr.Instr.{Instr}
use Rattle.chi_code.specs.declared.instr.Instr.TheVariants as i
use Rattle.chi_code.specs.Codes.{in_process}
use Rattle.chi_code.specs.ExpressionLayout.{Has}
use Rattle.chi_code.specs.StatementLayout.{BlockAt}
use Rattle.chi_exec_law.specs.State.{Turning}
use Rattle.chi_exec_law.specs.Standing.{TermAt, ReadyAt}
use Rattle.chi_machine_laws.specs.Instances.{Kept, Standing, Running, Waiting, Joining, Finished, Held, Whole}
use Rattle.chi_machine_laws.specs.Labels.{Outcome, GoesOn, Over, Spent}

-- one list stands for another, element by element
pub data Pairwise {A B : Type 0} (R : A → B → Type 0) : List A → List B → Type 0 where
  none : Pairwise R [] []
  more : (a : A) (b : B) (xs : List A) (ys : List B) → R a b → Pairwise R xs ys → Pairwise R (a ∷ xs) (b ∷ ys)

-- an offer of a select that ends at a place
pub record OfferAt (code : List Instr) (slots : List Ty) (around : List Around) (end : ℕ) (o : Offer) (k : Kept) : Type 0 where
  pub act : k.act ≡ o.act
  pub bindings : k.bindings ≡ o.bindings
  pub after : ℕ
  pub block : BlockAt code in_process slots around o.body k.place after
  pub jump : Has code after (i.Jump end)

-- What an instance is that stands at a place, with this under way. One that waits or joins stands behind its instruction, at
-- any place that stands for what is left.
pub data StateAt (code : List Instr) (slots : List Ty) : List Turning → ℕ → Term → State → Standing → Type 0 where
  runs : (around : List Around) (under : List Turning) (x : Item) (term : Term) (a : ℕ) → ReadyAt code in_process slots i.Done around under (x ∷ term) a
      → StateAt code slots under a (x ∷ term) config.Running Running
  waits : (around : List Around) (under : List Turning) (term : Term) (a end : ℕ) (offers : List Offer) (kept : List Kept) → Pairwise (OfferAt code slots around end) offers kept
      → TermAt code in_process slots i.Done around under term end → StateAt code slots under a term (config.Waiting offers) (Waiting kept)
  joins : (around : List Around) (under : List Turning) (term : Term) (a : ℕ) (numbers : List ℕ) → TermAt code in_process slots i.Done around under term a
      → StateAt code slots under a term (config.Joining numbers) (Joining numbers)
  ends : (a : ℕ) → Has code a i.Done → StateAt code slots [] a [] config.Finished Finished

-- Variables are those of an instance; one that has finished keeps none.
abbrev pub VariablesAt : State → Variables → Variables → Type 0
VariablesAt config.Finished its held = held ≡ []
VariablesAt _ its held = held ≡ its

pub record InstanceAt (core : Core) (code : Code) (p : Instance) (h : Held) : Type 0 where
  pub definition : h.definition ≡ p.definition
  pub variables : VariablesAt p.state p.variables h.frame.variables
  pub process : ProcDef
  pub is : slice_get core.procs p.definition ≡ Some process
  pub state : StateAt code.instrs process.slots h.frame.under h.at p.term p.state h.standing

pub record Stands (core : Core) (code : Code) (config : Config) (m : Whole) : Type 0 where
  pub clock : m.clock ≡ config.clock
  pub draws : m.draws ≡ config.draws
  pub channels : m.channels ≡ config.channels
  pub seed : m.seed ≡ config.seed
  pub until : m.until ≡ config.until
  pub constants : m.constants ≡ config.constants
  pub instances : Pairwise (InstanceAt core code) config.instances m.instances

-- What the machine comes to where the language's step comes to this: to a state that stands for the new configuration, with
-- the same text and the same left; or it ends alike. Where that is amiss nothing is said.
abbrev pub Follows : (Outcome → Type 0) → Core → Code → step.Outcome → Type 0
Follows comes_to core code (step.Next config text left) = (m : Whole) × comes_to (GoesOn m text left) × Stands core code config m
Follows comes_to core code (step.Over verdict) = comes_to (Over verdict)
Follows comes_to core code step.Spent = comes_to Spent
Follows comes_to core code step.Amiss = Unit {0}
