-- What the alternatives of a select, and the elements of a run or a start, have brought once their code is done.
use Rattle.std.specs.Prelude.{ℕ, List, [], map}
use Rattle.chi_types.specs.declared.ty.Ty.{Ty}
use Rattle.chi_core.specs.declared.element.CElem.{CElem}
use Rattle.chi_core.specs.declared.program.Core.{Core}
use Rattle.chi_core.specs.declared.statement.CAlt.{CAlt}
use Rattle.chi_core.specs.declared.view.View.{View}
use Rattle.chi_core.specs.Answer.{through}
use Rattle.chi_core.specs.Config.{Offer, Instance, settled}
use Rattle.chi_core.specs.Evaluation.{Evaluates, eval}
use Rattle.chi_core.specs.Functions.{calls}
use Rattle.chi_core.specs.Opening.{Opening, each_opens, opens}
use Rattle.chi_core.specs.Starting.{Started, starts}
use Rattle.chi_core.specs.Variables.{Variables}
use Rattle.chi_code.specs.declared.code.Around.{Around}
use Rattle.chi_code.specs.declared.code.Code.{Code}
use Rattle.chi_code.specs.Codes.{in_process, Codes}
use Rattle.chi_code.specs.StatementLayout.{AltsAt, ElemsAt}
use Rattle.chi_exec_law.specs.Runs.{Brings}
use Rattle.chi_exec_law.specs.State.{Turning, State, state, frame_of}
use Rattle.chi_machine_laws.specs.Instances.{Kept, Held}
use Rattle.chi_machine_laws.specs.Deeds.{Brought, Within, moves}
use Rattle.chi_machine_laws.specs.Stands.{Pairwise, OfferAt, InstanceAt}

-- an instance stands at a place with nothing on its stack, with these variables and with this under way
abbrev pub at_place : ℕ → Variables → List Turning → View → State
at_place a variables under view = state a [] (frame_of variables under) [] view

-- what evaluations within a step come to
abbrev pub values_in : Core → Within → Variables → Evaluates
values_in core w variables = eval (calls core.funcs w.scene) w.scene variables

-- The instance stands there with the variables of an opening, and its offers are those of the opening.
pub data Opened (w : Within) (slots : List Ty) (around : List Around) (end : ℕ) (made : List Held) (text : List ℕ) (z : ℕ) (under : List Turning) : Opening → View → State × Brought → Type 0 where
  opened_so : (variables : Variables) (offers : List Offer) (kept : List Kept) (view : View) → Pairwise (OfferAt w.code.instrs slots around end) offers kept
      → Opened w slots around end made text z under (record { variables = variables; offers = offers }) view (at_place z variables under view, record { offers = kept; made = made; text = text })

-- From the first instruction of alternatives, with any walks under way, with offers so far and whatever else was brought, an
-- instance comes behind them with the same under way, and has offered what they open; or its run ends as that fails.
abbrev pub OpeningsLead : Type 0
OpeningsLead =
    (core : Core) (w : Within) → Codes core w.code → (slots : List Ty) (around : List Around) (end : ℕ) (names : List ℕ) (xs : List CAlt) (p q a z : ℕ)
    → AltsAt w.code.instrs in_process slots around end names xs p q a z → (made : List Held) (text : List ℕ) (under : List Turning) (variables : Variables) (offers : List Offer) (kept : List Kept)
    → Pairwise (OfferAt w.code.instrs slots around end) offers kept → (view : View)
    → Brings (moves w) view.left (at_place a variables under view, record { offers = kept; made = made; text = text }) (Opened w slots around end made text z under)
    (each_opens (values_in core w) w.scene.clock names (map (opens (values_in core w) w.scene.clock) xs) (record { variables = variables; offers = offers }) view)

-- new instances stand for those that were made
abbrev pub News : Core → Code → List Instance → List Held → Type 0
News core code = Pairwise (λ p h. InstanceAt core code (settled p) h)

-- The instance stands there with the variables that a start leaves, and has made what that made.
pub data Made (core : Core) (w : Within) (z : ℕ) (under : List Turning) : Started → View → State × Brought → Type 0 where
  made_so : (variables : Variables) (made : List Instance) (new : List Held) (view : View) → News core w.code made new
      → Made core w z under (record { variables = variables; made = made }) view (at_place z variables under view, record { offers = []; made = new; text = [] })

-- From the first instruction of elements, with any walks under way and with those that were made so far, an instance comes
-- behind them with the same under way, and has made what they start; or its run ends as that fails.
abbrev pub StartingsLead : Type 0
StartingsLead =
    (core : Core) (w : Within) → Codes core w.code → (xs : List CElem) (a z : ℕ) → ElemsAt w.code.instrs xs a z
    → (under : List Turning) (variables : Variables) (made : List Instance) (new : List Held) → News core w.code made new → (view : View)
    → Brings (moves w) view.left (at_place a variables under view, record { offers = []; made = new; text = [] }) (Made core w z under)
    (through (starts (values_in core w) core.procs) xs (record { variables = variables; made = made }) view)
