-- Steps: what each label does to a configuration, what it writes, and how much is left of the bound after it.
use Rattle.std.specs.Prelude.{ℕ, zero, suc, List, [], ◌∷◌, Option, Some, None, option_map, slice_get}
use Rattle.chi_core.specs.declared.program.Core.{Core}
use Rattle.chi_core.specs.declared.statement.CStat.{CStat, CStat-F, out-CStat}
use Rattle.chi_core.specs.declared.statement.CAlt.{CAlt}
use Rattle.chi_core.specs.declared.statement.Branch.{Branch}
use Rattle.chi_core.specs.declared.label.Label.{Label}
use Rattle.chi_core.specs.declared.label.Label.TheVariants.{Local, Pair, Wake, Join, Advance}
use Rattle.chi_core.specs.declared.fault.FaultKind.{FaultKind}
use Rattle.chi_core.specs.declared.verdict.Verdict.{Verdict}
use Rattle.chi_core.specs.declared.verdict.Verdict.TheVariants.{Fault, Exit}
use Rattle.chi_core.specs.Answer as answer
use Rattle.chi_core.specs.Answer.{Answer, Gives, Fails, View}
use Rattle.chi_core.specs.Terms.{Item, Do, Loop, Walk, Term}
use Rattle.chi_core.specs.Config.{Config, Instance, State, Running, view_of, with_view}
use Rattle.chi_core.specs.Performing.{Change, Goes, Exits, performed}
use Rattle.chi_core.specs.Meeting.{offer_at, paired, woken, joined, next_due, advanced}

-- A step goes on in a configuration, with a text that it writes and so much left of the bound; or the run is
-- over; or the step costs more than is left. It is amiss where something isn't there that the label names, which
-- never happens for an enabled label of a sound program.
pub data Outcome : Type 0 where
  Next : Config → List ℕ → ℕ → Outcome
  Over : Verdict → Outcome
  Spent : Outcome
  Amiss : Outcome

abbrev pub line_in : CStat-F CAlt CStat Branch → ℕ
line_in (CStat-F.Declare line slot e) = line
line_in (CStat-F.Assign line targets values) = line
line_in (CStat-F.If line branches otherwise) = line
line_in (CStat-F.While line test block) = line
line_in (CStat-F.For line slots e block) = line
line_in (CStat-F.Break line) = line
line_in (CStat-F.Continue line) = line
line_in (CStat-F.Pass line) = line
line_in (CStat-F.Return line e) = line
line_in (CStat-F.Exit line e) = line
line_in (CStat-F.Write line pieces values) = line
line_in (CStat-F.Select line alternatives) = line
line_in (CStat-F.Run line elements) = line
line_in (CStat-F.Start line elements) = line
line_in (CStat-F.Finish line expressions) = line

-- the line of an item; a loop's turn and a walk's have that of their statement
abbrev pub line_of : Item → ℕ
line_of (Do s) = line_in (out-CStat s)
line_of (Loop line test block) = line
line_of (Walk line slots elements block) = line

-- the name of a definition
abbrev pub name_of : Core → ℕ → Option (List ℕ)
name_of core definition = option_map (λ d. d.name) (slice_get core.procs definition)

-- A fault ends the run. It has the name of the instance's definition, and the line of the item.
abbrev pub fault_in : Option (List ℕ) → ℕ → FaultKind → Outcome
fault_in None line kind = Amiss
fault_in (Some name) line kind = Over (Fault kind name line)

abbrev pub after_step : (FaultKind → Outcome) → Answer Change → Outcome
after_step fault (Gives (Goes config text) view) = Next (with_view view config) text view.left
after_step fault (Gives (Exits v) view) = Over (Exit v)
after_step fault (Fails kind) = fault kind
after_step fault answer.Spent = Spent
after_step fault answer.Amiss = Amiss

-- instance p, which has these items left, does the first of them
abbrev pub first_done : Core → Config → ℕ → Instance → Term → View → Outcome
first_done core config p i [] view = Amiss
first_done core config p i (item ∷ rest) view =
    after_step (fault_in (name_of core i.definition) (line_of item)) (performed core config p (record i { term = rest }) item view)

abbrev pub local_in : Core → Config → ℕ → Instance → State → View → Outcome
local_in core config p i Running view = first_done core config p i i.term view
local_in core config p i _ view = Amiss

-- instance p, which runs, does an item
abbrev pub local : Core → Config → ℕ → Option Instance → View → Outcome
local core config p None view = Amiss
local core config p (Some i) view = local_in core config p i i.state view

-- what isn't an item has no fault
abbrev pub no_fault : FaultKind → Outcome
no_fault kind = Amiss

-- the step of a label, where so much is left beside the 1 that each costs
abbrev pub taken : Core → Config → Label → View → Outcome
taken core config (Local p) view = local core config p (slice_get config.instances p) view
taken core config (Pair p a q b) view =
    let i = slice_get config.instances p in
    let j = slice_get config.instances q in
    after_step no_fault (paired config p i (offer_at i a) q j (offer_at j b) view)
taken core config (Wake p a) view =
    let i = slice_get config.instances p in
    after_step no_fault (woken config p i (offer_at i a) view)
taken core config (Join p) view = after_step no_fault (joined config p (slice_get config.instances p) view)
taken core config Advance view = after_step no_fault (advanced config (next_due config) view)

-- the step of an enabled label, where so much is left of the bound
unfoldable pub step : Core → Config → Label → ℕ → Outcome
step core config label zero = Spent
step core config label (suc left) = taken core config label (view_of config left)
