-- What an own statement of a process comes to, before it is carried out.
use Rattle.std.specs.Prelude.{◌≡◌, ℕ, ℤ, ◌≤◌, List, [], ◌∷◌, length, map, Option, Some, None, Bool, true, false, slice_get, unwrap_or}
use Rattle.chi_value.specs.declared.value.Value.{Value}
use Rattle.chi_core.specs.declared.expression.CExpr.{CExpr}
use Rattle.chi_core.specs.declared.limits.TheConstants.{MOST_INSTANCES}
use Rattle.chi_core.specs.declared.program.Core.{Core}
use Rattle.chi_core.specs.declared.statement.Branch.{Branch}
use Rattle.chi_core.specs.declared.statement.CAlt.{CAlt}
use Rattle.chi_core.specs.declared.statement.CStat.{CStat, CStat-F, out-CStat}
use Rattle.chi_core.specs.Answer.{Answer, Gives, Fails, Spent, Amiss, Does, then_do, wanted, giving, in_turn}
use Rattle.chi_core.specs.Config.{Config, Instance, Offer, Running, with_instance}
use Rattle.chi_core.specs.Evaluation.{Evaluates}
use Rattle.chi_core.specs.Opening.{Opening, opened}
use Rattle.chi_core.specs.Performing.{Change, Goes, Exits, quietly, written, within_text, all_named, waits, with_started, joins_started, joins, performed}
use Rattle.chi_core.specs.Reading.{quoted_in}
use Rattle.chi_core.specs.Starting.{Started, all_started}
use Rattle.chi_core.specs.Terms.{Do, Loop, Walk, Term}
use Rattle.chi_core.specs.Variables.{Variables}
use Rattle.chi_core_frame.specs.Terms.{first_of}
use Rattle.chi_plain_steps.specs.declared.deed.Deed.{Deed}
use Rattle.chi_plain_steps.specs.declared.deed.Deed.TheVariants as deed
use Rattle.chi_plain_steps.specs.declared.deed.Done.{Done}
use Rattle.chi_plain_steps.specs.declared.deed.Done.TheVariants as done
use Rattle.chi_plain_open.specs.Instances.{rest_of}

pub data Plan : Type 0 where
  Writes : List ℕ → Plan
  Leaves : Option Value → Plan
  Waits : Opening → Plan
  Runs : Started → Plan
  Starts : Started → Plan
  Joins : List ℕ → Plan

-- the value of an exit, which can be told
abbrev pub leaves_with : Core → Value → Does (Option Value)
leaves_with core v view =
    then_do (wanted (quoted_in core.names.kinds v) view) (λ text now.
    giving (λ text. Some v) (within_text text now))

abbrev pub left_with : Core → Evaluates → Option CExpr → Does (Option Value)
left_with core value_of None view = Gives None view
left_with core value_of (Some e) view = then_do (value_of e view) (leaves_with core)

-- a statement that functions don't have
abbrev pub is_own : CStat-F CAlt CStat Branch → Bool
is_own (CStat-F.Write line pieces values) = true
is_own (CStat-F.Exit line e) = true
is_own (CStat-F.Select line alternatives) = true
is_own (CStat-F.Run line elements) = true
is_own (CStat-F.Start line elements) = true
is_own (CStat-F.Finish line expressions) = true
is_own _ = false

-- what such a statement comes to
abbrev pub planned : Core → (Variables → Evaluates) → ℤ → Variables → CStat-F CAlt CStat Branch → Does Plan
planned core value_in clock variables (CStat-F.Write line pieces values) view = giving Writes (written core (value_in variables) pieces values view)
planned core value_in clock variables (CStat-F.Exit line e) view = giving Leaves (left_with core (value_in variables) e view)
planned core value_in clock variables (CStat-F.Select line alternatives) view = giving Waits (opened value_in clock variables alternatives view)
planned core value_in clock variables (CStat-F.Run line elements) view = giving Runs (all_started value_in core.procs variables elements view)
planned core value_in clock variables (CStat-F.Start line elements) view = giving Starts (all_started value_in core.procs variables elements view)
planned core value_in clock variables (CStat-F.Finish line expressions) view =
    then_do (in_turn (map (value_in variables) expressions) view) (λ values now. giving Joins (all_named [] values now))
planned core value_in clock variables _ view = Amiss

-- and what it does to the configuration, where instance p is left with the rest of its term
abbrev pub change_of : Core → Config → ℕ → Instance → Plan → Change
change_of core config p i (Writes text) = Goes (with_instance config p i) text
change_of core config p i (Leaves v) = Exits v
change_of core config p i (Waits o) = waits core config p i o
change_of core config p i (Runs s) = joins_started core config p i s
change_of core config p i (Starts s) = quietly (with_started core config p i Running s)
change_of core config p i (Joins numbers) = joins core config p i numbers

-- a plan as it is kept: with the variables, where they have changed
abbrev pub plan_of : Variables → Deed → Plan
plan_of variables (deed.Writes text) = Writes text.items
plan_of variables (deed.Exits v) = Leaves v
plan_of variables (deed.Waits changed offers) = Waits (record { variables = unwrap_or changed variables; offers = offers.items })
plan_of variables (deed.Runs changed made) = Runs (record { variables = unwrap_or changed variables; made = made.items })
plan_of variables (deed.Starts changed made) = Starts (record { variables = unwrap_or changed variables; made = made.items })
plan_of variables (deed.Joins numbers) = Joins numbers.items

-- the first item of instance p is done
abbrev pub performed_at : Core → Config → ℕ → Does Change
performed_at core config p view =
    then_do (wanted (slice_get config.instances p) view) (λ i now.
    then_do (wanted (first_of i.term) now) (performed core config p (rest_of i)))

-- an item has led to a configuration, with a text that was written, or has ended the run
abbrev pub change_by : Done → Config → List ℕ → Change
change_by done.On config text = Goes config text
change_by (done.Exits v) config text = Exits v

-- an exit writes nothing
abbrev pub IsQuiet : Done → List ℕ → Type 0
IsQuiet done.On text = Unit {0}
IsQuiet (done.Exits v) text = text ≡ []

-- where it goes on, there are as many instances as there may be
abbrev pub IsFew : Answer Change → Type 0
IsFew (Gives (Goes config text) view) = length config.instances ≤ MOST_INSTANCES
IsFew (Gives (Exits v) view) = Unit {0}
IsFew (Fails kind) = Unit {0}
IsFew Spent = Unit {0}
IsFew Amiss = ⊥

-- the statement that comes first, where functions don't have it
abbrev pub own_in : CStat → Bool → Option CStat
own_in s true = Some s
own_in s false = None

abbrev pub own_of : Term → Option CStat
own_of [] = None
own_of (Do s ∷ term) = own_in s (is_own (out-CStat s))
own_of (Loop line test block ∷ term) = None
own_of (Walk line slots elements block ∷ term) = None

-- the offers and the new instances that a plan has

abbrev pub offers_kept : Deed → List Offer
offers_kept (deed.Waits changed offers) = offers.items
offers_kept (deed.Writes text) = []
offers_kept (deed.Exits v) = []
offers_kept (deed.Runs changed made) = []
offers_kept (deed.Starts changed made) = []
offers_kept (deed.Joins numbers) = []

abbrev pub made_in : Deed → List Instance
made_in (deed.Runs changed made) = made.items
made_in (deed.Starts changed made) = made.items
made_in (deed.Waits changed offers) = []
made_in (deed.Writes text) = []
made_in (deed.Exits v) = []
made_in (deed.Joins numbers) = []
