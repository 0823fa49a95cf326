-- With which value an item or a label ends the run: nothing but an exit does it.
use Rattle.std.proofs.Common.{◌≡◌, refl, ℕ, ℤ, Bool, true, false, cond, nat_eq, List, [], map, Option, Some, None}
use Rattle.std.specs.Prelude.{slice_get, int_lt}
use Rattle.chi_value.specs.declared.value.Value.{Value}
use Rattle.chi_core.specs.declared.act.Act.{Act}
use Rattle.chi_core.specs.declared.act.Act.TheVariants as act
use Rattle.chi_core.specs.declared.expression.CExpr.{CExpr}
use Rattle.chi_core.specs.declared.fault.FaultKind.{FaultKind}
use Rattle.chi_core.specs.declared.label.Label.{Label}
use Rattle.chi_core.specs.declared.label.Label.TheVariants as label
use Rattle.chi_core.specs.declared.program.Core.{Core}
use Rattle.chi_core.specs.declared.statement.CStat.{CStat-F}
use Rattle.chi_core.specs.declared.verdict.Verdict.{Verdict}
use Rattle.chi_core.specs.declared.verdict.Verdict.TheVariants.{Exit}
use Rattle.chi_core.specs.declared.view.View.{View}
use Rattle.chi_core.specs.Answer as answer
use Rattle.chi_core.specs.Answer.{Answer, Gives, Fails, Does, then_do, giving, wanted, in_turn}
use Rattle.chi_core.specs.Config.{Config, Instance, Offer, State, Joining, with_instance, value_in}
use Rattle.chi_core.specs.Kinds.{Kind}
use Rattle.chi_core.specs.Meeting.{offer_at, resumed, met, paired, woken_by, woken, joined_in, joined, are_over, next_due, may_reach, advanced}
use Rattle.chi_core.specs.Of.{nowhere, IsOf}
use Rattle.chi_core.specs.Opening.{opened}
use Rattle.chi_core.specs.Performing.{Change, Goes, Exits, within_text, written, exits_with, exited, all_named, came_to, waits, joins_started, joins, performed_stat}
use Rattle.chi_core.specs.Reading.{quoted_in}
use Rattle.chi_core.specs.SetSlots.{StatLayer}
use Rattle.chi_core.specs.Starting.{all_started}
use Rattle.chi_core.specs.Step as outcome
use Rattle.chi_core.specs.Step.{Outcome, Next, Over, after_step, no_fault, fault_in, local, taken}
use Rattle.chi_core.specs.Terms.{Did, On, Returns, act_stat}

-- where something is given, P holds of it
abbrev pub IfGives : {A : Type 0} → (A → Type 0) → Answer A → Type 0
IfGives P (Gives x view) = P x
IfGives P (Fails kind) = Unit {0}
IfGives P answer.Spent = Unit {0}
IfGives P answer.Amiss = Unit {0}

-- one thing and then another
pub if_then : {A B : Type 0} (P : A → Type 0) (Q : B → Type 0) (next : A → Does B) → ((x : A) (view : View) → P x → IfGives Q (next x view)) → (a : Answer A) → IfGives P a
    → IfGives Q (then_do a next)
if_then P Q next f (Gives x view) h = f x view h
if_then P Q next f (Fails kind) h = tt
if_then P Q next f answer.Spent h = tt
if_then P Q next f answer.Amiss h = tt

-- whatever is given first
always : {A B : Type 0} (Q : B → Type 0) (next : A → Does B) → ((x : A) (view : View) → IfGives Q (next x view)) → (a : Answer A) → IfGives Q (then_do a next)
always Q next f (Gives x view) = f x view
always Q next f (Fails kind) = tt
always Q next f answer.Spent = tt
always Q next f answer.Amiss = tt

-- with what is given changed
made_of : {A B : Type 0} (Q : B → Type 0) (f : A → B) → ((x : A) → Q (f x)) → (a : Answer A) → IfGives Q (giving f a)
made_of Q f h (Gives x view) = h x
made_of Q f h (Fails kind) = tt
made_of Q f h answer.Spent = tt
made_of Q f h answer.Amiss = tt

either : {A : Type 0} (Q : A → Type 0) (b : Bool) (x y : Answer A) → IfGives Q x → IfGives Q y → IfGives Q (cond b x y)
either Q true x y h l = h
either Q false x y h l = l

-- with the names of the enumerations' values, and the kind of the value of the exits, if they have one
module _ (names : List (List (List ℕ))) (exit : Option Kind) where
  -- a verdict has no value, or one of that kind, which names no channel and no instance
  abbrev pub ExitFits : Verdict → Type 0
  ExitFits (Exit (Some v)) = (T : Kind) × (exit ≡ Some T) × IsOf (nowhere names) T v
  ExitFits _ = Unit {0}

  -- so has the verdict of a step that ends the run
  abbrev pub StepExits : Outcome → Type 0
  StepExits (Next config text left) = Unit {0}
  StepExits (Over verdict) = ExitFits verdict
  StepExits outcome.Spent = Unit {0}
  StepExits outcome.Amiss = Unit {0}

  -- and that of what an item has done
  abbrev pub ChangeExits : Change → Type 0
  ChangeExits (Goes config text) = Unit {0}
  ChangeExits (Exits v) = ExitFits (Exit v)

  abbrev pub Fitting : Answer Change → Type 0
  Fitting = IfGives ChangeExits

  -- a step, where what is done fits, and each fault
  pub exits_after : (fault : FaultKind → Outcome) → ((kind : FaultKind) → StepExits (fault kind)) → (a : Answer Change) → Fitting a → StepExits (after_step fault a)
  exits_after fault faults (Gives (Goes config text) view) h = tt
  exits_after fault faults (Gives (Exits v) view) h = h
  exits_after fault faults (Fails kind) h = faults kind
  exits_after fault faults answer.Spent h = tt
  exits_after fault faults answer.Amiss h = tt

  -- a fault is no exit
  pub exits_fault : (name : Option (List ℕ)) (line : ℕ) (kind : FaultKind) → StepExits (fault_in name line kind)
  exits_fault None line kind = tt
  exits_fault (Some name) line kind = tt

  -- labels but that of an item

  exits_met : (config : Config) (p : ℕ) (i : Instance) (sends : Offer) (x : Act) (q : ℕ) (j : Instance) (receives : Offer) (y : Act) (view : View) → Fitting (met config p i sends x q j receives y view)
  exits_met config p i sends (act.Send channel x) q j receives (act.Receive its slot) view =
      either ChangeExits (nat_eq channel its) _ answer.Amiss
      (always ChangeExits _ (λ sender now. made_of ChangeExits _ (λ receiver. tt) (resumed receives slot x j now)) (resumed sends None None i view)) tt
  exits_met config p i sends _ q j receives _ view = tt

  exits_paired : (config : Config) (p : ℕ) (i : Option Instance) (x : Option Offer) (q : ℕ) (j : Option Instance) (y : Option Offer) (view : View) → Fitting (paired config p i x q j y view)
  exits_paired config p (Some i) (Some x) q (Some j) (Some y) view =
      either ChangeExits (nat_eq p q) answer.Amiss (met config p i x x.act q j y y.act view) tt (exits_met config p i x x.act q j y y.act view)
  exits_paired config p _ _ q _ _ view = tt

  exits_woken_by : (config : Config) (p : ℕ) (i : Instance) (offer : Offer) (x : Act) (view : View) → Fitting (woken_by config p i offer x view)
  exits_woken_by config p i offer (act.Delay due) view =
      either ChangeExits (int_lt config.clock due) answer.Amiss _ tt (made_of ChangeExits _ (λ woken. tt) (resumed offer None None i view))
  exits_woken_by config p i offer _ view = tt

  exits_woken : (config : Config) (p : ℕ) (i : Option Instance) (offer : Option Offer) (view : View) → Fitting (woken config p i offer view)
  exits_woken config p (Some i) (Some offer) view = exits_woken_by config p i offer offer.act view
  exits_woken config p _ _ view = tt

  exits_joined_in : (config : Config) (p : ℕ) (i : Instance) (s : State) (view : View) → Fitting (joined_in config p i s view)
  exits_joined_in config p i (Joining numbers) view = either ChangeExits (are_over config numbers) (Gives _ view) answer.Amiss tt tt
  exits_joined_in config p i _ view = tt

  exits_joined : (config : Config) (p : ℕ) (i : Option Instance) (view : View) → Fitting (joined config p i view)
  exits_joined config p None view = tt
  exits_joined config p (Some i) view = exits_joined_in config p i i.state view

  exits_advanced : (config : Config) (t : Option ℤ) (view : View) → Fitting (advanced config t view)
  exits_advanced config None view = tt
  exits_advanced config (Some t) view = either ChangeExits (may_reach config.until t) (Gives _ view) answer.Amiss tt tt

  -- where the steps of items are known to fit, those of all labels fit
  pub exits_taken : (core : Core) (config : Config) (view : View) → ((p : ℕ) → StepExits (local core config p (slice_get config.instances p) view)) → (l : Label) → StepExits (taken core config l view)
  exits_taken core config view items (label.Local p) = items p
  exits_taken core config view items (label.Pair p a q b) =
      let i = slice_get config.instances p in
      let j = slice_get config.instances q in
      exits_after no_fault (λ kind. tt) _ (exits_paired config p i (offer_at i a) q j (offer_at j b) view)
  exits_taken core config view items (label.Wake p a) = let i = slice_get config.instances p in exits_after no_fault (λ kind. tt) _ (exits_woken config p i (offer_at i a) view)
  exits_taken core config view items (label.Join p) = exits_after no_fault (λ kind. tt) _ (exits_joined config p (slice_get config.instances p) view)
  exits_taken core config view items label.Advance = exits_after no_fault (λ kind. tt) _ (exits_advanced config (next_due config) view)

  -- items but exits

  module _ (core : Core) (config : Config) (p : ℕ) (i : Instance) where
    exits_came : (did : Did) (view : View) → Fitting (came_to core config p i did view)
    exits_came (On variables term) view = tt
    exits_came (Returns v) view = tt

    -- where an exit does so, each statement fits
    pub exits_stat : (s : StatLayer) (view : View) → ((line : ℕ) (e : Option CExpr) → s ≡ CStat-F.Exit line e → Fitting (exited core (value_in core config i.variables) e view))
        → Fitting (performed_stat core config p i s view)
    exits_stat (CStat-F.Exit line e) view h = h line e refl
    exits_stat (CStat-F.Write line pieces values) view h = made_of ChangeExits (Goes (with_instance config p i)) (λ text. tt) (written core (value_in core config i.variables) pieces values view)
    exits_stat (CStat-F.Select line alternatives) view h =
        made_of ChangeExits (waits core config p i) (λ o. tt) (opened (value_in core config) config.clock i.variables alternatives view)
    exits_stat (CStat-F.Run line elements) view h =
        made_of ChangeExits (joins_started core config p i) (λ s. tt) (all_started (value_in core config) core.procs i.variables elements view)
    exits_stat (CStat-F.Start line elements) view h =
        made_of ChangeExits _ (λ s. tt) (all_started (value_in core config) core.procs i.variables elements view)
    exits_stat (CStat-F.Finish line expressions) view h =
        always ChangeExits _ (λ values now. made_of ChangeExits (joins core config p i) (λ numbers. tt) (all_named [] values now)) (in_turn (map (value_in core config i.variables) expressions) view)
    exits_stat s view h = always ChangeExits (came_to core config p i) exits_came (act_stat (value_in core config i.variables) i.variables s i.term view)

    -- the other items
    pub exits_turn : (a : Answer Did) → Fitting (then_do a (came_to core config p i))
    exits_turn a = always ChangeExits (came_to core config p i) exits_came a

  -- an exit, where the value of its expression fits

  pub exits_with_value : (core : Core) (v : Value) (view : View) → ExitFits (Exit (Some v)) → Fitting (exits_with core v view)
  exits_with_value core v view fits =
      always ChangeExits _ (λ text now. made_of ChangeExits (λ text. Exits (Some v)) (λ text. fits) (within_text text now)) (wanted (quoted_in core.names.kinds v) view)
