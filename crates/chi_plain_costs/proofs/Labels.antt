-- Labels, by what they cost.
use Rattle.std.proofs.Common.{◌≡◌, ◌≢◌, ℕ, zero, suc, ◌-◌, ℤ, Bool, true, false, List, Option, Some, None, nat_eq, sym, ◌∙◌, ap, subst, refl}
use Rattle.std.specs.Prelude.{◌↔◌, IfOk, IsTrue, Result, int_lt, if◌then◌else◌}
use Rattle.std.specs.List.{slice_get}
use Rattle.chi_base.specs.declared.no_memory.NoMemory.{NoMemory}
use Rattle.chi_value.specs.declared.value.Value.{Value}
use Rattle.chi_core.specs.declared.act.Act.{Act}
use Rattle.chi_core.specs.declared.act.Act.TheVariants.{Send, Receive, Delay}
use Rattle.chi_core.specs.declared.fault.FaultKind.{FaultKind}
use Rattle.chi_core.specs.declared.label.Label.{Label}
use Rattle.chi_core.specs.declared.label.Label.TheVariants.{Local, Pair, Wake, Join, Advance}
use Rattle.chi_core.specs.declared.program.Core.{Core}
use Rattle.chi_core.specs.declared.view.View.{View}
use Rattle.chi_core.specs.Answer as answer
use Rattle.chi_core.specs.Answer.{Answer, Gives, Fails, then_do, wanted, giving}
use Rattle.chi_core.specs.Config.{Config, Instance, Offer, State, Running, Waiting, Joining, Finished, view_of, with_instance}
use Rattle.chi_core.specs.Meeting.{offer_at, filled, resumed, met, paired, woken_by, woken, are_over, joined_in, joined, next_due, may_reach, advanced}
use Rattle.chi_core.specs.Performing.{Change, Goes, Exits, quietly}
use Rattle.chi_core.specs.Step.{Outcome, Spent, line_of, name_of, fault_in, no_fault, after_step, local, taken, step}
use Rattle.chi_core.specs.Variables.{bind}
use Rattle.chi_plain_open.proofs.Going.{if_ok}
use Rattle.chi_plain_steps.specs.Plans.{performed_at}
use Rattle.chi_plain_steps.specs.Takings.{IsRight}
use Rattle.chi_plain_steps.proofs.Moves.{step_some}
use Rattle.chi_plain_steps.proofs.Steps.{acts, spends}
use Rattle.chi_plain_costs.proofs.Unspent.{IsCheap, cheap_wanted, cheap_giving, cheap_then}

-- an item

after_fault : (name : Option (List ℕ)) (line : ℕ) (kind : FaultKind) → fault_in name line kind ≡ Spent → ⊥
after_fault None line kind e = absurd (cc)
after_fault (Some n) line kind e = absurd (cc)

spent_before : (name : Option (List ℕ)) (line : ℕ) (m : Answer Change) → after_step (fault_in name line) m ≡ Spent → m ≡ answer.Spent
spent_before name line (Gives (Goes config text) view) e = absurd (cc)
spent_before name line (Gives (Exits v) view) e = absurd (cc)
spent_before name line (Fails kind) e = absurd (after_fault name line kind e)
spent_before name line answer.Spent e = refl
spent_before name line answer.Amiss e = absurd (cc)

module _ (core : Core) (config : Config) (p : ℕ) (view : View) (right : IsRight (local core config p (slice_get config.instances p) view)) where
  abbrev its : Outcome
  its = local core config p (slice_get config.instances p) view

  spent_item : its ≡ Spent → performed_at core config p view ≡ answer.Spent
  spent_item e =
      let a = acts core config p view right in
      spent_before (name_of core a.i.definition) (line_of a.item) (performed_at core config p view) (sym a.is ∙ e)

  pub local_goes : performed_at core config p view ≢ answer.Spent → IsTrue false ↔ (its ≡ Spent)
  local_goes goes = ((λ f. absurd (cc)), (λ e. absurd (goes (spent_item e))))

  pub local_fails : (kind : FaultKind) → performed_at core config p view ≡ Fails kind → IsTrue false ↔ (its ≡ Spent)
  local_fails kind fails = ((λ f. absurd (cc)), (λ e. absurd (let both : answer.Spent ≡ Fails kind = sym (spent_item e) ∙ fails in cc)))

  pub local_spends : performed_at core config p view ≡ answer.Spent → IsTrue true ↔ (its ≡ Spent)
  local_spends spent = ((λ t. spends core config p view right spent), (λ e. refl))

pub ruleset locals = (local_goes, local_fails, local_spends)

-- labels that are no items

cheap_step : (m : Answer Change) → IsCheap m → after_step no_fault m ≢ Spent
cheap_step (Gives (Goes config text) view) cheap e = absurd (cc)
cheap_step (Gives (Exits v) view) cheap e = absurd (cc)
cheap_step (Fails kind) cheap e = absurd (cc)
cheap_step answer.Spent cheap e = absurd cheap
cheap_step answer.Amiss cheap e = absurd (cc)

cheap_resumed : (offer : Offer) (slot : Option ℕ) (x : Option Value) (i : Instance) (view : View) → IsCheap (resumed offer slot x i view)
cheap_resumed offer slot x i view =
    cheap_then (wanted (bind offer.bindings i.variables) view) _ (cheap_wanted (bind offer.bindings i.variables) view)
    (λ bound now. cheap_giving (wanted (filled slot x bound) now) _ (cheap_wanted (filled slot x bound) now))

cheap_met : (config : Config) (p : ℕ) (i : Instance) (sends : Offer) (s : Act) (q : ℕ) (j : Instance) (receives : Offer) (r : Act) (view : View)
    → IsCheap (met config p i sends s q j receives r view)
cheap_met config p i sends (Send channel x) q j receives (Receive its slot) view = by_test (nat_eq channel its)
  where
    by_test : (t : Bool) → IsCheap (if t then then_do (resumed sends None None i view) (λ sender now.
        giving (λ receiver. quietly (with_instance (with_instance config p sender) q receiver)) (resumed receives slot x j now)) else answer.Amiss)
    by_test true =
        cheap_then (resumed sends None None i view) _ (cheap_resumed sends None None i view)
        (λ sender now. cheap_giving (resumed receives slot x j now) _ (cheap_resumed receives slot x j now))
    by_test false = tt
cheap_met config p i sends (Send channel x) q j receives (Send other y) view = tt
cheap_met config p i sends (Send channel x) q j receives (Delay due) view = tt
cheap_met config p i sends (Receive channel slot) q j receives r view = tt
cheap_met config p i sends (Delay due) q j receives r view = tt

cheap_paired : (config : Config) (p : ℕ) (i : Option Instance) (s : Option Offer) (q : ℕ) (j : Option Instance) (r : Option Offer) (view : View)
    → IsCheap (paired config p i s q j r view)
cheap_paired config p None s q j r view = tt
cheap_paired config p (Some i) None q j r view = tt
cheap_paired config p (Some i) (Some s) q None r view = tt
cheap_paired config p (Some i) (Some s) q (Some j) None view = tt
cheap_paired config p (Some i) (Some s) q (Some j) (Some r) view = by_test (nat_eq p q)
  where
    by_test : (t : Bool) → IsCheap (if t then answer.Amiss else met config p i s s.act q j r r.act view)
    by_test true = tt
    by_test false = cheap_met config p i s s.act q j r r.act view

cheap_woken_by : (config : Config) (p : ℕ) (i : Instance) (offer : Offer) (a : Act) (view : View) → IsCheap (woken_by config p i offer a view)
cheap_woken_by config p i offer (Delay due) view = by_test (int_lt config.clock due)
  where
    by_test : (t : Bool) → IsCheap (if t then answer.Amiss else giving (λ woken. quietly (with_instance config p woken)) (resumed offer None None i view))
    by_test true = tt
    by_test false = cheap_giving (resumed offer None None i view) _ (cheap_resumed offer None None i view)
cheap_woken_by config p i offer (Send channel x) view = tt
cheap_woken_by config p i offer (Receive channel slot) view = tt

cheap_woken : (config : Config) (p : ℕ) (i : Option Instance) (o : Option Offer) (view : View) → IsCheap (woken config p i o view)
cheap_woken config p None o view = tt
cheap_woken config p (Some i) None view = tt
cheap_woken config p (Some i) (Some offer) view = cheap_woken_by config p i offer offer.act view

cheap_joined_in : (config : Config) (p : ℕ) (i : Instance) (s : State) (view : View) → IsCheap (joined_in config p i s view)
cheap_joined_in config p i (Joining numbers) view = by_test (are_over config numbers)
  where
    by_test : (t : Bool) → IsCheap (if t then Gives (quietly (with_instance config p (record i { state = Running }))) view else answer.Amiss)
    by_test true = tt
    by_test false = tt
cheap_joined_in config p i Running view = tt
cheap_joined_in config p i (Waiting offers) view = tt
cheap_joined_in config p i Finished view = tt

cheap_joined : (config : Config) (p : ℕ) (i : Option Instance) (view : View) → IsCheap (joined config p i view)
cheap_joined config p None view = tt
cheap_joined config p (Some i) view = cheap_joined_in config p i i.state view

cheap_advanced : (config : Config) (t : Option ℤ) (view : View) → IsCheap (advanced config t view)
cheap_advanced config None view = tt
cheap_advanced config (Some t) view = by_test (may_reach config.until t)
  where
    by_test : (b : Bool) → IsCheap (if b then Gives (quietly (record config { clock = t })) view else answer.Amiss)
    by_test true = tt
    by_test false = tt

module _ (core : Core) (config : Config) where
  taken_some : (label : Label) (left : ℕ) → left ≢ 0 → ((view : View) → taken core config label view ≢ Spent) → step core config label left ≢ Spent
  unfolding step
  taken_some label zero some goes = absurd (some refl)
  taken_some label (suc left) some goes = goes (view_of config left)

  pub spends_none : (label : Label) (left : ℕ) → left ≡ 0 → IsTrue true ↔ (step core config label left ≡ Spent)
  unfolding step
  spends_none label left none = ((λ t. ap (step core config label) none), (λ e. refl))

  pub spends_pair : (label : Label) (p a q b left : ℕ) → label ≡ Pair p a q b → left ≢ 0 → IsTrue false ↔ (step core config label left ≡ Spent)
  spends_pair label p a q b left is some = (
    (λ f. absurd (cc)),
    (λ e. absurd (taken_some (Pair p a q b) left some
        (λ view. cheap_step (paired config p (slice_get config.instances p) (offer_at (slice_get config.instances p) a) q (slice_get config.instances q) (offer_at (slice_get config.instances q) b) view)
        (cheap_paired config p (slice_get config.instances p) (offer_at (slice_get config.instances p) a) q (slice_get config.instances q) (offer_at (slice_get config.instances q) b) view))
        (ap (λ l. step core config l left) (sym is) ∙ e))),
  )

  pub spends_wake : (label : Label) (p a left : ℕ) → label ≡ Wake p a → left ≢ 0 → IsTrue false ↔ (step core config label left ≡ Spent)
  spends_wake label p a left is some = (
    (λ f. absurd (cc)),
    (λ e. absurd (taken_some (Wake p a) left some
        (λ view. cheap_step (woken config p (slice_get config.instances p) (offer_at (slice_get config.instances p) a) view)
        (cheap_woken config p (slice_get config.instances p) (offer_at (slice_get config.instances p) a) view))
        (ap (λ l. step core config l left) (sym is) ∙ e))),
  )

  pub spends_join : (label : Label) (p left : ℕ) → label ≡ Join p → left ≢ 0 → IsTrue false ↔ (step core config label left ≡ Spent)
  spends_join label p left is some = (
    (λ f. absurd (cc)),
    (λ e. absurd (taken_some (Join p) left some
        (λ view. cheap_step (joined config p (slice_get config.instances p) view) (cheap_joined config p (slice_get config.instances p) view))
        (ap (λ l. step core config l left) (sym is) ∙ e))),
  )

  pub spends_advance : (label : Label) (left : ℕ) → label ≡ Advance → left ≢ 0 → IsTrue false ↔ (step core config label left ≡ Spent)
  spends_advance label left is some = (
    (λ f. absurd (cc)),
    (λ e. absurd (taken_some Advance left some
        (λ view. cheap_step (advanced config (next_due config) view) (cheap_advanced config (next_due config) view))
        (ap (λ l. step core config l left) (sym is) ∙ e))),
  )

  -- an item
  step_local : (label : Label) (p left : ℕ) (view : View) → label ≡ Local p → left ≢ 0 → view ≡ view_of config (left - 1)
      → step core config label left ≡ local core config p (slice_get config.instances p) view
  step_local label p left view is some at = ap (λ l. step core config l left) is ∙ step_some core config (Local p) left view some at

  pub local_right : (label : Label) (p left : ℕ) (view : View) → label ≡ Local p → left ≢ 0 → view ≡ view_of config (left - 1) → IsRight (step core config label left)
      → IsRight (local core config p (slice_get config.instances p) view)
  local_right label p left view is some at right = subst IsRight (step_local label p left view is some at) right

  pub spends_local : (label : Label) (p left : ℕ) (view : View) (result : Result Bool NoMemory) → label ≡ Local p → left ≢ 0 → view ≡ view_of config (left - 1)
      → IfOk result (λ spends. IsTrue spends ↔ (local core config p (slice_get config.instances p) view ≡ Spent)) → IfOk result (λ spends. IsTrue spends ↔ (step core config label left ≡ Spent))
  spends_local label p left view result is some at h =
      if_ok result h (λ spends e. subst (λ (o : Outcome). IsTrue spends ↔ (o ≡ Spent)) (sym (step_local label p left view is some at)) e)

pub ruleset labels = (spends_none, spends_pair, spends_wake, spends_join, spends_advance, local_right)
