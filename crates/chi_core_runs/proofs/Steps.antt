-- What a step leaves of the bound, and what it does to the time.
use Rattle.std.proofs.Common.{◌≡◌, ℕ, suc, ◌≤◌, le_refl, le_trans, ℤ, List, [], ◌∷◌, ◌++◌, Option, Some, None, Bool, true, false, cond, map, length, refl}
use Rattle.std.specs.Prelude.{nat_eq, nat_le, nat_lt, int_lt}
use Rattle.std.specs.List.{slice_get}
use Rattle.chi_value.specs.declared.text.limit.TheConstants.{MOST_TEXT}
use Rattle.chi_value.specs.declared.value.Value.{Value}
use Rattle.chi_value.specs.declared.format.Piece.{Piece}
use Rattle.chi_format.specs.Format.{rendered}
use Rattle.chi_core.specs.declared.act.Act.{Act}
use Rattle.chi_core.specs.declared.act.Act.TheVariants.{Send, Receive, Delay}
use Rattle.chi_core.specs.declared.expression.CExpr.{CExpr}
use Rattle.chi_core.specs.declared.fault.FaultKind.{FaultKind}
use Rattle.chi_core.specs.declared.fault.FaultKind.TheVariants.{TooLarge}
use Rattle.chi_core.specs.declared.label.Label.{Label}
use Rattle.chi_core.specs.declared.label.Label.TheVariants.{Local, Pair, Wake, Join, Advance}
use Rattle.chi_core.specs.declared.limits.TheConstants.{MOST_CALLS}
use Rattle.chi_core.specs.declared.program.Core.{Core}
use Rattle.chi_core.specs.declared.statement.Branch.{Branch}
use Rattle.chi_core.specs.declared.statement.CAlt.{CAlt}
use Rattle.chi_core.specs.declared.statement.CStat.{CStat, CStat-F, out-CStat}
use Rattle.chi_core.specs.declared.view.View.{View}
use Rattle.chi_core.specs.Answer as answer
use Rattle.chi_core.specs.Answer.{Answer, Gives, Fails, Does, then_do, gives, wanted, giving, in_turn}
use Rattle.chi_core.specs.Config.{Config, Instance, Offer, State, Running, Waiting, Joining, Finished, scene_of, run_of, value_in, view_of, with_instance}
use Rattle.chi_core.specs.Evaluation.{Evaluates}
use Rattle.chi_core.specs.Meeting.{filled, resumed, offer_at, met, paired, woken_by, woken, are_over, joined_in, joined, next_due, may_reach, advanced}
use Rattle.chi_core.specs.Opening.{opened}
use Rattle.chi_core.specs.Performing.{Change, Goes, Exits, quietly, within_text, written, exits_with, exited, number_named, all_named, came_to, waits, with_started, joins_started, joins, performed_stat, performed}
use Rattle.chi_core.specs.Reading.{instance_of, quoted_in}
use Rattle.chi_core.specs.Starting.{all_started}
use Rattle.chi_core.specs.Step as outcome
use Rattle.chi_core.specs.Step.{Outcome, Next, Over, line_of, name_of, fault_in, after_step, first_done, local_in, local, no_fault, taken, step}
use Rattle.chi_core.specs.Terms.{Item, Do, Loop, Walk, Term, Did, On, Returns, act_stat, act}
use Rattle.chi_core.specs.Variables.{Variables, bind}
use Rattle.chi_core.proofs.Used.{Within, Uses, within-then, within-giving, within-if, uses-wanted}
use Rattle.chi_core.proofs.UsedByExpressions.{uses-eval}
use Rattle.chi_core.proofs.UsedByTerms.{uses-run_at, uses-values, uses-act_stat, uses-act}
use Rattle.chi_core_runs.proofs.UsedByOpenings.{uses-opened, uses-all_started}

-- what is given is so, and so much is left at most
abbrev pub Leaves : {A : Type 0} → ℕ → (A → Type 0) → Answer A → Type 0
Leaves n P (Gives x view) = P x × (view.left ≤ n)
Leaves n P (Fails kind) = Unit {0}
Leaves n P answer.Spent = Unit {0}
Leaves n P answer.Amiss = Unit {0}

leaves-less : {A : Type 0} (P : A → Type 0) (m n : ℕ) → m ≤ n → (a : Answer A) → Leaves m P a → Leaves n P a
leaves-less P m n h (Gives x view) l = (l.0, le_trans l.1 h)
leaves-less P m n h (Fails kind) l = tt
leaves-less P m n h answer.Spent l = tt
leaves-less P m n h answer.Amiss l = tt

leaves-then : {A B : Type 0} (P : B → Type 0) (n : ℕ) (a : Answer A) (f : A → Does B) → Within n a
    → ((x : A) (view : View) → Leaves view.left P (f x view)) → Leaves n P (then_do a f)
leaves-then P n (Gives x view) f h g = leaves-less P view.left n h (f x view) (g x view)
leaves-then P n (Fails kind) f h g = tt
leaves-then P n answer.Spent f h g = tt
leaves-then P n answer.Amiss f h g = tt

leaves-giving : {A B : Type 0} (P : B → Type 0) (n : ℕ) (f : A → B) (a : Answer A) → Within n a → ((x : A) → P (f x)) → Leaves n P (giving f a)
leaves-giving P n f (Gives x view) h g = (g x, h)
leaves-giving P n f (Fails kind) h g = tt
leaves-giving P n f answer.Spent h g = tt
leaves-giving P n f answer.Amiss h g = tt

leaves-if : {A : Type 0} (P : A → Type 0) (b : Bool) (n : ℕ) (a c : Answer A) → Leaves n P a → Leaves n P c → Leaves n P (cond b a c)
leaves-if P true n a c h l = h
leaves-if P false n a c h l = l

-- the time stands still, and the stopping time stays
abbrev pub Stands : Config → Change → Type 0
Stands config (Goes new text) = (new.clock ≡ config.clock) × (new.until ≡ config.until)
Stands config (Exits v) = Unit {0}

-- items of a process

uses-within_text : (text : List ℕ) → Uses (within_text text)
uses-within_text text view = within-if (nat_le (length text) MOST_TEXT) view.left (Gives text view) (Fails TooLarge) (le_refl view.left) tt

uses-number_named : (o : Option ℕ) → Uses (number_named o)
uses-number_named None view = le_refl view.left
uses-number_named (Some p) view = within-if (nat_lt p view.instances) view.left (Gives (p ∷ []) view) answer.Amiss (le_refl view.left) tt

uses-all_named : (numbers : List ℕ) (values : List Value) → Uses (all_named numbers values)
uses-all_named numbers [] view = le_refl view.left
uses-all_named numbers (v ∷ values) view =
    within-then _ _ _ (uses-wanted (instance_of v) view) (λ p now.
    within-then _ _ _ (uses-number_named p now) (λ more. uses-all_named (numbers ++ more) values))

module _ (core : Core) (config : Config) where
  pub uses-value : (variables : Variables) (e : CExpr) → Uses (value_in core config variables e)
  uses-value variables = uses-eval (run_of core config) (uses-run_at MOST_CALLS core.funcs (scene_of core config)) (scene_of core config) variables

  module _ (p : ℕ) (i : Instance) where
    abbrev value_of : Evaluates
    value_of = value_in core config i.variables

    stands-came_to : (d : Did) (view : View) → Leaves view.left (Stands config) (came_to core config p i d view)
    stands-came_to (On variables term) view = ((refl, refl), le_refl view.left)
    stands-came_to (Returns v) view = tt

    uses-written : (pieces : List Piece) (expressions : List CExpr) → Uses (written core value_of pieces expressions)
    uses-written pieces expressions view =
        within-then _ _ _ (uses-values value_of (uses-value i.variables) expressions view) (λ values now.
        within-then _ _ _ (uses-wanted (rendered core.names.kinds pieces values) now) uses-within_text)

    stands-exited : (e : Option CExpr) (view : View) → Leaves view.left (Stands config) (exited core value_of e view)
    stands-exited None view = (tt, le_refl view.left)
    stands-exited (Some e) view =
        leaves-then (Stands config) view.left (value_of e view) (exits_with core) (uses-value i.variables e view) (λ v now.
        leaves-then (Stands config) now.left (wanted (quoted_in core.names.kinds v) now) (λ text new. giving (λ text'. Exits (Some v)) (within_text text new))
        (uses-wanted (quoted_in core.names.kinds v) now) (λ text new.
        leaves-giving (Stands config) new.left (λ text'. Exits (Some v)) (within_text text new) (uses-within_text text new) (λ text'. tt)))

    stands-shared : (s : CStat-F CAlt CStat Branch) (view : View)
        → Leaves view.left (Stands config) (then_do (act_stat value_of i.variables s i.term view) (came_to core config p i))
    stands-shared s view =
        leaves-then (Stands config) view.left (act_stat value_of i.variables s i.term view) (came_to core config p i)
        (uses-act_stat value_of (uses-value i.variables) i.variables s i.term view) stands-came_to

    stands-stat : (s : CStat-F CAlt CStat Branch) (view : View) → Leaves view.left (Stands config) (performed_stat core config p i s view)
    stands-stat (CStat-F.Write line pieces values) view =
        leaves-giving (Stands config) view.left (Goes (with_instance config p i)) (written core value_of pieces values view)
        (uses-written pieces values view) (λ text. (refl, refl))
    stands-stat (CStat-F.Exit line e) view = stands-exited e view
    stands-stat (CStat-F.Select line alternatives) view =
        leaves-giving (Stands config) view.left (waits core config p i) (opened (value_in core config) config.clock i.variables alternatives view)
        (uses-opened (value_in core config) uses-value config.clock i.variables alternatives view) (λ o. (refl, refl))
    stands-stat (CStat-F.Run line elements) view =
        leaves-giving (Stands config) view.left (joins_started core config p i) (all_started (value_in core config) core.procs i.variables elements view)
        (uses-all_started (value_in core config) uses-value core.procs i.variables elements view) (λ s. (refl, refl))
    stands-stat (CStat-F.Start line elements) view =
        leaves-giving (Stands config) view.left (λ s. quietly (with_started core config p i Running s))
        (all_started (value_in core config) core.procs i.variables elements view)
        (uses-all_started (value_in core config) uses-value core.procs i.variables elements view) (λ s. (refl, refl))
    stands-stat (CStat-F.Finish line expressions) view =
        leaves-then (Stands config) view.left (in_turn (map value_of expressions) view) (λ values now. giving (joins core config p i) (all_named [] values now))
        (uses-values value_of (uses-value i.variables) expressions view) (λ values now.
        leaves-giving (Stands config) now.left (joins core config p i) (all_named [] values now) (uses-all_named [] values now) (λ numbers. (refl, refl)))
    stands-stat (CStat-F.Declare line slot e) view = stands-shared (CStat-F.Declare line slot e) view
    stands-stat (CStat-F.Assign line targets values) view = stands-shared (CStat-F.Assign line targets values) view
    stands-stat (CStat-F.If line branches otherwise) view = stands-shared (CStat-F.If line branches otherwise) view
    stands-stat (CStat-F.While line test block) view = stands-shared (CStat-F.While line test block) view
    stands-stat (CStat-F.For line slots e block) view = stands-shared (CStat-F.For line slots e block) view
    stands-stat (CStat-F.Break line) view = stands-shared (CStat-F.Break line) view
    stands-stat (CStat-F.Continue line) view = stands-shared (CStat-F.Continue line) view
    stands-stat (CStat-F.Pass line) view = stands-shared (CStat-F.Pass line) view
    stands-stat (CStat-F.Return line e) view = stands-shared (CStat-F.Return line e) view

    stands-item : (x : Item) (view : View) → Leaves view.left (Stands config) (then_do (act value_of i.variables x i.term view) (came_to core config p i))
    stands-item x view =
        leaves-then (Stands config) view.left (act value_of i.variables x i.term view) (came_to core config p i)
        (uses-act value_of (uses-value i.variables) i.variables x i.term view) stands-came_to

    stands-performed : (x : Item) (view : View) → Leaves view.left (Stands config) (performed core config p i x view)
    stands-performed (Do s) view = stands-stat (out-CStat s) view
    stands-performed (Loop line test block) view = stands-item (Loop line test block) view
    stands-performed (Walk line slots elements block) view = stands-item (Walk line slots elements block) view

-- meetings

uses-resumed : (offer : Offer) (slot : Option ℕ) (x : Option Value) (i : Instance) → Uses (resumed offer slot x i)
uses-resumed offer slot x i view =
    within-then _ _ _ (uses-wanted (bind offer.bindings i.variables) view) (λ bound now.
    within-giving _ _ _ (uses-wanted (filled slot x bound) now))

stands-met : (config : Config) (p : ℕ) (i : Instance) (sends : Offer) (act : Act) (q : ℕ) (j : Instance) (receives : Offer) (other : Act) (view : View)
    → Leaves view.left (Stands config) (met config p i sends act q j receives other view)
stands-met config p i sends (Send channel x) q j receives (Receive its slot) view =
    leaves-if (Stands config) (nat_eq channel its) view.left _ answer.Amiss
    (leaves-then (Stands config) view.left (resumed sends None None i view)
    (λ sender now. giving (λ receiver. quietly (with_instance (with_instance config p sender) q receiver)) (resumed receives slot x j now))
    (uses-resumed sends None None i view) (λ sender now.
    leaves-giving (Stands config) now.left (λ receiver. quietly (with_instance (with_instance config p sender) q receiver)) (resumed receives slot x j now)
    (uses-resumed receives slot x j now) (λ receiver. (refl, refl))))
    tt
stands-met config p i sends (Send channel x) q j receives (Send its y) view = tt
stands-met config p i sends (Send channel x) q j receives (Delay due) view = tt
stands-met config p i sends (Receive channel slot) q j receives other view = tt
stands-met config p i sends (Delay due) q j receives other view = tt

stands-paired : (config : Config) (p : ℕ) (o : Option Instance) (sends : Option Offer) (q : ℕ) (other : Option Instance) (receives : Option Offer) (view : View)
    → Leaves view.left (Stands config) (paired config p o sends q other receives view)
stands-paired config p (Some i) (Some sends) q (Some j) (Some receives) view =
    leaves-if (Stands config) (nat_eq p q) view.left answer.Amiss _ tt (stands-met config p i sends sends.act q j receives receives.act view)
stands-paired config p (Some i) (Some sends) q (Some j) None view = tt
stands-paired config p (Some i) (Some sends) q None receives view = tt
stands-paired config p (Some i) None q other receives view = tt
stands-paired config p None sends q other receives view = tt

stands-woken_by : (config : Config) (p : ℕ) (i : Instance) (offer : Offer) (act : Act) (view : View)
    → Leaves view.left (Stands config) (woken_by config p i offer act view)
stands-woken_by config p i offer (Delay due) view =
    leaves-if (Stands config) (int_lt config.clock due) view.left answer.Amiss _ tt
    (leaves-giving (Stands config) view.left (λ woken. quietly (with_instance config p woken)) (resumed offer None None i view)
    (uses-resumed offer None None i view) (λ woken. (refl, refl)))
stands-woken_by config p i offer (Send channel x) view = tt
stands-woken_by config p i offer (Receive channel slot) view = tt

stands-woken : (config : Config) (p : ℕ) (o : Option Instance) (offer : Option Offer) (view : View) → Leaves view.left (Stands config) (woken config p o offer view)
stands-woken config p (Some i) (Some offer) view = stands-woken_by config p i offer offer.act view
stands-woken config p (Some i) None view = tt
stands-woken config p None offer view = tt

stands-joined : (config : Config) (p : ℕ) (o : Option Instance) (view : View) → Leaves view.left (Stands config) (joined config p o view)
stands-joined config p None view = tt
stands-joined config p (Some i) view = by_state i.state
  where
    by_state : (s : State) → Leaves view.left (Stands config) (joined_in config p i s view)
    by_state (Joining numbers) =
        leaves-if (Stands config) (are_over config numbers) view.left (Gives (quietly (with_instance config p (record i { state = Running }))) view) answer.Amiss
        ((refl, refl), le_refl view.left) tt
    by_state Running = tt
    by_state (Waiting offers) = tt
    by_state Finished = tt

-- steps

-- where a step goes on, so much is left at most, and the time and the stopping time are as they were
abbrev pub StandsStill : Config → ℕ → Outcome → Type 0
StandsStill config n (Next new text rest) = (new.clock ≡ config.clock) × (new.until ≡ config.until) × (rest ≤ n)
StandsStill config n (Over verdict) = Unit {0}
StandsStill config n outcome.Spent = Unit {0}
StandsStill config n outcome.Amiss = Unit {0}

after-stands : (config : Config) (n : ℕ) (fault : FaultKind → Outcome) → ((kind : FaultKind) → StandsStill config n (fault kind))
    → (a : Answer Change) → Leaves n (Stands config) a → StandsStill config n (after_step fault a)
after-stands config n fault h (Gives (Goes new text) view) l = (l.0.0, l.0.1, l.1)
after-stands config n fault h (Gives (Exits v) view) l = tt
after-stands config n fault h (Fails kind) l = h kind
after-stands config n fault h answer.Spent l = tt
after-stands config n fault h answer.Amiss l = tt

stands-fault : (config : Config) (n : ℕ) (name : Option (List ℕ)) (line : ℕ) (kind : FaultKind) → StandsStill config n (fault_in name line kind)
stands-fault config n None line kind = tt
stands-fault config n (Some name) line kind = tt

stands-local : (core : Core) (config : Config) (p : ℕ) (o : Option Instance) (view : View) → StandsStill config view.left (local core config p o view)
stands-local core config p None view = tt
stands-local core config p (Some i) view = by_state i.state
  where
    by_term : (term : Term) → StandsStill config view.left (first_done core config p i term view)
    by_term [] = tt
    by_term (x ∷ rest) =
        after-stands config view.left (fault_in (name_of core i.definition) (line_of x))
        (stands-fault config view.left (name_of core i.definition) (line_of x))
        (performed core config p (record i { term = rest }) x view) (stands-performed core config p (record i { term = rest }) x view)

    by_state : (s : State) → StandsStill config view.left (local_in core config p i s view)
    by_state Running = by_term i.term
    by_state (Waiting offers) = tt
    by_state (Joining numbers) = tt
    by_state Finished = tt

-- where Advance goes on, it is to the least due time
abbrev pub Advances : Config → ℕ → Outcome → Type 0
Advances config n (Next new text rest) =
    (next_due config ≡ Some new.clock) × (may_reach config.until new.clock ≡ true) × (new.until ≡ config.until) × (rest ≤ n)
Advances config n (Over verdict) = Unit {0}
Advances config n outcome.Spent = Unit {0}
Advances config n outcome.Amiss = Unit {0}

advances-to : (config : Config) (view : View) (o : Option ℤ) → next_due config ≡ o → Advances config view.left (after_step no_fault (advanced config o view))
advances-to config view None due = tt
advances-to config view (Some t) due = by_reach (may_reach config.until t) refl
  where
    by_reach : (b : Bool) → may_reach config.until t ≡ b
        → Advances config view.left (after_step no_fault (cond b (Gives (quietly (record config { clock = t })) view) answer.Amiss))
    by_reach true is = (due, is, refl, le_refl view.left)
    by_reach false is = tt

-- what a label does to the time
abbrev pub OnTime : Config → ℕ → Label → Outcome → Type 0
OnTime config n Advance s = Advances config n s
OnTime config n (Local p) s = StandsStill config n s
OnTime config n (Pair p a q b) s = StandsStill config n s
OnTime config n (Wake p a) s = StandsStill config n s
OnTime config n (Join p) s = StandsStill config n s

pub on_time : (core : Core) (config : Config) (label : Label) (left : ℕ) → OnTime config left label (step core config label (suc left))
unfolding step
on_time core config (Local p) left = stands-local core config p (slice_get config.instances p) (view_of config left)
on_time core config (Pair p a q b) left =
    after-stands config left no_fault (λ kind. tt) _
    (stands-paired config p (slice_get config.instances p) (offer_at (slice_get config.instances p) a) q
    (slice_get config.instances q) (offer_at (slice_get config.instances q) b) (view_of config left))
on_time core config (Wake p a) left =
    after-stands config left no_fault (λ kind. tt) _
    (stands-woken config p (slice_get config.instances p) (offer_at (slice_get config.instances p) a) (view_of config left))
on_time core config (Join p) left =
    after-stands config left no_fault (λ kind. tt) _ (stands-joined config p (slice_get config.instances p) (view_of config left))
on_time core config Advance left = advances-to config (view_of config left) (next_due config) refl

pub nothing_left : (core : Core) (config : Config) (label : Label) → step core config label 0 ≡ outcome.Spent
unfolding step
nothing_left core config label = refl
