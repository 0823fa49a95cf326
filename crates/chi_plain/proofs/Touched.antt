-- A step changes no other instances than those that its label names, and new ones come last.
use Rattle.std.proofs.Common.{◌≡◌, ℕ, zero, suc, ◌<◌, le_refl, ℤ, List, [], ◌∷◌, ◌++◌, Option, Some, None, Bool, true, false, cond, map, length, sym, ◌∙◌, subst, refl, arith, length-append}
use Rattle.std.specs.Prelude.{nat_eq, int_lt, slice_set}
use Rattle.std.specs.List.{slice_get}
use Rattle.std.proofs.Math.ListN.{length-set}
use Rattle.chi_core.specs.declared.act.Act.{Act}
use Rattle.chi_core.specs.declared.act.Act.TheVariants.{Send, Receive, Delay}
use Rattle.chi_core.specs.declared.expression.CExpr.{CExpr}
use Rattle.chi_core.specs.declared.fault.FaultKind.{FaultKind}
use Rattle.chi_core.specs.declared.label.Label.{Label}
use Rattle.chi_core.specs.declared.label.Label.TheVariants.{Local, Pair, Wake, Join, Advance}
use Rattle.chi_core.specs.declared.program.Core.{Core}
use Rattle.chi_core.specs.declared.statement.Branch.{Branch}
use Rattle.chi_core.specs.declared.statement.CAlt.{CAlt}
use Rattle.chi_core.specs.declared.statement.CStat.{CStat, CStat-F, out-CStat}
use Rattle.chi_core.specs.declared.view.View.{View}
use Rattle.chi_core.specs.Answer as answer
use Rattle.chi_core.specs.Answer.{Answer, Gives, Fails, Does, then_do, wanted, giving, in_turn}
use Rattle.chi_core.specs.Config.{Config, Instance, Offer, State, Running, Waiting, Joining, Finished, value_in, view_of, with_instance, settled}
use Rattle.chi_core.specs.Evaluation.{Evaluates}
use Rattle.chi_core.specs.Meeting.{resumed, met, paired, woken_by, woken, are_over, joined_in, joined, next_due, may_reach, advanced}
use Rattle.chi_core.specs.Opening.{opened}
use Rattle.chi_core.specs.Performing.{Change, Goes, Exits, quietly, within_text, written, exits_with, exited, all_named, came_to, waits, with_started, joins_started, joins, performed_stat, performed}
use Rattle.chi_core.specs.Reading.{quoted_in}
use Rattle.chi_core.specs.Starting.{all_started}
use Rattle.chi_core.specs.Step as outcome
use Rattle.chi_core.specs.Step.{Outcome, Next, Over, line_of, name_of, fault_in, after_step, first_done, local_in, local, no_fault, taken, step}
use Rattle.chi_core.specs.Terms.{Item, Do, Loop, Walk, Term, Did, On, Returns, act_stat, act}
use Rattle.chi_plain_steps.proofs.Changes.{slice_get-set_other}
use Rattle.chi_plain.specs.Watching.{Others, first_named, second_named}

-- what is given is so
abbrev Yields : {A : Type 0} → (A → Type 0) → Answer A → Type 0
Yields P (Gives x view) = P x
Yields P (Fails kind) = Unit {0}
Yields P answer.Spent = Unit {0}
Yields P answer.Amiss = Unit {0}

yields-then : {A B : Type 0} (P : B → Type 0) (a : Answer A) (f : A → Does B) → ((x : A) (view : View) → Yields P (f x view)) → Yields P (then_do a f)
yields-then P (Gives x view) f g = g x view
yields-then P (Fails kind) f g = tt
yields-then P answer.Spent f g = tt
yields-then P answer.Amiss f g = tt

yields-giving : {A B : Type 0} (P : B → Type 0) (f : A → B) (a : Answer A) → ((x : A) → P (f x)) → Yields P (giving f a)
yields-giving P f (Gives x view) g = g x
yields-giving P f (Fails kind) g = tt
yields-giving P f answer.Spent g = tt
yields-giving P f answer.Amiss g = tt

yields-if : {A : Type 0} (P : A → Type 0) (b : Bool) (a c : Answer A) → Yields P a → Yields P c → Yields P (cond b a c)
yields-if P true a c h l = h
yields-if P false a c h l = l

-- instances

same-front : (xs ys : List Instance) (r : ℕ) → r < length xs → slice_get (xs ++ ys) r ≡ slice_get xs r
same-front [] ys r h = absurd (omega arith)
same-front (x ∷ xs) ys zero h = refl
same-front (x ∷ xs) ys (suc r) h = same-front xs ys r (omega arith)

others-refl : (p q : ℕ) (is : List Instance) → Others p q is is
others-refl p q is = record { grown = le_refl (length is); same = λ r f g h. refl }

others-set : (p q : ℕ) (is : List Instance) (i : Instance) → Others p q is (slice_set is p i)
others-set p q is i = record {
  grown = let e = length-set is p i in omega (arith, e);
  same = λ r f g h. slice_get-set_other is p r i (λ e. f (sym e));
}

others-sets : (p q : ℕ) (is : List Instance) (i j : Instance) → Others p q is (slice_set (slice_set is p i) q j)
others-sets p q is i j = record {
  grown = let e = length-set is p i in let d = length-set (slice_set is p i) q j in omega (arith, e, d);
  same = λ r f g h. slice_get-set_other (slice_set is p i) q r j (λ e. g (sym e)) ∙ slice_get-set_other is p r i (λ e. f (sym e));
}

others-more : (p q : ℕ) (is js more : List Instance) → Others p q is js → Others p q is (js ++ more)
others-more p q is js more o = record {
  grown = let e = length-append js more in let g = o.grown in omega (arith, e, g);
  same = λ r f g h. same-front js more r (let w = o.grown in omega (arith, w, h)) ∙ o.same r f g h;
}

-- of the instances of a configuration only two may have changed
abbrev Only : ℕ → ℕ → Config → Change → Type 0
Only p q config (Goes new text) = Others p q config.instances new.instances
Only p q config (Exits v) = Unit {0}

module _ (core : Core) (config : Config) (p q : ℕ) (i : Instance) where
  abbrev value_of : Evaluates
  value_of = value_in core config i.variables

  only-came_to : (d : Did) (view : View) → Yields (Only p q config) (came_to core config p i d view)
  only-came_to (On variables term) view = others-set p q config.instances _
  only-came_to (Returns v) view = tt

  only-exited : (e : Option CExpr) (view : View) → Yields (Only p q config) (exited core value_of e view)
  only-exited None view = tt
  only-exited (Some e) view =
      yields-then (Only p q config) (value_of e view) (exits_with core) (λ v now.
      yields-then (Only p q config) (wanted (quoted_in core.names.kinds v) now) (λ text new. giving (λ text'. Exits (Some v)) (within_text text new)) (λ text new.
      yields-giving (Only p q config) (λ text'. Exits (Some v)) (within_text text new) (λ text'. tt)))

  only-shared : (s : CStat-F CAlt CStat Branch) (view : View)
      → Yields (Only p q config) (then_do (act_stat value_of i.variables s i.term view) (came_to core config p i))
  only-shared s view = yields-then (Only p q config) (act_stat value_of i.variables s i.term view) (came_to core config p i) only-came_to

  only-stat : (s : CStat-F CAlt CStat Branch) (view : View) → Yields (Only p q config) (performed_stat core config p i s view)
  only-stat (CStat-F.Write line pieces values) view =
      yields-giving (Only p q config) (Goes (with_instance config p i)) (written core value_of pieces values view) (λ text. others-set p q config.instances _)
  only-stat (CStat-F.Exit line e) view = only-exited e view
  only-stat (CStat-F.Select line alternatives) view =
      yields-giving (Only p q config) (waits core config p i) (opened (value_in core config) config.clock i.variables alternatives view)
      (λ o. others-set p q config.instances _)
  only-stat (CStat-F.Run line elements) view =
      yields-giving (Only p q config) (joins_started core config p i) (all_started (value_in core config) core.procs i.variables elements view)
      (λ s. others-more p q config.instances _ (map settled s.made) (others-set p q config.instances _))
  only-stat (CStat-F.Start line elements) view =
      yields-giving (Only p q config) (λ s. quietly (with_started core config p i Running s))
      (all_started (value_in core config) core.procs i.variables elements view)
      (λ s. others-more p q config.instances _ (map settled s.made) (others-set p q config.instances _))
  only-stat (CStat-F.Finish line expressions) view =
      yields-then (Only p q config) (in_turn (map value_of expressions) view) (λ values now. giving (joins core config p i) (all_named [] values now)) (λ values now.
      yields-giving (Only p q config) (joins core config p i) (all_named [] values now) (λ numbers. others-set p q config.instances _))
  only-stat (CStat-F.Declare line slot e) view = only-shared (CStat-F.Declare line slot e) view
  only-stat (CStat-F.Assign line targets values) view = only-shared (CStat-F.Assign line targets values) view
  only-stat (CStat-F.If line branches otherwise) view = only-shared (CStat-F.If line branches otherwise) view
  only-stat (CStat-F.While line test block) view = only-shared (CStat-F.While line test block) view
  only-stat (CStat-F.For line slots e block) view = only-shared (CStat-F.For line slots e block) view
  only-stat (CStat-F.Break line) view = only-shared (CStat-F.Break line) view
  only-stat (CStat-F.Continue line) view = only-shared (CStat-F.Continue line) view
  only-stat (CStat-F.Pass line) view = only-shared (CStat-F.Pass line) view
  only-stat (CStat-F.Return line e) view = only-shared (CStat-F.Return line e) view

  only-item : (x : Item) (view : View) → Yields (Only p q config) (then_do (act value_of i.variables x i.term view) (came_to core config p i))
  only-item x view = yields-then (Only p q config) (act value_of i.variables x i.term view) (came_to core config p i) only-came_to

  only-performed : (x : Item) (view : View) → Yields (Only p q config) (performed core config p i x view)
  only-performed (Do s) view = only-stat (out-CStat s) view
  only-performed (Loop line test block) view = only-item (Loop line test block) view
  only-performed (Walk line slots elements block) view = only-item (Walk line slots elements block) view

-- meetings

only-met : (config : Config) (p : ℕ) (i : Instance) (sends : Offer) (act : Act) (q : ℕ) (j : Instance) (receives : Offer) (other : Act) (view : View)
    → Yields (Only p q config) (met config p i sends act q j receives other view)
only-met config p i sends (Send channel x) q j receives (Receive its slot) view =
    yields-if (Only p q config) (nat_eq channel its) _ answer.Amiss
    (yields-then (Only p q config) (resumed sends None None i view)
    (λ sender now. giving (λ receiver. quietly (with_instance (with_instance config p sender) q receiver)) (resumed receives slot x j now)) (λ sender now.
    yields-giving (Only p q config) (λ receiver. quietly (with_instance (with_instance config p sender) q receiver)) (resumed receives slot x j now)
    (λ receiver. others-sets p q config.instances _ _)))
    tt
only-met config p i sends (Send channel x) q j receives (Send its y) view = tt
only-met config p i sends (Send channel x) q j receives (Delay due) view = tt
only-met config p i sends (Receive channel slot) q j receives other view = tt
only-met config p i sends (Delay due) q j receives other view = tt

only-paired : (config : Config) (p : ℕ) (o : Option Instance) (sends : Option Offer) (q : ℕ) (other : Option Instance) (receives : Option Offer) (view : View)
    → Yields (Only p q config) (paired config p o sends q other receives view)
only-paired config p (Some i) (Some sends) q (Some j) (Some receives) view =
    yields-if (Only p q config) (nat_eq p q) answer.Amiss _ tt (only-met config p i sends sends.act q j receives receives.act view)
only-paired config p (Some i) (Some sends) q (Some j) None view = tt
only-paired config p (Some i) (Some sends) q None receives view = tt
only-paired config p (Some i) None q other receives view = tt
only-paired config p None sends q other receives view = tt

only-woken_by : (config : Config) (p : ℕ) (i : Instance) (offer : Offer) (act : Act) (view : View)
    → Yields (Only p p config) (woken_by config p i offer act view)
only-woken_by config p i offer (Delay due) view =
    yields-if (Only p p config) (int_lt config.clock due) answer.Amiss _ tt
    (yields-giving (Only p p config) (λ woken. quietly (with_instance config p woken)) (resumed offer None None i view) (λ woken. others-set p p config.instances _))
only-woken_by config p i offer (Send channel x) view = tt
only-woken_by config p i offer (Receive channel slot) view = tt

only-woken : (config : Config) (p : ℕ) (o : Option Instance) (offer : Option Offer) (view : View) → Yields (Only p p config) (woken config p o offer view)
only-woken config p (Some i) (Some offer) view = only-woken_by config p i offer offer.act view
only-woken config p (Some i) None view = tt
only-woken config p None offer view = tt

only-joined : (config : Config) (p : ℕ) (o : Option Instance) (view : View) → Yields (Only p p config) (joined config p o view)
only-joined config p None view = tt
only-joined config p (Some i) view = by_state i.state
  where
    by_state : (s : State) → Yields (Only p p config) (joined_in config p i s view)
    by_state (Joining numbers) =
        yields-if (Only p p config) (are_over config numbers) (Gives (quietly (with_instance config p (record i { state = Running }))) view) answer.Amiss
        (others-set p p config.instances _) tt
    by_state Running = tt
    by_state (Waiting offers) = tt
    by_state Finished = tt

only-advanced : (config : Config) (o : Option ℤ) (view : View) → Yields (Only 0 0 config) (advanced config o view)
only-advanced config None view = tt
only-advanced config (Some t) view =
    yields-if (Only 0 0 config) (may_reach config.until t) (Gives (quietly (record config { clock = t })) view) answer.Amiss (others-refl 0 0 config.instances) tt

-- steps

abbrev OnlyNext : ℕ → ℕ → Config → Outcome → Type 0
OnlyNext p q config (Next new text left) = Others p q config.instances new.instances
OnlyNext p q config (Over verdict) = Unit {0}
OnlyNext p q config outcome.Spent = Unit {0}
OnlyNext p q config outcome.Amiss = Unit {0}

abbrev IsFault : (FaultKind → Outcome) → Type 0
IsFault fault = (p q : ℕ) (config : Config) (kind : FaultKind) → OnlyNext p q config (fault kind)

no_fault-is : IsFault no_fault
no_fault-is p q config kind = tt

fault_in-is : (name : Option (List ℕ)) (line : ℕ) → IsFault (fault_in name line)
fault_in-is None line p q config kind = tt
fault_in-is (Some name) line p q config kind = tt

only-after : (p q : ℕ) (config : Config) (fault : FaultKind → Outcome) → IsFault fault → (m : Answer Change) → Yields (Only p q config) m
    → OnlyNext p q config (after_step fault m)
only-after p q config fault f (Gives (Goes new text) view) y = y
only-after p q config fault f (Gives (Exits v) view) y = tt
only-after p q config fault f (Fails kind) y = f p q config kind
only-after p q config fault f answer.Spent y = tt
only-after p q config fault f answer.Amiss y = tt

only-first : (core : Core) (config : Config) (p : ℕ) (i : Instance) (term : Term) (view : View) → OnlyNext p p config (first_done core config p i term view)
only-first core config p i [] view = tt
only-first core config p i (item ∷ rest) view =
    only-after p p config _ (fault_in-is (name_of core i.definition) (line_of item)) _ (only-performed core config p p (record i { term = rest }) item view)

only-local : (core : Core) (config : Config) (p : ℕ) (o : Option Instance) (view : View) → OnlyNext p p config (local core config p o view)
only-local core config p None view = tt
only-local core config p (Some i) view = by_state i.state
  where
    by_state : (s : State) → OnlyNext p p config (local_in core config p i s view)
    by_state Running = only-first core config p i i.term view
    by_state (Waiting offers) = tt
    by_state (Joining numbers) = tt
    by_state Finished = tt

only-taken : (core : Core) (config : Config) (label : Label) (view : View) → OnlyNext (first_named label) (second_named label) config (taken core config label view)
only-taken core config (Local p) view = only-local core config p (slice_get config.instances p) view
only-taken core config (Pair p a q b) view = only-after p q config no_fault no_fault-is _ (only-paired config p _ _ q _ _ view)
only-taken core config (Wake p a) view = only-after p p config no_fault no_fault-is _ (only-woken config p _ _ view)
only-taken core config (Join p) view = only-after p p config no_fault no_fault-is _ (only-joined config p _ view)
only-taken core config Advance view = only-after 0 0 config no_fault no_fault-is _ (only-advanced config (next_due config) view)

only-step : (core : Core) (config : Config) (label : Label) (left : ℕ) → OnlyNext (first_named label) (second_named label) config (step core config label left)
unfolding step
only-step core config label zero = tt
only-step core config label (suc left) = only-taken core config label (view_of config left)

pub touches : (core : Core) (config : Config) (label : Label) (left : ℕ) (new : Config) (text : List ℕ) (rest : ℕ)
    → step core config label left ≡ Next new text rest → Others (first_named label) (second_named label) config.instances new.instances
touches core config label left new text rest e =
    let P : Outcome → Type 0 = OnlyNext (first_named label) (second_named label) config in
    subst P e (only-step core config label left)
