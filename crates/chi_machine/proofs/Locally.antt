-- The step of one instance, by what its run came to.
use Rattle.std.proofs.Common.{◌≡◌, ℕ, suc, ◌+◌, ◌<◌, ◌≤◌, List, [], ◌++◌, length, Option, Some, refl, sym, ap, subst, ◌∙◌, length-append, arith}
use Rattle.std.specs.Prelude.{slice_get, slice_set, map}
use Rattle.std.proofs.lemmas.List.{append-nil, length-map}
use Rattle.std.proofs.lemmas.Option.{slice_get_within}
use Rattle.chi_value.specs.declared.value.Value.{Value}
use Rattle.chi_core.specs.declared.fault.FaultKind.{FaultKind}
use Rattle.chi_core.specs.declared.label.Label.TheVariants.{Local}
use Rattle.chi_core.specs.declared.limits.TheConstants.{MOST_INSTANCES}
use Rattle.chi_core.specs.declared.verdict.Verdict.TheVariants.{Fault, Exit}
use Rattle.chi_core_frame.specs.declared.stop.Stop.{Stop}
use Rattle.chi_core_frame.specs.declared.stop.Stop.TheVariants as stop
use Rattle.chi_code.specs.declared.code.Code.{Code}
use Rattle.chi_code.specs.declared.instr.Instr.TheVariants as instr
use Rattle.chi_exec_law.specs.Runs.{End, Rests, Faults, Spends, Reaches}
use Rattle.chi_exec_law.specs.State.{State}
use Rattle.chi_exec_law.proofs.Ends.{ends_alike}
use Rattle.chi_machine_laws.specs.Deeds.{Brought, nothing, Rest, Pauses, Waits, Joins, Exits, held_there, moves}
use Rattle.chi_machine_laws.specs.Instances as law
use Rattle.chi_machine_laws.specs.Instances.{Held, Whole}
use Rattle.chi_machine_laws.specs.Labels as label
use Rattle.chi_machine_laws.specs.Labels.{Outcome, GoesOn, within_at, view_at, going, held_at, with_held, name_at, After, paused, waited, joined, exited, broke, spent, Takes, goes}
use Rattle.chi_machine_agenda.specs.Phases.{Running, AreThere}
use Rattle.chi_machine_runs.specs.declared.doing.Doing.{Doing}
use Rattle.chi_machine_runs.specs.declared.doing.Doing.TheVariants as doing
use Rattle.chi_machine_runs.specs.Views.{held_in, brought_of, FailedAt}
use Rattle.chi_machine.specs.declared.instance.Instance.{Instance}
use Rattle.chi_machine.specs.declared.taken.Taken.{Taken}
use Rattle.chi_machine.specs.declared.taken.Taken.TheVariants.{Over}
use Rattle.chi_machine.specs.declared.world.World.{World}
use Rattle.chi_machine.specs.Crowds.{IsWorld}
use Rattle.chi_machine.specs.Runs.{MayRun, HasRun, HasRested, FaultsAt, StopsAs}
use Rattle.chi_machine.specs.Takings.{IsWell, LeadsWell, MayTake, Took}
use Rattle.chi_machine.specs.Views.{frame_at, offers_at, held_of, instances_of, whole_of, state_with}
use Rattle.chi_machine.proofs.Crowded.{as_many}
use Rattle.chi_machine.proofs.Helds.{held_length}
use Rattle.chi_machine.proofs.Listed.{set_again, set_before, get_set, get_before, length_set}

-- what an outcome comes from
record Locally (code : Code) (m : Whole) (p left : ℕ) (o : Outcome) : Type 0 where
  line : ℕ
  h : Held
  e : End Rest
  there : slice_get m.instances p ≡ Some h
  running : h.standing ≡ law.Running
  marks : slice_get code.instrs h.at ≡ Some (instr.Mark line)
  reaches : Reaches (moves (within_at code m)) (going h (view_at m left), nothing) e
  after : After code m p h.definition line e o

locally : (code : Code) (m : Whole) (p left : ℕ) (o : Outcome) → Takes code m (Local p) (suc left) o → Locally code m p left o
locally code m p left _ (goes _ _ line h e o there running marks reaches after) =
    record { line = line; h = h; e = e; there = there; running = running; marks = marks; reaches = reaches; after = after }

pub may_run : (code : Code) (m : Whole) (p left : ℕ) → MayTake code m (Local p) (suc left) → MayRun code m p left
may_run code m p left t =
    let l = locally code m p left t.outcome t.takes in
    record { h = l.h; there = l.there; runs = l.running; within = slice_get_within code.instrs l.h.at _ l.marks; halts = (l.e, l.reaches) }

-- what follows from an end

pauses_is : (code : Code) (m : Whole) (p definition line : ℕ) (s : State) (b : Brought) (o : Outcome) → After code m p definition line (Rests (Pauses s b)) o
    → o ≡ GoesOn (with_held m p (held_there code definition s.frame s.at) b.made s.view) b.text s.view.left
pauses_is code m p definition line s b _ (paused _ _) = refl

waits_is : (code : Code) (m : Whole) (p definition line : ℕ) (s : State) (b : Brought) (o : Outcome) → After code m p definition line (Rests (Waits s b)) o
    → o ≡ GoesOn (with_held m p (held_at definition s (law.Waiting b.offers)) b.made s.view) b.text s.view.left
waits_is code m p definition line s b _ (waited _ _) = refl

joins_is : (code : Code) (m : Whole) (p definition line : ℕ) (numbers : List ℕ) (s : State) (b : Brought) (o : Outcome) → After code m p definition line (Rests (Joins numbers s b)) o
    → o ≡ GoesOn (with_held m p (held_at definition s (law.Joining numbers)) b.made s.view) b.text s.view.left
joins_is code m p definition line numbers s b _ (joined _ _ _) = refl

exits_is : (code : Code) (m : Whole) (p definition line : ℕ) (v : Option Value) (o : Outcome) → After code m p definition line (Rests (Exits v)) o → o ≡ label.Over (Exit v)
exits_is code m p definition line v _ (exited _) = refl

faults_is : (code : Code) (m : Whole) (p definition line : ℕ) (kind : FaultKind) (o : Outcome) → After code m p definition line (Faults kind) o
    → (name : List ℕ) × (name_at code definition ≡ Some name) × (o ≡ label.Over (Fault kind name line))
faults_is code m p definition line kind _ (broke _ name e) = (name, e, refl)

spends_is : (code : Code) (m : Whole) (p definition line : ℕ) (o : Outcome) → After code m p definition line Spends o → o ≡ label.Spent
spends_is code m p definition line _ spent = refl

module _ (code : Code) (m : Whole) (p left : ℕ) (t : MayTake code m (Local p) (suc left)) (w : World) (kept : IsWorld code w) (how : Doing) (r : HasRun code m p left w how) where
  abbrev its : State
  its = state_with (frame_at r.i.room) w.exec

  abbrev brings : Brought
  brings = brought_of code (offers_at r.i.room) w.brought

  abbrev made : List Held
  made = map (held_in code) w.brought.made.items

  whence : Locally code m p left t.outcome
  whence = locally code m p left t.outcome t.takes

  same_held : whence.h ≡ r.h
  same_held = let a = whence.there in let b = r.there in cc

  came : (e : End Rest) → Reaches (moves (within_at code m)) (going r.h (view_at m left), nothing) e → After code m p r.h.definition whence.line e t.outcome
  came e reaches =
      let own : Reaches (moves (within_at code m)) (going r.h (view_at m left), nothing) whence.e = subst (λ h. Reaches (moves (within_at code m)) (going h (view_at m left), nothing) whence.e) same_held whence.reaches in
      let ends : whence.e ≡ e = ends_alike (moves (within_at code m)) (going r.h (view_at m left), nothing) whence.e e own reaches in
      subst (λ e. After code m p r.h.definition whence.line e t.outcome) ends (subst (λ (h : Held). After code m p h.definition whence.line whence.e t.outcome) same_held whence.after)

  -- the instances, before the others come

  instances_are : instances_of w.crowd ≡ slice_set m.instances p (held_of r.i Running)
  instances_are = ap (λ (m : Whole). m.instances) r.whole

  is_there : p < length m.instances
  is_there = slice_get_within m.instances p r.h r.there

  as_before : length w.crowd.instances.items ≡ length m.instances
  as_before =
      sym (held_length w.crowd.instances.items w.crowd.agenda.phases (as_many w.crowd kept.crowd)) ∙ ap length instances_are ∙ length_set m.instances p (held_of r.i Running)

  all_now : (x : Held) → slice_set (instances_of w.crowd ++ made) p x ≡ slice_set m.instances p x ++ made
  all_now x =
      let within : p < length (slice_set m.instances p (held_of r.i Running)) = omega (arith, is_there, length_set m.instances p (held_of r.i Running)) in
      ap (λ l. slice_set (l ++ made) p x) instances_are ∙ set_before (slice_set m.instances p (held_of r.i Running)) made p x within ∙ ap (λ l. l ++ made) (set_again m.instances p (held_of r.i Running) x)

  count_now : (x : Held) → length (slice_set m.instances p x ++ made) ≡ length w.crowd.instances.items + length w.brought.made.items
  count_now x = omega (arith, length-append (slice_set m.instances p x) made, length_set m.instances p x, as_before, length-map w.brought.made.items (held_in code))

  whole_rests : (new : World) (x : Held) → whole_of new ≡ record (whole_of w) { instances = slice_set (instances_of w.crowd ++ made) p x } → whole_of new ≡ with_held m p x made w.exec.view
  whole_rests new x e = e ∙ (λ j. record (r.whole j) { instances = all_now x j })

  -- it goes on, with this instance in its place
  module _ (x : Held) (is : t.outcome ≡ GoesOn (with_held m p x made w.exec.view) w.brought.text.items w.exec.view.left) where
    well : IsWell (with_held m p x made w.exec.view)
    well = subst LeadsWell is t.well

    few_made : length w.crowd.instances.items + length w.brought.made.items ≤ MOST_INSTANCES
    few_made = let few = well.few in omega (arith, few, count_now x)

    joins_there : (numbers : List ℕ) → x.standing ≡ law.Joining numbers → AreThere (length w.crowd.instances.items + length w.brought.made.items) numbers
    joins_there numbers e =
        let within : p < length (slice_set m.instances p x) = omega (arith, is_there, length_set m.instances p x) in
        subst (λ n. AreThere n numbers) (count_now x) (well.there p x numbers (get_before (slice_set m.instances p x) made p within ∙ get_set m.instances p x is_there) e)

    took_so : (new : World) (before after : List ℕ) (taken : Taken) → HasRested code w new (slice_set (instances_of w.crowd ++ made) p x) before after taken
        → (text : List ℕ) × (after ≡ before ++ text) × Took code m (Local p) (suc left) taken new text
    took_so new before after taken rested =
        let leads : t.outcome ≡ GoesOn (whole_of new) w.brought.text.items w.exec.view.left = is ∙ (λ j. GoesOn (sym (whole_rests new x rested.whole) j) w.brought.text.items w.exec.view.left) in (
          w.brought.text.items,
          rested.text,
          subst (λ taken. Took code m (Local p) (suc left) taken new w.brought.text.items) (sym rested.taken) (subst (Takes code m (Local p) (suc left)) leads t.takes, rested.kept),
        )

module _ (code : Code) (m : Whole) (p left : ℕ) (t : MayTake code m (Local p) (suc left)) (w : World) (kept : IsWorld code w) where
  module _ (r : HasRun code m p left w doing.Pauses) where
    pauses_to : t.outcome ≡ GoesOn (with_held m p (held_there code r.i.process (frame_at r.i.room) w.exec.at) (map (held_in code) w.brought.made.items) w.exec.view) w.brought.text.items w.exec.view.left
    pauses_to =
        pauses_is code m p r.h.definition _ (its code m p left t w kept doing.Pauses r) (brings code m p left t w kept doing.Pauses r) t.outcome (came code m p left t w kept doing.Pauses r _ r.ran)
        ∙ (λ j. GoesOn (with_held m p (held_there code (sym r.process j) (frame_at r.i.room) w.exec.at) (map (held_in code) w.brought.made.items) w.exec.view) w.brought.text.items w.exec.view.left)

    pub pauses_few : length w.crowd.instances.items + length w.brought.made.items ≤ MOST_INSTANCES
    pauses_few = few_made code m p left t w kept doing.Pauses r _ pauses_to

    pub pauses_took : (new : World) (before after : List ℕ) (taken : Taken)
        → ((i : Instance) → slice_get w.crowd.instances.items p ≡ Some i → HasRested code w new (slice_set (instances_of w.crowd ++ map (held_in code) w.brought.made.items) p (held_there code i.process (frame_at i.room) w.exec.at)) before after taken)
        → (text : List ℕ) × (after ≡ before ++ text) × Took code m (Local p) (suc left) taken new text
    pauses_took new before after taken rested = took_so code m p left t w kept doing.Pauses r _ pauses_to new before after taken (rested r.i r.is)

  module _ (r : HasRun code m p left w doing.Waits) where
    abbrev waiting : Instance → Held
    waiting i = record { definition = i.process; at = w.exec.at; frame = frame_at i.room; standing = law.Waiting (offers_at i.room) }

    waits_to : t.outcome ≡ GoesOn (with_held m p (waiting r.i) (map (held_in code) w.brought.made.items) w.exec.view) w.brought.text.items w.exec.view.left
    waits_to =
        waits_is code m p r.h.definition _ (its code m p left t w kept doing.Waits r) (brings code m p left t w kept doing.Waits r) t.outcome (came code m p left t w kept doing.Waits r _ r.ran)
        ∙ (λ j. GoesOn (with_held m p (record (waiting r.i) { definition = sym r.process j }) (map (held_in code) w.brought.made.items) w.exec.view) w.brought.text.items w.exec.view.left)

    pub waits_few : length w.crowd.instances.items + length w.brought.made.items ≤ MOST_INSTANCES
    waits_few = few_made code m p left t w kept doing.Waits r _ waits_to

    pub waits_took : (new : World) (before after : List ℕ) (taken : Taken)
        → ((i : Instance) → slice_get w.crowd.instances.items p ≡ Some i → HasRested code w new (slice_set (instances_of w.crowd ++ map (held_in code) w.brought.made.items) p (waiting i)) before after taken)
        → (text : List ℕ) × (after ≡ before ++ text) × Took code m (Local p) (suc left) taken new text
    waits_took new before after taken rested = took_so code m p left t w kept doing.Waits r _ waits_to new before after taken (rested r.i r.is)

  module _ (r : HasRun code m p left w doing.Joins) where
    abbrev joining : Instance → Held
    joining i = record { definition = i.process; at = w.exec.at; frame = frame_at i.room; standing = law.Joining w.brought.joins.items }

    joins_to : t.outcome ≡ GoesOn (with_held m p (joining r.i) (map (held_in code) w.brought.made.items) w.exec.view) w.brought.text.items w.exec.view.left
    joins_to =
        joins_is code m p r.h.definition _ w.brought.joins.items (its code m p left t w kept doing.Joins r) (brings code m p left t w kept doing.Joins r) t.outcome (came code m p left t w kept doing.Joins r _ r.ran)
        ∙ (λ j. GoesOn (with_held m p (record (joining r.i) { definition = sym r.process j }) (map (held_in code) w.brought.made.items) w.exec.view) w.brought.text.items w.exec.view.left)

    pub joins_few : length w.crowd.instances.items + length w.brought.made.items ≤ MOST_INSTANCES
    joins_few = few_made code m p left t w kept doing.Joins r _ joins_to

    pub joins_are_there : AreThere (length w.crowd.instances.items + length w.brought.made.items) w.brought.joins.items
    joins_are_there = joins_there code m p left t w kept doing.Joins r _ joins_to w.brought.joins.items refl

    pub joins_took : (new : World) (before after : List ℕ) (taken : Taken)
        → ((i : Instance) → slice_get w.crowd.instances.items p ≡ Some i → HasRested code w new (slice_set (instances_of w.crowd ++ map (held_in code) w.brought.made.items) p (joining i)) before after taken)
        → (text : List ℕ) × (after ≡ before ++ text) × Took code m (Local p) (suc left) taken new text
    joins_took new before after taken rested = took_so code m p left t w kept doing.Joins r _ joins_to new before after taken (rested r.i r.is)

  -- the run of all is over

  pub exits_took : HasRun code m p left w doing.Exits → (new : World) (out : List ℕ) (v : Option Value) → v ≡ w.brought.exit → (text : List ℕ) × (out ≡ out ++ text) × Took code m (Local p) (suc left) (Over (Exit v)) new text
  exits_took r new out v same =
      let is = exits_is code m p r.h.definition _ w.brought.exit t.outcome (came code m p left t w kept doing.Exits r _ r.ran) in
      ([], sym (append-nil out), (subst (Takes code m (Local p) (suc left)) (is ∙ ap (λ v. label.Over (Exit v)) (sym same)) t.takes, refl))

  module _ (r : HasRun code m p left w doing.Stops) where
    faults_by : (kind : FaultKind) → w.exec.stop ≡ stop.Fault kind → Reaches (moves (within_at code m)) (going r.h (view_at m left), nothing) (Faults kind)
    faults_by kind e = subst (FailedAt (within_at code m) (going r.h (view_at m left), nothing)) e r.ran

    pub faults_there : (kind : FaultKind) → w.exec.stop ≡ stop.Fault kind → FaultsAt code w.crowd p
    faults_there kind e =
        let f = faults_is code m p r.h.definition _ kind t.outcome (came code m p left t w kept doing.Stops r (Faults kind) (faults_by kind e)) in
        let l = whence code m p left t w kept doing.Stops r in
        record {
          i = r.i;
          is = r.is;
          line = l.line;
          marks = ap (slice_get code.instrs) (r.at ∙ sym (ap (λ (h : Held). h.at) (same_held code m p left t w kept doing.Stops r))) ∙ l.marks;
          name = f.0;
          named = ap (name_at code) r.process ∙ f.1;
        }

    pub stops_took : (new : World) (out : List ℕ) (why : Stop) (taken : Taken) → w.exec.stop ≡ why → StopsAs code w.crowd p why taken → (text : List ℕ) × (out ≡ out ++ text) × Took code m (Local p) (suc left) taken new text
    unfolding faults_there faults_is whence
    stops_took new out (stop.Fault kind) taken e s =
        let f = faults_is code m p r.h.definition _ kind t.outcome (came code m p left t w kept doing.Stops r (Faults kind) (faults_by kind e)) in
        ([], sym (append-nil out), subst (λ taken. Took code m (Local p) (suc left) taken new []) (sym (s (faults_there kind e))) (subst (Takes code m (Local p) (suc left)) f.2 t.takes, refl))
    stops_took new out stop.Spent taken e s =
        let is = spends_is code m p r.h.definition _ t.outcome (came code m p left t w kept doing.Stops r Spends (subst (FailedAt (within_at code m) (going r.h (view_at m left), nothing)) e r.ran)) in
        ([], sym (append-nil out), subst (λ taken. Took code m (Local p) (suc left) taken new []) (sym s) (subst (Takes code m (Local p) (suc left)) is t.takes, refl))
    stops_took new out stop.NoMemory taken e s = absurd s
