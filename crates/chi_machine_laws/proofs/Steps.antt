-- Each label takes the machine to where it stands for the configuration that the label leads to.
use Rattle.std.proofs.Common.{◌≡◌, ℕ, zero, suc, ◌+◌, ℤ, List, [], ◌∷◌, Option, Some, None, Bool, true, false, cond, refl, sym, ap, subst, ◌∙◌, arith}
use Rattle.std.specs.Prelude.{slice_get, slice_set, nat_eq, int_lt, option_map}
use Rattle.chi_value.specs.declared.value.Value.{Value}
use Rattle.chi_core.specs.declared.act.Act.{Act}
use Rattle.chi_core.specs.declared.act.Act.TheVariants.{Send, Receive, Delay}
use Rattle.chi_core.specs.declared.fault.FaultKind.{FaultKind}
use Rattle.chi_core.specs.declared.label.Label.{Label}
use Rattle.chi_core.specs.declared.label.Label.TheVariants.{Local, Pair, Wake, Join, Advance}
use Rattle.chi_core.specs.declared.program.Core.{Core}
use Rattle.chi_core.specs.declared.program.ProcDef.{ProcDef}
use Rattle.chi_core.specs.declared.view.View.{View}
use Rattle.chi_core.specs.Answer as answer
use Rattle.chi_core.specs.Answer.{Answer, Gives, Fails, then_do, wanted, giving}
use Rattle.chi_core.specs.Config as instance
use Rattle.chi_core.specs.Config.{Config, Instance, Offer, settled, offers_in, view_of, with_instance}
use Rattle.chi_core.specs.Meeting.{filled, resumed, offer_at, met, paired, woken_by, woken, are_over, joined_in, joined, next_due, may_reach, advanced}
use Rattle.chi_core.specs.Performing as performing
use Rattle.chi_core.specs.Performing.{Change, quietly, performed}
use Rattle.chi_core.specs.Step as step
use Rattle.chi_core.specs.Step.{line_of, name_of, fault_in, after_step, local_in, local, no_fault, taken}
use Rattle.chi_core.specs.Terms.{Term, first_the}
use Rattle.chi_core.specs.Variables.{Variables, bind}
use Rattle.chi_code.specs.declared.code.Code.{Code}
use Rattle.chi_code.specs.declared.code.Entry.{Entry}
use Rattle.chi_code.specs.declared.instr.Instr.TheVariants as instr
use Rattle.chi_code.specs.Codes.{in_process, Codes, ProcsAt, no_process, one_process}
use Rattle.chi_exec_law.specs.Runs.{End, Rests, Faults, Spends, Reaches}
use Rattle.chi_exec_law.specs.State.{Turning, Frame, state, frame_of}
use Rattle.chi_exec_law.specs.Standing.{TermAt, ReadyAt}
use Rattle.chi_exec_law.proofs.Lines.{item_line}
use Rattle.chi_machine_laws.specs.Instances as machine
use Rattle.chi_machine_laws.specs.Instances.{Standing, Held, Whole}
use Rattle.chi_machine_laws.specs.Deeds.{nothing, Rest, Exits, moves, held_there}
use Rattle.chi_machine_laws.specs.Labels.{Outcome, within_at, view_at, going, name_at, After, exited, broke, spent, Takes, none_left, goes, meets, wakes, joins, advances}
use Rattle.chi_machine_laws.specs.Laws.{StepsFollow}
use Rattle.chi_machine_laws.specs.Stands.{StateAt, runs, waits, joins as joins_so, ends, VariablesAt, InstanceAt, Stands, Follows}
use Rattle.chi_machine_laws.proofs.Choosing.{over_alike, due_alike}
use Rattle.chi_machine_laws.proofs.Pairs.{pairs_get}
use Rattle.chi_machine_laws.proofs.Performing.{EndsIn, item_ends}
use Rattle.chi_machine_laws.proofs.Standing.{within_of, withins_alike, views_alike, stands_with}
use Rattle.chi_machine_laws.proofs.Taking.{goes_on_at, Offered, offered}

pub names_alike : (core : Core) (code : Code) → Codes core code → (k : ℕ) → name_of core k ≡ name_at code k
names_alike core code codes k = by_place k code.procs codes.second _ codes.processes
  where
    by_place : (k : ℕ) {ds : List ProcDef} (entries : List Entry) (a z : ℕ) → ProcsAt code.instrs ds entries a z → option_map (λ (d : ProcDef). d.name) (slice_get ds k) ≡ option_map (λ (e : Entry). e.name) (slice_get entries k)
    by_place k _ _ _ (no_process a) = refl
    by_place zero _ _ _ (one_process d ds entries a b c h e hs) = refl
    by_place (suc k) _ _ _ (one_process d ds entries a b c h e hs) = by_place k entries (b + 1) c hs

-- what is bound and filled by an offer that is taken, where it is
data Taken (o : Offer) (slot : Option ℕ) (x : Option Value) (i : Instance) (view : View) : Type 0 where
  amiss : resumed o slot x i view ≡ answer.Amiss → Taken o slot x i view
  taken_so : (bound full : Variables) → bind o.bindings i.variables ≡ Some bound → filled slot x bound ≡ Some full
      → resumed o slot x i view ≡ Gives (record i { variables = full; term = first_the o.body i.term; state = instance.Running }) view → Taken o slot x i view

is_taken : (o : Offer) (slot : Option ℕ) (x : Option Value) (i : Instance) (view : View) → Taken o slot x i view
is_taken o slot x i view = by_bound (bind o.bindings i.variables) refl
  where
    new : Variables → Instance
    new variables = record i { variables = variables; term = first_the o.body i.term; state = instance.Running }

    by_full : (bound : Variables) → bind o.bindings i.variables ≡ Some bound → (full : Option Variables) → filled slot x bound ≡ full → Taken o slot x i view
    by_full bound e None f = amiss (ap (λ b. then_do (wanted b view) (λ bound now. giving new (wanted (filled slot x bound) now))) e ∙ ap (λ b. giving new (wanted b view)) f)
    by_full bound e (Some full) f = taken_so bound full e f (ap (λ b. then_do (wanted b view) (λ bound now. giving new (wanted (filled slot x bound) now))) e ∙ ap (λ b. giving new (wanted b view)) f)

    by_bound : (b : Option Variables) → bind o.bindings i.variables ≡ b → Taken o slot x i view
    by_bound None e = amiss (ap (λ b. then_do (wanted b view) (λ bound now. giving new (wanted (filled slot x bound) now))) e)
    by_bound (Some bound) e = by_full bound e (filled slot x bound) refl

module _ (core : Core) (code : Code) (codes : Codes core code) (config : Config) (m : Whole) (st : Stands core code config m) (left : ℕ) where
  abbrev Comes_so : Label → step.Outcome → Type 0
  Comes_so label o = Follows (Takes code m label (suc left)) core code o

  -- what is proved of the configuration's scene, variables and view is so of the machine's
  comes_at : (a : ℕ) (its : Variables) (frame : Frame) (e : End Rest) → frame.variables ≡ its → Reaches (moves (within_of core code config)) (state a [] (frame_of its frame.under) [] (view_of config left), nothing) e
      → Reaches (moves (within_at code m)) (state a [] frame [] (view_at m left), nothing) e
  comes_at a its frame e same c =
      subst (λ w. Reaches (moves w) (state a [] frame [] (view_at m left), nothing) e) (withins_alike core code codes config m st)
      (subst (λ v. Reaches (moves (within_of core code config)) (state a [] (frame_of v frame.under) [] (view_at m left), nothing) e) (sym same)
      (subst (λ view. Reaches (moves (within_of core code config)) (state a [] (frame_of its frame.under) [] view, nothing) e) (views_alike core code config m st left) c))

  -- instance p, which runs
  module _ (p line : ℕ) (h : Held) (there : slice_get m.instances p ≡ Some h) (running : h.standing ≡ machine.Running) (has : slice_get code.instrs h.at ≡ Some (instr.Mark line)) where
    takes : (e : End Rest) (o : Outcome) → Reaches (moves (within_at code m)) (going h (view_at m left), nothing) e → After code m p h.definition line e o → Takes code m (Local p) (suc left) o
    takes e o c a = goes p left line h e o there running has c a

    fault_so : (name : Option (List ℕ)) → name_at code h.definition ≡ name → (kind : FaultKind) → Reaches (moves (within_at code m)) (going h (view_at m left), nothing) (Faults kind) → Comes_so (Local p) (fault_in name line kind)
    fault_so None e kind c = tt
    fault_so (Some name) e kind c = takes (Faults kind) _ c (broke kind name e)

    outcome : (name : Option (List ℕ)) → name_at code h.definition ≡ name → (its : Variables) → h.frame.variables ≡ its → (a : Answer Change)
        → EndsIn core code codes config m st p line h.definition (state (h.at + 1) [] (frame_of its h.frame.under) [] (view_of config left), nothing) a
        → Comes_so (Local p) (after_step (fault_in name line) a)
    outcome name is its same (Gives (performing.Goes new text) now) r = (r.2.0, takes r.0 _ (comes_at (h.at + 1) its h.frame r.0 same r.1) r.2.1, r.2.2)
    outcome name is its same (Gives (performing.Exits v) now) r =
        takes (Rests (Exits v)) _ (comes_at (h.at + 1) its h.frame (Rests (Exits v)) same
        (subst (Reaches (moves (within_of core code config)) (state (h.at + 1) [] (frame_of its h.frame.under) [] (view_of config left), nothing)) r.2 r.1)) (exited v)
    outcome name is its same (Fails kind) r = fault_so name is kind (comes_at (h.at + 1) its h.frame (Faults kind) same r)
    outcome name is its same answer.Spent r = takes Spends _ (comes_at (h.at + 1) its h.frame Spends same r) spent
    outcome name is its same answer.Amiss r = tt

  state_local : (p : ℕ) (i : Instance) (h : Held) → slice_get m.instances p ≡ Some h → (at : InstanceAt core code i h) → (under : List Turning) (place : ℕ) (term : Term) (s : instance.State) (standing : Standing)
      → StateAt code.instrs at.process.slots under place term s standing → h.frame.under ≡ under → h.at ≡ place → h.standing ≡ standing → i.state ≡ s → Comes_so (Local p) (local_in core config p (record i { term = term }) s (view_of config left))
  state_local p i h there at _ _ _ _ _ (waits around under term place end offers ks all t) ue pe se ie = tt
  state_local p i h there at _ _ _ _ _ (joins_so around under term place numbers t) ue pe se ie = tt
  state_local p i h there at _ _ _ _ _ (ends place r) ue pe se ie = tt
  state_local p i h there at _ _ _ _ _ (runs around under x term place r) ue pe se ie =
      let ready : ReadyAt code.instrs in_process at.process.slots instr.Done around h.frame.under (x ∷ term) h.at =
      subst (λ u. ReadyAt code.instrs in_process at.process.slots instr.Done around u (x ∷ term) h.at) (sym ue) (subst (ReadyAt code.instrs in_process at.process.slots instr.Done around under (x ∷ term)) (sym pe) r) in
      outcome p (line_of x) h there se (item_line code.instrs in_process at.process.slots instr.Done around h.frame.under x term h.at ready)
      (name_of core i.definition) (ap (name_at code) at.definition ∙ sym (names_alike core code codes i.definition)) i.variables
      (subst (λ s. VariablesAt s i.variables h.frame.variables) ie at.variables) (performed core config p (record i { term = term }) x (view_of config left))
      (item_ends core code codes config m st p (line_of x) h.definition at.process (record i { term = term }) at.is at.definition ie around h.frame.under x h.at ready (view_of config left))

  local_step : (p : ℕ) (o : Option Instance) → slice_get config.instances p ≡ o → Comes_so (Local p) (local core config p o (view_of config left))
  local_step p None e = tt
  local_step p (Some i) e =
      let h = pairs_get (InstanceAt core code) config.instances m.instances p i st.instances e in
      state_local p i h.0 h.1 h.2 h.0.frame.under h.0.at i.term i.state h.0.standing h.2.state refl refl refl refl

  -- offers that are taken

  module _ (p a q b : ℕ) (i j : Instance) (s r : Offer) (h g : Held) (offers : Offered core code config m st p a h i s) (others : Offered core code config m st q b g j r) (apart : nat_eq p q ≡ false) where
    abbrev Paired : Option ℕ → Option Value → Answer Instance → step.Outcome
    Paired slot x sender =
        after_step no_fault (then_do sender (λ sender now. giving (λ receiver. quietly (with_instance (with_instance config p sender) q receiver)) (resumed r slot x j now)))

    pair_by : (channel : ℕ) (x : Option Value) (slot : Option ℕ) → s.act ≡ Send channel x → r.act ≡ Receive channel slot
        → Taken s None None i (view_of config left) → Taken r slot x j (view_of config left) → Comes_so (Pair p a q b) (Paired slot x (resumed s None None i (view_of config left)))
    pair_by channel x slot se re (amiss e) t = subst (λ o. Comes_so (Pair p a q b) (Paired slot x o)) (sym e) tt
    pair_by channel x slot se re (taken_so bound full binds fills is) t = subst (λ o. Comes_so (Pair p a q b) (Paired slot x o)) (sym is) (receiving t)
      where
        sent_so : Instance
        sent_so = record i { variables = full; term = first_the s.body i.term; state = instance.Running }

        receiving : Taken r slot x j (view_of config left) → Comes_so (Pair p a q b) (after_step no_fault (giving (λ receiver. quietly (with_instance (with_instance config p sent_so) q receiver)) (resumed r slot x j (view_of config left))))
        receiving (amiss e) = subst (λ o. Comes_so (Pair p a q b) (after_step no_fault (giving (λ receiver. quietly (with_instance (with_instance config p sent_so) q receiver)) o))) (sym e) tt
        receiving (taken_so bound' full' binds' fills' is') =
            let one = offers.resumes None None bound full binds fills in
            let two = others.resumes slot x bound' full' binds' fills' in
            let after : Instance = record j { variables = full'; term = first_the r.body j.term; state = instance.Running } in
            subst (λ o. Comes_so (Pair p a q b) (after_step no_fault (giving (λ receiver. quietly (with_instance (with_instance config p sent_so) q receiver)) o))) (sym is') (
              record m { instances = slice_set (slice_set m.instances p one.0) q two.0 },
              meets p a q b left channel x slot h g one.0 two.0 offers.kept others.kept apart offers.keeps (offers.act ∙ se) others.keeps (others.act ∙ re) one.1 two.1,
              stands_with core code (with_instance config p sent_so) (record m { instances = slice_set m.instances p one.0 }) (stands_with core code config m st p sent_so one.0 one.2) q after two.0 two.2,
            )

  pair_acts : (p a q b : ℕ) (i j : Instance) (s r : Offer) (h g : Held) → Offered core code config m st p a h i s → Offered core code config m st q b g j r → (x y : Act) → s.act ≡ x → r.act ≡ y
      → (t : Bool) → nat_eq p q ≡ t → Comes_so (Pair p a q b) (after_step no_fault (cond t answer.Amiss (met config p i s x q j r y (view_of config left))))
  pair_acts p a q b i j s r h g offers others x y se re true apart = tt
  pair_acts p a q b i j s r h g offers others (Send channel x) (Receive its slot) se re false apart = by_channel (nat_eq channel its) refl
    where
      by_channel : (t : Bool) → nat_eq channel its ≡ t → Comes_so (Pair p a q b) (after_step no_fault (cond t
          (then_do (resumed s None None i (view_of config left)) (λ sender now. giving (λ receiver. quietly (with_instance (with_instance config p sender) q receiver)) (resumed r slot x j now))) answer.Amiss))
      by_channel false e = tt
      by_channel true e =
          let same : its ≡ channel = grind arith in
          pair_by p a q b i j s r h g offers others apart channel x slot se (re ∙ ap (λ n. Receive n slot) same) (is_taken s None None i (view_of config left)) (is_taken r slot x j (view_of config left))
  pair_acts p a q b i j s r h g offers others (Send channel x) (Send its y) se re false apart = tt
  pair_acts p a q b i j s r h g offers others (Send channel x) (Delay t) se re false apart = tt
  pair_acts p a q b i j s r h g offers others (Receive channel slot) y se re false apart = tt
  pair_acts p a q b i j s r h g offers others (Delay t) y se re false apart = tt

  pair_offers : (p a q b : ℕ) (i j : Instance) → slice_get config.instances p ≡ Some i → slice_get config.instances q ≡ Some j → (o u : Option Offer) → slice_get (offers_in i.state) a ≡ o → slice_get (offers_in j.state) b ≡ u
      → Comes_so (Pair p a q b) (after_step no_fault (paired config p (Some i) o q (Some j) u (view_of config left)))
  pair_offers p a q b i j is js None u e f = tt
  pair_offers p a q b i j is js (Some s) None e f = tt
  pair_offers p a q b i j is js (Some s) (Some r) e f =
      let h = offered core code config m st p a i s is e in
      let g = offered core code config m st q b j r js f in
      pair_acts p a q b i j s r h.0 g.0 h.1 g.1 s.act r.act refl refl (nat_eq p q) refl

  pair_step : (p a q b : ℕ) (i j : Option Instance) → slice_get config.instances p ≡ i → slice_get config.instances q ≡ j
      → Comes_so (Pair p a q b) (after_step no_fault (paired config p i (offer_at i a) q j (offer_at j b) (view_of config left)))
  pair_step p a q b None j e f = tt
  pair_step p a q b (Some i) None e f = nothing_there (slice_get (offers_in i.state) a)
    where
      nothing_there : (o : Option Offer) → Comes_so (Pair p a q b) (after_step no_fault (paired config p (Some i) o q None None (view_of config left)))
      nothing_there None = tt
      nothing_there (Some o) = tt
  pair_step p a q b (Some i) (Some j) e f = pair_offers p a q b i j e f (slice_get (offers_in i.state) a) (slice_get (offers_in j.state) b) refl refl

  wake_by : (p a : ℕ) (i : Instance) (o : Offer) (h : Held) → Offered core code config m st p a h i o → (x : Act) → o.act ≡ x → Comes_so (Wake p a) (after_step no_fault (woken_by config p i o x (view_of config left)))
  wake_by p a i o h offers (Send channel x) e = tt
  wake_by p a i o h offers (Receive channel slot) e = tt
  wake_by p a i o h offers (Delay t) e = by_time (int_lt config.clock t) refl
    where
      woken_so : Taken o None None i (view_of config left) → int_lt config.clock t ≡ false → Comes_so (Wake p a) (after_step no_fault (giving (λ woken. quietly (with_instance config p woken)) (resumed o None None i (view_of config left))))
      woken_so (amiss d) past = subst (λ r. Comes_so (Wake p a) (after_step no_fault (giving (λ woken. quietly (with_instance config p woken)) r))) (sym d) tt
      woken_so (taken_so bound full binds fills is) past =
          let one = offers.resumes None None bound full binds fills in
          let after : Instance = record i { variables = full; term = first_the o.body i.term; state = instance.Running } in
          subst (λ r. Comes_so (Wake p a) (after_step no_fault (giving (λ woken. quietly (with_instance config p woken)) r))) (sym is) (
            record m { instances = slice_set m.instances p one.0 },
            wakes p a left t h one.0 offers.kept offers.keeps (offers.act ∙ e) (ap (λ c. int_lt c t) st.clock ∙ past) one.1,
            stands_with core code config m st p after one.0 one.2,
          )

      by_time : (b : Bool) → int_lt config.clock t ≡ b → Comes_so (Wake p a) (after_step no_fault (cond b answer.Amiss (giving (λ woken. quietly (with_instance config p woken)) (resumed o None None i (view_of config left)))))
      by_time true past = tt
      by_time false past = woken_so (is_taken o None None i (view_of config left)) past

  wake_step : (p a : ℕ) (i : Option Instance) → slice_get config.instances p ≡ i → Comes_so (Wake p a) (after_step no_fault (woken config p i (offer_at i a) (view_of config left)))
  wake_step p a None e = tt
  wake_step p a (Some i) e = by_offer (slice_get (offers_in i.state) a) refl
    where
      by_offer : (o : Option Offer) → slice_get (offers_in i.state) a ≡ o → Comes_so (Wake p a) (after_step no_fault (woken config p (Some i) o (view_of config left)))
      by_offer None f = tt
      by_offer (Some o) f = let h = offered core code config m st p a i o e f in wake_by p a i o h.0 h.1 o.act refl

  -- the end of waiting for instances, and time

  state_join : (p : ℕ) (i : Instance) (h : Held) → slice_get m.instances p ≡ Some h → (at : InstanceAt core code i h) → (under : List Turning) (place : ℕ) (term : Term) (s : instance.State) (standing : Standing)
      → StateAt code.instrs at.process.slots under place term s standing → h.frame.under ≡ under → h.at ≡ place → h.standing ≡ standing → i.state ≡ s → i.term ≡ term → Comes_so (Join p) (after_step no_fault (joined_in config p i s (view_of config left)))
  state_join p i h there at _ _ _ _ _ (runs around under x term place r) ue pe se ie te = tt
  state_join p i h there at _ _ _ _ _ (waits around under term place end offers ks all t) ue pe se ie te = tt
  state_join p i h there at _ _ _ _ _ (ends place r) ue pe se ie te = tt
  state_join p i h there at _ _ _ _ _ (joins_so around under term place numbers t) ue pe se ie te = by_over (are_over config numbers) refl
    where
      by_over : (b : Bool) → are_over config numbers ≡ b → Comes_so (Join p) (after_step no_fault (cond b (Gives (quietly (with_instance config p (record i { state = instance.Running }))) (view_of config left)) answer.Amiss))
      by_over false e = tt
      by_over true e =
          let g = goes_on_at core code at.process i at.is h.definition at.definition i.variables i.term h.frame (subst (λ s. VariablesAt s i.variables h.frame.variables) ie at.variables) around h.at
          (subst (λ u. TermAt code.instrs in_process at.process.slots instr.Done around u i.term h.at) (sym ue) (subst (TermAt code.instrs in_process at.process.slots instr.Done around under i.term) (sym pe)
          (subst (λ t. TermAt code.instrs in_process at.process.slots instr.Done around under t place) (sym te) t))) in (
            record m { instances = slice_set m.instances p (held_there code h.definition h.frame g.0) },
            joins p left g.0 h numbers there se (over_alike core code config m st numbers ∙ e) g.1,
            stands_with core code config m st p (record i { state = instance.Running }) _ g.2,
          )

  join_step : (p : ℕ) (i : Option Instance) → slice_get config.instances p ≡ i → Comes_so (Join p) (after_step no_fault (joined config p i (view_of config left)))
  join_step p None e = tt
  join_step p (Some i) e =
      let h = pairs_get (InstanceAt core code) config.instances m.instances p i st.instances e in
      state_join p i h.0 h.1 h.2 h.0.frame.under h.0.at i.term i.state h.0.standing h.2.state refl refl refl refl refl

  advance_step : (o : Option ℤ) → next_due config ≡ o → Comes_so Advance (after_step no_fault (advanced config o (view_of config left)))
  advance_step None e = tt
  advance_step (Some t) e = by_until (may_reach config.until t) refl
    where
      by_until : (b : Bool) → may_reach config.until t ≡ b → Comes_so Advance (after_step no_fault (cond b (Gives (quietly (record config { clock = t })) (view_of config left)) answer.Amiss))
      by_until false f = tt
      by_until true f = (
        record m { clock = t },
        advances left t (due_alike core code config m st ∙ e) (ap (λ u. may_reach u t) st.until ∙ f),
        record { clock = refl; draws = st.draws; channels = st.channels; seed = st.seed; until = st.until; constants = st.constants; instances = st.instances },
      )

  label_step : (label : Label) → Comes_so label (taken core config label (view_of config left))
  label_step (Local p) = local_step p (slice_get config.instances p) refl
  label_step (Pair p a q b) = pair_step p a q b (slice_get config.instances p) (slice_get config.instances q) refl refl
  label_step (Wake p a) = wake_step p a (slice_get config.instances p) refl
  label_step (Join p) = join_step p (slice_get config.instances p) refl
  label_step Advance = advance_step (next_due config) refl

-- the law of every label
pub steps_follow : StepsFollow
unfolding step.step
steps_follow core code codes config m st label zero = none_left label
steps_follow core code codes config m st label (suc left) = label_step core code codes config m st left label
