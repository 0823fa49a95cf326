-- The time never falls along a run, goes on only where no instance has an option, and not past the stopping time.
use Rattle.std.proofs.Common.{◌≡◌, ◌≢◌, ℕ, zero, suc, ◌<◌, ◌≤◌, ℤ, List, [], ◌∷◌, ◌++◌, Option, Some, None, Bool, true, false, cond, length, inl, inr, sym, ◌∙◌, ap, subst, refl, arith}
use Rattle.std.specs.Prelude.{pos, int_lt, ◌<ℤ◌, ◌≤ℤ◌, not}
use Rattle.std.specs.Int.{int_min}
use Rattle.std.specs.Int.Signed.{≤ℤ_refl}
use Rattle.std.specs.List.{slice_get, Contains, flat_map}
use Rattle.std.proofs.lemmas.Int.{ints}
use Rattle.std.proofs.lemmas.Option.{slice_get_within}
use Rattle.chi_value.specs.declared.value.Value.{Value}
use Rattle.chi_core.specs.declared.act.Act.{Act}
use Rattle.chi_core.specs.declared.act.Act.TheVariants.{Send, Receive, Delay}
use Rattle.chi_core.specs.declared.label.Label.{Label}
use Rattle.chi_core.specs.declared.label.Label.TheVariants.{Local, Pair, Wake, Join, Advance}
use Rattle.chi_core.specs.declared.program.Core.{Core}
use Rattle.chi_core.specs.declared.program.ConstDef.{ConstDef}
use Rattle.chi_core.specs.declared.program.ProcDef.{ProcDef}
use Rattle.chi_core.specs.declared.verdict.Verdict.{Verdict}
use Rattle.chi_core.specs.declared.verdict.Verdict.TheVariants.{Completed, Deadlock, OutOfSteps}
use Rattle.chi_core.specs.Answer as answer
use Rattle.chi_core.specs.Answer.{Answer, Gives, Fails}
use Rattle.chi_core.specs.Beginning.{Beginning, Begins, Breaks, constant_value, constant_fault, first_config, model_begins, with_constant, begins_after, start}
use Rattle.chi_core.specs.Beginning as beginning
use Rattle.chi_core.specs.Config.{Config, Instance, Offer, State, Running, Waiting, Joining, Finished, offers_in}
use Rattle.chi_core.specs.Meeting.{due_in, due_times, earlier, least_time, next_due, may_reach}
use Rattle.chi_core.specs.Options.{Ending, ending_at, options_by, options_for, options_in, options_of, actors, enabled, numbers, all_finished, stopped_at, at_rest, ending_of}
use Rattle.chi_core.specs.Runs.{After, IsAtRest, Runs, MayDerive, Told, Derivation}
use Rattle.chi_core.specs.Starting.{started_by}
use Rattle.chi_core.specs.Step as outcome
use Rattle.chi_core.specs.Step.{Outcome, Next, Over, step}
use Rattle.chi_core_runs.specs.Time.{InTime, EndsWithin}
use Rattle.chi_core_runs.proofs.Lists.{Joined, joined-at, joined-none, number-at}
use Rattle.chi_core_runs.proofs.Enabled.{no_option, advance_last}
use Rattle.chi_core_runs.proofs.Steps.{OnTime, on_time, nothing_left}

-- a step that goes on, with what it does to the time and to the bound
module _ (core : Core) (config : Config) (label : Label) (new : Config) (text : List ℕ) (rest : ℕ) where
  not_spent : step core config label 0 ≡ Next new text rest → ⊥
  not_spent e = let h : outcome.Spent ≡ Next new text rest = sym (nothing_left core config label) ∙ e in cc

  went : (left : ℕ) → step core config label (suc left) ≡ Next new text rest → OnTime config left label (Next new text rest)
  went left e = let P : Outcome → Type 0 = OnTime config left label in subst P e (on_time core config label left)

  costs_of : (l : Label) (left : ℕ) → OnTime config left l (Next new text rest) → rest ≤ left
  costs_of Advance left h = h.3
  costs_of (Local p) left h = h.2
  costs_of (Pair p a q b) left h = h.2
  costs_of (Wake p a) left h = h.2
  costs_of (Join p) left h = h.2

  pub each_costs : (left : ℕ) → step core config label left ≡ Next new text rest → rest < left
  each_costs zero e = absurd (not_spent e)
  each_costs (suc left) e = let h : rest ≤ left = costs_of label left (went left e) in omega arith

  still : (l : Label) (left : ℕ) → OnTime config left l (Next new text rest) → l ≢ Advance → new.clock ≡ config.clock
  still Advance left h other = absurd (other refl)
  still (Local p) left h other = h.0
  still (Pair p a q b) left h other = h.0
  still (Wake p a) left h other = h.0
  still (Join p) left h other = h.0

  pub stands_still : (left : ℕ) → step core config label left ≡ Next new text rest → label ≢ Advance → new.clock ≡ config.clock
  stands_still zero e other = absurd (not_spent e)
  stands_still (suc left) e other = still label left (went left e) other

  reaches : (l : Label) (left : ℕ) → OnTime config left l (Next new text rest) → InTime config → (new.until ≡ config.until) × InTime new
  reaches Advance left h within = (h.2, ap (λ o. may_reach o new.clock) h.2 ∙ h.1)
  reaches (Local p) left h within = (h.1, (λ i. may_reach (h.1 i) (h.0 i)) ∙ within)
  reaches (Pair p a q b) left h within = (h.1, (λ i. may_reach (h.1 i) (h.0 i)) ∙ within)
  reaches (Wake p a) left h within = (h.1, (λ i. may_reach (h.1 i) (h.0 i)) ∙ within)
  reaches (Join p) left h within = (h.1, (λ i. may_reach (h.1 i) (h.0 i)) ∙ within)

  pub stays_in_time : (left : ℕ) → step core config label left ≡ Next new text rest → InTime config → (new.until ≡ config.until) × InTime new
  stays_in_time zero e within = absurd (not_spent e)
  stays_in_time (suc left) e within = reaches label left (went left e) within

-- a step that ends the run costs something too
ends_cost : (core : Core) (config : Config) (label : Label) (left : ℕ) (verdict : Verdict) → step core config label left ≡ Over verdict → 0 < left
ends_cost core config label zero verdict e = absurd (let h : outcome.Spent ≡ Over verdict = sym (nothing_left core config label) ∙ e in cc)
ends_cost core config label (suc left) verdict e = omega arith

pub runs_bounded : (core : Core) (turn : ℕ) (config : Config) (left : ℕ) (labels : List Label) (end : Ending)
    → Runs MayDerive core turn config left labels end → length labels ≤ left
unfolding Runs
runs_bounded core turn config left [] end r = omega arith
runs_bounded core turn config left (label ∷ labels) end r =
    by_outcome (λ new rest h. runs_bounded core (suc turn) new rest labels end h) (step core config label left) refl r.1
  where
    by_outcome : ((new : Config) (rest : ℕ) → Runs MayDerive core (suc turn) new rest labels end → length labels ≤ rest)
        → (s : Outcome) → step core config label left ≡ s → After (λ new rest. Runs MayDerive core (suc turn) new rest labels end) s config labels end
        → length (label ∷ labels) ≤ left
    by_outcome on (Next new text rest) is a =
        let cost : rest < left = each_costs core config label new text rest left is in
        let more : length labels ≤ rest = on new rest a in
        omega arith
    by_outcome on (Over verdict) is a =
        let some : 0 < left = ends_cost core config label left verdict is in
        let none : length labels ≡ 0 = ap length a.0 in
        omega arith
    by_outcome on outcome.Spent is a = absurd a
    by_outcome on outcome.Amiss is a = absurd a

-- where no instance has an option, none of them offers a delay that is due

not_due : (config : Config) → actors config ≡ [] → (p : ℕ) (i : Instance) → slice_get config.instances p ≡ Some i
    → (a : ℕ) (offer : Offer) → slice_get (offers_in i.state) a ≡ Some offer → (due : ℤ) → offer.act ≡ Delay due → int_lt config.clock due ≡ true
not_due config none p i at a offer offered due is_delay = by_state i.state refl
  where
    in_state : (s : State) → i.state ≡ s → options_in config p s ≡ []
    in_state s is = sym (ap (options_of config p) at ∙ ap (options_in config p) is) ∙ no_option config none p

    by_time : (b : Bool) → cond b [] (Wake p a ∷ []) ≡ [] → b ≡ true
    by_time true e = refl
    by_time false e = absurd (cc)

    nowhere : (s : State) → i.state ≡ s → slice_get (offers_in s) a ≡ Some offer
    nowhere s is = ap (λ t. slice_get (offers_in t) a) (sym is) ∙ offered

    by_state : (s : State) → i.state ≡ s → int_lt config.clock due ≡ true
    by_state Running is = absurd (let h = nowhere Running is in cc)
    by_state (Joining waited) is = absurd (let h = nowhere (Joining waited) is in cc)
    by_state Finished is = absurd (let h = nowhere Finished is in cc)
    by_state (Waiting offers) is =
        let at_a : slice_get offers a ≡ Some offer = nowhere (Waiting offers) is in
        let piece : options_for config p a (slice_get offers a) ≡ []
        = joined-none (λ b. options_for config p b (slice_get offers b)) (numbers (length offers)) a a (in_state (Waiting offers) is)
        (number-at (length offers) a (slice_get_within offers a _ at_a)) in
        by_time (int_lt config.clock due)
        (sym (ap (options_for config p a) at_a ∙ ap (options_by config p a) is_delay) ∙ piece)

-- so each due time is after the clock
due_later : (config : Config) → actors config ≡ [] → (k : ℕ) (t : ℤ) → slice_get (due_times config) k ≡ Some t → int_lt config.clock t ≡ true
due_later config none k t e = at_instance (joined-at (λ i. flat_map (λ o. due_in o.act) (offers_in i.state)) config.instances k t e)
  where
    at_act : (i : Instance) (p : ℕ) → slice_get config.instances p ≡ Some i → (a : ℕ) (o : Offer) → slice_get (offers_in i.state) a ≡ Some o
        → (act : Act) → o.act ≡ act → (j : ℕ) → slice_get (due_in act) j ≡ Some t → int_lt config.clock t ≡ true
    at_act i p at a o offered (Send channel v) is j e' = absurd (cc)
    at_act i p at a o offered (Receive channel slot) is j e' = absurd (cc)
    at_act i p at a o offered (Delay due) is zero e' =
        let same : due ≡ t = cc in
        let P : ℤ → Type 0 = λ u. int_lt config.clock u ≡ true in
        subst P same (not_due config none p i at a o offered due is)
    at_act i p at a o offered (Delay due) is (suc j) e' = absurd (cc)

    at_instance : Joined (λ i. flat_map (λ o. due_in o.act) (offers_in i.state)) config.instances t → int_lt config.clock t ≡ true
    at_instance r =
        let q : Joined (λ o. due_in o.act) (offers_in r.from.state) t = joined-at (λ o. due_in o.act) (offers_in r.from.state) r.inner t r.has in
        at_act r.from r.place r.at q.place q.from q.at q.from.act refl q.inner q.has

least-later : (c : ℤ) (ts : List ℤ) → ((k : ℕ) (u : ℤ) → slice_get ts k ≡ Some u → int_lt c u ≡ true) → (t : ℤ) → least_time ts ≡ Some t
    → int_lt c t ≡ true
least-later c [] each t e = absurd (cc)
least-later c (u ∷ us) each t e = by_rest (least_time us) (least-later c us (λ k v g. each (suc k) v g)) e
  where
    by_min : (v : ℤ) (b : Bool) → int_lt c v ≡ true → cond b v u ≡ t → int_lt c t ≡ true
    by_min v true h g = subst (λ (z : ℤ). int_lt c z ≡ true) g h
    by_min v false h g = subst (λ (z : ℤ). int_lt c z ≡ true) g (each 0 u refl)

    by_rest : (o : Option ℤ) → ((v : ℤ) → o ≡ Some v → int_lt c v ≡ true) → earlier u o ≡ Some t → int_lt c t ≡ true
    by_rest None below g = let same : u ≡ t = cc in subst (λ (z : ℤ). int_lt c z ≡ true) same (each 0 u refl)
    by_rest (Some v) below g = by_min v (int_lt v u) (below v refl) (let same : int_min u v ≡ t = cc in same)

pub goes_on_later : (core : Core) (config : Config) (left : ℕ) (new : Config) (text : List ℕ) (rest : ℕ)
    → Contains (enabled config) Advance → step core config Advance left ≡ Next new text rest → config.clock <ℤ new.clock
goes_on_later core config zero new text rest c e = absurd (not_spent core config Advance new text rest e)
goes_on_later core config (suc left) new text rest c e =
    let h = went core config Advance new text rest left e in
    let l : int_lt config.clock new.clock ≡ true = least-later config.clock (due_times config) (due_later config (advance_last config c)) new.clock h.0 in
    omega (arith, ints)

-- endings

≤ℤ_trans : (a b c : ℤ) → a ≤ℤ b → b ≤ℤ c → a ≤ℤ c
≤ℤ_trans a b c h g = omega (arith, ints)

same_time : (a b : ℤ) → b ≡ a → a ≤ℤ b
same_time a b e = let P : ℤ → Type 0 = λ c. a ≤ℤ c in subst P (sym e) (≤ℤ_refl a)

ends_here : (config : Config) (verdict : Verdict) → InTime config → EndsWithin config.clock config.until (ending_at verdict config)
ends_here config verdict within = (≤ℤ_refl config.clock, within)

not_past : (until t : ℤ) → may_reach (Some until) t ≡ true → t ≤ℤ until
not_past until t e = by_lt (int_lt until t) refl e
  where
    by_lt : (b : Bool) → int_lt until t ≡ b → not b ≡ true → t ≤ℤ until
    by_lt true is h = absurd (cc)
    by_lt false is h = omega (arith, ints)

reaches_itself : (t : ℤ) → may_reach (Some t) t ≡ true
reaches_itself t = by_lt (int_lt t t) refl
  where
    by_lt : (b : Bool) → int_lt t t ≡ b → not b ≡ true
    by_lt true is = absurd (let h : t <ℤ t = omega (arith, ints) in omega (arith, ints))
    by_lt false is = refl

ends_stopped : (config : Config) → InTime config → (due until : Option ℤ) → config.until ≡ until
    → EndsWithin config.clock config.until (stopped_at config due until)
ends_stopped config within None until is = ends_here config Deadlock within
ends_stopped config within (Some t) None is = ends_here config Deadlock within
ends_stopped config within (Some t) (Some until) is =
    (not_past until config.clock (sym (ap (λ o. may_reach o config.clock) is) ∙ within), ap (λ o. may_reach o until) is ∙ reaches_itself until)

ends_at_rest : (config : Config) → InTime config → EndsWithin config.clock config.until (at_rest config)
ends_at_rest config within = by_all (all_finished config)
  where
    by_all : (b : Bool)
        → EndsWithin config.clock config.until (cond b (ending_at Completed config) (stopped_at config (next_due config) config.until))
    by_all true = ends_here config Completed within
    by_all false = ends_stopped config within (next_due config) config.until refl

ends_resting : (config : Config) (end : Ending) → InTime config → IsAtRest config end → EndsWithin config.clock config.until end
ends_resting config end within rests = by_enabled (enabled config) rests
  where
    by_enabled : (ls : List Label) → ending_of ls config ≡ Some end → EndsWithin config.clock config.until end
    by_enabled [] e = let same : at_rest config ≡ end = cc in subst (λ (x : Ending). EndsWithin config.clock config.until x) same (ends_at_rest config within)
    by_enabled (l ∷ ls) e = absurd (cc)

-- from one step to the next
ends_later : (config new : Config) (end : Ending) → config.clock ≤ℤ new.clock → new.until ≡ config.until → EndsWithin new.clock new.until end
    → EndsWithin config.clock config.until end
ends_later config new end later same h = (≤ℤ_trans config.clock new.clock end.clock later h.0, ap (λ o. may_reach o end.clock) (sym same) ∙ h.1)

never_falls : (core : Core) (turn : ℕ) (config : Config) (label : Label) (left : ℕ) (new : Config) (text : List ℕ) (rest : ℕ)
    → MayDerive turn config label → step core config label left ≡ Next new text rest → config.clock ≤ℤ new.clock
never_falls core turn config Advance left new text rest may e =
    let h : config.clock <ℤ new.clock = goes_on_later core config left new text rest may e in omega (arith, ints)
never_falls core turn config (Local p) left new text rest may e =
    same_time config.clock new.clock (stands_still core config (Local p) new text rest left e (λ h. cc))
never_falls core turn config (Pair p a q b) left new text rest may e =
    same_time config.clock new.clock (stands_still core config (Pair p a q b) new text rest left e (λ h. cc))
never_falls core turn config (Wake p a) left new text rest may e =
    same_time config.clock new.clock (stands_still core config (Wake p a) new text rest left e (λ h. cc))
never_falls core turn config (Join p) left new text rest may e =
    same_time config.clock new.clock (stands_still core config (Join p) new text rest left e (λ h. cc))

pub runs_end_within : (core : Core) (turn : ℕ) (config : Config) (left : ℕ) (labels : List Label) (end : Ending)
    → Runs MayDerive core turn config left labels end → InTime config → EndsWithin config.clock config.until end
unfolding Runs
runs_end_within core turn config left [] end (inl rests) within = ends_resting config end within rests
runs_end_within core turn config left [] end (inr cut) within =
    subst (λ (x : Ending). EndsWithin config.clock config.until x) (sym cut.out_of_steps) (ends_here config OutOfSteps within)
runs_end_within core turn config left (label ∷ labels) end r within =
    by_outcome (λ new rest h. runs_end_within core (suc turn) new rest labels end h) (step core config label left) refl r.1
  where
    by_outcome : ((new : Config) (rest : ℕ) → Runs MayDerive core (suc turn) new rest labels end → InTime new → EndsWithin new.clock new.until end)
        → (s : Outcome) → step core config label left ≡ s → After (λ new rest. Runs MayDerive core (suc turn) new rest labels end) s config labels end
        → EndsWithin config.clock config.until end
    by_outcome on (Next new text rest) is a =
        let stays = stays_in_time core config label new text rest left is within in
        ends_later config new end (never_falls core turn config label left new text rest r.0 is) stays.0 (on new rest a stays.1)
    by_outcome on (Over verdict) is a = subst (λ (x : Ending). EndsWithin config.clock config.until x) (sym a.1) (ends_here config verdict within)
    by_outcome on outcome.Spent is a = absurd a
    by_outcome on outcome.Amiss is a = absurd a

-- a program begins at the time 0.0, or ends there

abbrev BeginsAtZero : Option ℤ → Beginning → Type 0
BeginsAtZero until (Begins config) = (config.clock ≡ pos 0) × (config.until ≡ until)
BeginsAtZero until (Breaks end) = end.clock ≡ pos 0
BeginsAtZero until beginning.Amiss = Unit {0}

module _ (core : Core) (arguments : List Value) (seed : ℕ) (until : Option ℤ) where
  at_model : (constants : List Value) (o : Option ProcDef) → BeginsAtZero until (model_begins seed until arguments constants core.model o)
  at_model constants None = tt
  at_model constants (Some d) = (refl, refl)

  at_constants : (cs : List ConstDef) (values : List Value) → BeginsAtZero until (begins_after core arguments seed until values cs)
  at_constants [] values = at_model values (started_by core.procs core.model (length arguments))
  at_constants (c ∷ cs) values = by_answer (at_constants cs) (constant_value core seed values c)
    where
      by_answer : ((more : List Value) → BeginsAtZero until (begins_after core arguments seed until more cs)) → (a : Answer Value)
          → BeginsAtZero until (with_constant core arguments seed until (λ more. begins_after core arguments seed until more cs) values c a)
      by_answer later (Gives v view) = later (values ++ v ∷ [])
      by_answer later (Fails kind) = refl
      by_answer later answer.Spent = tt
      by_answer later answer.Amiss = tt

  pub derivations_end_within : (bound : ℕ) (told : Told) → Derivation core (start core arguments seed until) bound told
      → may_reach until (pos 0) ≡ true → EndsWithin (pos 0) until told.ending
  derivations_end_within bound told r within = by_beginning (start core arguments seed until) (at_constants core.consts []) r
    where
      by_beginning : (b : Beginning) → BeginsAtZero until b → Derivation core b bound told → EndsWithin (pos 0) until told.ending
      by_beginning (Begins config) h r' =
          let in_time : InTime config = (λ i. may_reach (h.1 i) (h.0 i)) ∙ within in
          let e : EndsWithin config.clock config.until told.ending = runs_end_within core 0 config bound told.labels told.ending r'.0 in_time in
          let P : ℤ → Type 0 = λ t. t ≤ℤ told.ending.clock in
          (subst P h.0 e.0, ap (λ o. may_reach o told.ending.clock) (sym h.1) ∙ e.1)
      by_beginning (Breaks end) h r' =
          let time : told.ending.clock ≡ pos 0 = ap (λ t. t.ending.clock) r' ∙ h in
          (same_time (pos 0) told.ending.clock time, ap (may_reach until) time ∙ within)
      by_beginning beginning.Amiss h r' = absurd r'
