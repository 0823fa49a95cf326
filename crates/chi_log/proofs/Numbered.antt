-- The numbers of a label that may come in a kinded configuration have 32 bits; and a verdict to which a step leads is told
-- in one line.
use Rattle.std.proofs.Common.{◌≡◌, ℕ, zero, suc, ◌<◌, ◌≤◌, ◌^◌, List, [], ◌∷◌, Option, Some, None, length, ◌∙◌, ap, subst, refl, arith}
use Rattle.std.specs.List.{slice_get, Contains}
use Rattle.std.specs.Prelude.{option_map}
use Rattle.std.proofs.lemmas.Option.{slice_get_within}
use Rattle.chi_core.specs.declared.fault.FaultKind.{FaultKind}
use Rattle.chi_core.specs.declared.label.Label.{Label}
use Rattle.chi_core.specs.declared.label.Label.TheVariants.{Local, Pair, Wake, Join, Advance}
use Rattle.chi_core.specs.declared.limits.TheConstants.{MOST_INSTANCES, MOST_OFFERS}
use Rattle.chi_core.specs.declared.program.Core.{Core}
use Rattle.chi_core.specs.declared.program.ProcDef.{ProcDef}
use Rattle.chi_core.specs.declared.verdict.Verdict.{Verdict}
use Rattle.chi_core.specs.declared.verdict.Verdict.TheVariants.{Exit, Fault}
use Rattle.chi_core.specs.declared.view.View.{View}
use Rattle.chi_core.specs.Answer as answer
use Rattle.chi_core.specs.Answer.{Answer, Gives, Fails}
use Rattle.chi_core.specs.Config.{Config, Instance, Offer, State, Running, Waiting, Joining, Finished, offers_in, view_of}
use Rattle.chi_core.specs.Kinded.{Kinded, StateFits}
use Rattle.chi_core.specs.Meeting.{offer_at, paired, woken, joined}
use Rattle.chi_core.specs.Of.{World}
use Rattle.chi_core.specs.Options.{enabled}
use Rattle.chi_core.specs.Performing.{Change, Goes, Exits}
use Rattle.chi_core.specs.Scopes.{Home, process_home}
use Rattle.chi_core.specs.Sound.{Sound}
use Rattle.chi_core.specs.Step as outcome
use Rattle.chi_core.specs.Step.{Outcome, Over, after_step, fault_in, first_done, line_of, local, local_in, name_of, no_fault, step, taken}
use Rattle.chi_core.specs.Terms.{Term}
use Rattle.chi_core_kinds.specs.Keeps.{GoesKinded, KeepsKinded}
use Rattle.chi_trace.specs.Ends.{OneLine}
use Rattle.chi_trace.specs.Events.{IsNumbered}
use Rattle.chi_trace_events.proofs.Lines.{told_name}
use Rattle.chi_log.proofs.EndingLines.{IsNamedInLine}

step_taken : (core : Core) (config : Config) (label : Label) → step core config label 1 ≡ taken core config label (view_of config 0)
unfolding step
step_taken core config label = refl

-- numbers

few_offers : (w : World) (d : Home) (rest : _) (frames : _) (known : _) (s : State) → StateFits w d rest frames known s
    → length (offers_in s) ≤ MOST_OFFERS
few_offers w d rest frames known Running fits = omega arith
few_offers w d rest frames known (Waiting offers) fits = fits.few
few_offers w d rest frames known (Joining numbers) fits = omega arith
few_offers w d rest frames known Finished fits = omega arith

module _ (core : Core) (config : Config) (kinded : Kinded core config) where
  instance_number : (p : ℕ) (i : Instance) → slice_get config.instances p ≡ Some i → p < 2 ^ 32
  instance_number p i at =
      let within : p < length config.instances = slice_get_within config.instances p i at in
      let few : length config.instances ≤ MOST_INSTANCES = kinded.few in
      omega arith

  offer_number : (p a : ℕ) (i : Instance) (o : Offer) → slice_get config.instances p ≡ Some i → slice_get (offers_in i.state) a ≡ Some o → a < 2 ^ 32
  offer_number p a i o at offered =
      let k = kinded.each p i at in
      let few : length (offers_in i.state) ≤ MOST_OFFERS = few_offers kinded.world (process_home core k.d) k.at.rest k.at.frames k.at.known i.state k.at.state in
      let within : a < length (offers_in i.state) = slice_get_within (offers_in i.state) a o offered in
      omega arith

  there : (p : ℕ) → (slice_get config.instances p ≡ None → ⊥) → p < 2 ^ 32
  there p some = by (slice_get config.instances p) refl
    where
      by : (o : Option Instance) → slice_get config.instances p ≡ o → p < 2 ^ 32
      by None at = absurd (some at)
      by (Some i) at = instance_number p i at

  both : (p a : ℕ) → (slice_get config.instances p ≡ None → ⊥) → (offer_at (slice_get config.instances p) a ≡ None → ⊥) → (p < 2 ^ 32) × (a < 2 ^ 32)
  both p a some offered = by (slice_get config.instances p) refl
    where
      of_offer : (i : Instance) → slice_get config.instances p ≡ Some i → (o : Option Offer) → slice_get (offers_in i.state) a ≡ o → a < 2 ^ 32
      of_offer i at None is = absurd (offered (ap (λ (x : Option Instance). offer_at x a) at ∙ is))
      of_offer i at (Some o) is = offer_number p a i o at is

      by : (o : Option Instance) → slice_get config.instances p ≡ o → (p < 2 ^ 32) × (a < 2 ^ 32)
      by None at = absurd (some at)
      by (Some i) at = (instance_number p i at, of_offer i at (slice_get (offers_in i.state) a) refl)

-- what a label that isn't amiss names is there

local_there : (core : Core) (config : Config) (p : ℕ) (place : Option Instance) (view : View) → (local core config p place view ≡ outcome.Amiss → ⊥) → place ≡ None → ⊥
local_there core config p None view good e = good refl
local_there core config p (Some i) view good e = absurd (cc)

pair_there : (config : Config) (p q : ℕ) (i j : Option Instance) (s r : Option Offer) (view : View)
    → (after_step no_fault (paired config p i s q j r view) ≡ outcome.Amiss → ⊥)
    → (i ≡ None → ⊥) × (s ≡ None → ⊥) × (j ≡ None → ⊥) × (r ≡ None → ⊥)
pair_there config p q None j s r view good = absurd (good refl)
pair_there config p q (Some i) j None r view good = absurd (good refl)
pair_there config p q (Some i) None (Some s) r view good = absurd (good refl)
pair_there config p q (Some i) (Some j) (Some s) None view good = absurd (good refl)
pair_there config p q (Some i) (Some j) (Some s) (Some r) view good = ((λ e. absurd (cc)), (λ e. absurd (cc)), (λ e. absurd (cc)), (λ e. absurd (cc)))

wake_there : (config : Config) (p : ℕ) (i : Option Instance) (o : Option Offer) (view : View) → (after_step no_fault (woken config p i o view) ≡ outcome.Amiss → ⊥)
    → (i ≡ None → ⊥) × (o ≡ None → ⊥)
wake_there config p None o view good = absurd (good refl)
wake_there config p (Some i) None view good = absurd (good refl)
wake_there config p (Some i) (Some o) view good = ((λ e. absurd (cc)), (λ e. absurd (cc)))

join_there : (config : Config) (p : ℕ) (place : Option Instance) (view : View) → (after_step no_fault (joined config p place view) ≡ outcome.Amiss → ⊥) → place ≡ None → ⊥
join_there config p None view good e = good refl
join_there config p (Some i) view good e = absurd (cc)

pub numbered : (core : Core) → KeepsKinded core → (config : Config) → Kinded core config → (label : Label) → Contains (enabled config) label → IsNumbered label
numbered core keeps config kinded label may = by label (good label may)
  where
    good : (l : Label) → Contains (enabled config) l → (taken core config l (view_of config 0) ≡ outcome.Amiss → ⊥)
    good l may' e = subst (GoesKinded core) (step_taken core config l ∙ e) (keeps config kinded l may' 1)

    by : (l : Label) → (taken core config l (view_of config 0) ≡ outcome.Amiss → ⊥) → IsNumbered l
    by (Local p) g = there core config kinded p (local_there core config p (slice_get config.instances p) (view_of config 0) g)
    by (Pair p a q b) g =
        let t = pair_there config p q (slice_get config.instances p) (slice_get config.instances q) (offer_at (slice_get config.instances p) a)
        (offer_at (slice_get config.instances q) b) (view_of config 0) g in
        let sender = both core config kinded p a t.0 t.1 in
        let receiver = both core config kinded q b t.2 t.3 in
        (sender.0, sender.1, receiver.0, receiver.1)
    by (Wake p a) g =
        let t = wake_there config p (slice_get config.instances p) (offer_at (slice_get config.instances p) a) (view_of config 0) g in
        both core config kinded p a t.0 t.1
    by (Join p) g = there core config kinded p (join_there config p (slice_get config.instances p) (view_of config 0) g)
    by Advance g = tt

-- verdicts

after_over : (fault : FaultKind → Outcome) → ((kind : FaultKind) (v : Verdict) → fault kind ≡ Over v → IsNamedInLine v)
    → (m : Answer Change) (v : Verdict) → after_step fault m ≡ Over v → IsNamedInLine v
after_over fault named (Gives (Goes config text) view) v e = absurd (cc)
after_over fault named (Gives (Exits x) view) v e = let same : Exit x ≡ v = cc in subst IsNamedInLine same tt
after_over fault named (Fails kind) v e = named kind v e
after_over fault named answer.Spent v e = absurd (cc)
after_over fault named answer.Amiss v e = absurd (cc)

never_faults : (kind : FaultKind) (v : Verdict) → no_fault kind ≡ Over v → IsNamedInLine v
never_faults kind v e = absurd (cc)

fault_named : (name : Option (List ℕ)) (line : ℕ) → ((n : List ℕ) → name ≡ Some n → OneLine n) → (kind : FaultKind) (v : Verdict)
    → fault_in name line kind ≡ Over v → IsNamedInLine v
fault_named None line one kind v e = absurd (cc)
fault_named (Some n) line one kind v e = let same : Fault kind n line ≡ v = cc in subst IsNamedInLine same (one n refl)

module _ (core : Core) (sound : Sound core) where
  definition_named : (definition : ℕ) (n : List ℕ) → name_of core definition ≡ Some n → OneLine n
  definition_named definition n e = by (slice_get core.procs definition) refl e
    where
      by : (o : Option ProcDef) → slice_get core.procs definition ≡ o → option_map (λ d. d.name) o ≡ Some n → OneLine n
      by None at e' = absurd (cc)
      by (Some d) at e' =
          let same : d.name ≡ n = cc in
          subst (λ (x : List ℕ). OneLine x) same (told_name d.name (sound.processes definition d at).name).one

  local_over : (config : Config) (p : ℕ) (place : Option Instance) (view : View) (v : Verdict) → local core config p place view ≡ Over v → IsNamedInLine v
  local_over config p None view v e = absurd (cc)
  local_over config p (Some i) view v e = by_state i.state e
    where
      by_term : (term : Term) → first_done core config p i term view ≡ Over v → IsNamedInLine v
      by_term [] e' = absurd (cc)
      by_term (item ∷ rest) e' =
          after_over (fault_in (name_of core i.definition) (line_of item)) (fault_named (name_of core i.definition) (line_of item) (definition_named i.definition)) _ v e'

      by_state : (state : State) → local_in core config p i state view ≡ Over v → IsNamedInLine v
      by_state Running e' = by_term i.term e'
      by_state (Waiting offers) e' = absurd (cc)
      by_state (Joining numbers) e' = absurd (cc)
      by_state Finished e' = absurd (cc)

  taken_over : (config : Config) (label : Label) (view : View) (v : Verdict) → taken core config label view ≡ Over v → IsNamedInLine v
  taken_over config (Local p) view v e = local_over config p (slice_get config.instances p) view v e
  taken_over config (Pair p a q b) view v e = after_over no_fault never_faults _ v e
  taken_over config (Wake p a) view v e = after_over no_fault never_faults _ v e
  taken_over config (Join p) view v e = after_over no_fault never_faults _ v e
  taken_over config Advance view v e = after_over no_fault never_faults _ v e

  pub over_named : (config : Config) (label : Label) (left : ℕ) (v : Verdict) → step core config label left ≡ Over v → IsNamedInLine v
  unfolding step
  over_named config label zero v e = absurd (cc)
  over_named config label (suc left) v e = taken_over config label (view_of config left) v e
