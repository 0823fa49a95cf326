-- What the event of an enabled label tells is there: otherwise its step would be amiss.
use Rattle.std.proofs.Common.{◌≡◌, ◌≢◌, ℕ, Bool, true, false, cond, List, [], ◌∷◌, Option, Some, None, refl, ap, sym, subst, ◌∙◌, ℤ}
use Rattle.std.specs.Prelude.{slice_get, option_map, option_and_then, IsTrue, IfSome, Contains}
use Rattle.chi_types.specs.declared.ty.Ty.{out-Ty}
use Rattle.chi_value.specs.declared.value.Value.{Value}
use Rattle.chi_value.specs.Plain.{within}
use Rattle.chi_core.specs.declared.act.Act.{Act}
use Rattle.chi_core.specs.declared.act.Act.TheVariants.{Send, Receive, Delay}
use Rattle.chi_core.specs.declared.communication.CComm.{CComm}
use Rattle.chi_core.specs.declared.label.Label.{Label}
use Rattle.chi_core.specs.declared.label.Label.TheVariants.{Local, Pair, Wake, Join, Advance}
use Rattle.chi_core.specs.declared.program.Core.{Core}
use Rattle.chi_core.specs.Answer as answer
use Rattle.chi_core.specs.declared.view.View.{View}
use Rattle.chi_core.specs.Config.{Config, Instance, Offer, State, Running, Waiting, Joining, Finished, offers_in, view_of}
use Rattle.chi_core.specs.Kinded.{Kinded, StateFits, ActFits, sends, sends_void, OfferFits}
use Rattle.chi_core.specs.Kinds.{Kind, Every}
use Rattle.chi_core.specs.Meeting.{offer_at, met, paired, woken, joined, next_due, advanced}
use Rattle.chi_core.specs.Of.{World, IsOf}
use Rattle.chi_core.specs.Options.{enabled}
use Rattle.chi_core.specs.Scopes.{Scope, Home, process_home}
use Rattle.chi_core.specs.Sound.{Sound, SoundEnumeration}
use Rattle.chi_core.specs.Step as outcome
use Rattle.chi_core.specs.Step.{Outcome, after_step, no_fault, first_done, local_in, local, taken, step, name_of}
use Rattle.chi_core.specs.Terms.{Term}
use Rattle.chi_core_kinds.specs.Keeps.{GoesKinded, KeepsKinded}
use Rattle.chi_trace.specs.declared.event.Detail.{Detail}
use Rattle.chi_trace.specs.declared.event.Detail.TheVariants.{At, Of, Sent, Bare}
use Rattle.chi_trace.specs.declared.event.Event.{Event}
use Rattle.chi_trace_events.specs.There.{IsNamed, IsSent, IsDoing, IsThere}
use Rattle.chi_trace_events.specs.Traces.{line_in, place_told, sending_told, detail_of, time_after, event_with, event_at, sent_text}
use Rattle.chi_trace_events.proofs.Shown.{void_told, sent_told}

-- values are in the names of their world, as its law gives it
abbrev pub ValuesAreNamed : Type 0
ValuesAreNamed = (w : World) (a : Value) (T : Kind) → IsOf w T a → IsTrue (within w.names a)

-- a step that isn't amiss

step_taken : (core : Core) (config : Config) (label : Label) → step core config label 1 ≡ taken core config label (view_of config 0)
unfolding step
step_taken core config label = refl

-- an instance does an item

doing : (core : Core) (config : Config) (p : ℕ) (place : Option Instance) (view : View)
    → (local core config p place view ≡ outcome.Amiss → ⊥) → IsDoing place
doing core config p None view good = absurd (good refl)
doing core config p (Some i) view good = by_state i.state refl good
  where
    by_term : (term : Term) → i.term ≡ term → (first_done core config p i term view ≡ outcome.Amiss → ⊥) → i.term ≢ []
    by_term [] e good' = absurd (good' refl)
    by_term (item ∷ rest) e good' = λ e'. absurd (cc)

    by_state : (state : State) → i.state ≡ state → (local_in core config p i state view ≡ outcome.Amiss → ⊥) → i.term ≢ []
    by_state Running e good' = by_term i.term refl good'
    by_state (Waiting offers) e good' = absurd (good' refl)
    by_state (Joining numbers) e good' = absurd (good' refl)
    by_state Finished e good' = absurd (good' refl)

doing_there : (place : Option Instance) → IsDoing place → place ≢ None
doing_there None d e = d
doing_there (Some i) d e = absurd (cc)

-- an instance that is there has a definition, which has a name

module _ (core : Core) (sound : Sound core) (config : Config) (kinded : Kinded core config) where
  named : (p : ℕ) → slice_get config.instances p ≢ None → IsNamed core (slice_get config.instances p)
  named p there = by (slice_get config.instances p) refl
    where
      by : (o : Option Instance) → slice_get config.instances p ≡ o → IsNamed core o
      by None e = absurd (there e)
      by (Some i) e =
          let k = kinded.each p i e in
          (k.d.name, ap (option_map (λ d. d.name)) k.is, (sound.processes i.definition k.d k.is).name)

  -- what is offered is sent on a channel that carries it

  sound_names : Every SoundEnumeration kinded.world.names
  sound_names = subst (λ (names : List (List (List ℕ))). Every SoundEnumeration names) (sym kinded.names) sound.enumerations

  module _ (values : ValuesAreNamed) where
    is_sent : (x : Option Value) → IfSome x (λ v. (T : Kind) × IsOf kinded.world T v) → IsSent kinded.world.names x
    is_sent None of = record { named = tt; text = void_told kinded.world sound_names }
    is_sent (Some v) of = record { named = values kinded.world v of.0 of.1; text = sent_told kinded.world sound_names v of.0 of.1 }

    sent_by : (scope : Scope) (c : CComm) (channel : ℕ) (x : Option Value) → ActFits kinded.world scope c (Send channel x)
        → IfSome x (λ v. (T : Kind) × IsOf kinded.world T v)
    sent_by scope _ channel _ (sends t e _ v element at carried of) = (out-Ty element, of)
    sent_by scope _ channel _ (sends_void t _ element at carried) = tt

    offered_fits : (i : Instance) (d : Home) (rest : _) (frames : _) (known : _) → StateFits kinded.world d rest frames known i.state
        → (a : ℕ) (offer : Offer) → slice_get (offers_in i.state) a ≡ Some offer → (alternatives : _) × OfferFits kinded.world d.scope alternatives offer
    offered_fits i d rest frames known fits a offer e = by i.state fits e
      where
        by : (state : State) → StateFits kinded.world d rest frames known state → slice_get (offers_in state) a ≡ Some offer
            → (alternatives : _) × OfferFits kinded.world d.scope alternatives offer
        by Running fits' e' = absurd (cc)
        by (Waiting offers) fits' e' = (fits'.alternatives, fits'.each a offer e')
        by (Joining numbers) fits' e' = absurd (cc)
        by Finished fits' e' = absurd (cc)

    sends_there : (p a : ℕ) (i : Instance) (offer : Offer) (channel : ℕ) (x : Option Value) → slice_get config.instances p ≡ Some i
        → slice_get (offers_in i.state) a ≡ Some offer → offer.act ≡ Send channel x → IsSent core.names.kinds x
    sends_there p a i offer channel x at e is =
        let k = kinded.each p i at in
        let o = offered_fits i (process_home core k.d) k.at.rest k.at.frames k.at.known k.at.state a offer e in
        let fits = subst (ActFits kinded.world (process_home core k.d).scope o.1.communication) is o.1.act in
        subst (λ names. IsSent names x) kinded.names (is_sent x (sent_by (process_home core k.d).scope o.1.communication channel x fits))

-- a pair has a sender

sender : (config : Config) (p a q b : ℕ) (i j : Option Instance) (sending receiving : Option Offer) (view : View)
    → (after_step no_fault (paired config p i sending q j receiving view) ≡ outcome.Amiss → ⊥)
    → (instance : Instance) × (offer : Offer) × (channel : ℕ) × (x : Option Value) × (i ≡ Some instance) × (sending ≡ Some offer) × (offer.act ≡ Send channel x)
sender config p a q b None j sending receiving view good = absurd (good refl)
sender config p a q b (Some i) j None receiving view good = absurd (good refl)
sender config p a q b (Some i) None (Some s) receiving view good = absurd (good refl)
sender config p a q b (Some i) (Some j) (Some s) None view good = absurd (good refl)
sender config p a q b (Some i) (Some j) (Some s) (Some r) view good = by_same _ good
  where
    by_act : (act : Act) → s.act ≡ act → (after_step no_fault (met config p i s act q j r r.act view) ≡ outcome.Amiss → ⊥)
        → (instance : Instance) × (offer : Offer) × (channel : ℕ) × (x : Option Value) × (Some i ≡ Some instance) × (Some s ≡ Some offer) × (offer.act ≡ Send channel x)
    by_act (Send channel x) e good' = (i, s, channel, x, refl, refl, e)
    by_act (Receive channel slot) e good' = absurd (good' refl)
    by_act (Delay due) e good' = absurd (good' refl)

    by_same : (b : Bool) → (after_step no_fault (cond b answer.Amiss (met config p i s s.act q j r r.act view)) ≡ outcome.Amiss → ⊥)
        → (instance : Instance) × (offer : Offer) × (channel : ℕ) × (x : Option Value) × (Some i ≡ Some instance) × (Some s ≡ Some offer) × (offer.act ≡ Send channel x)
    by_same true good' = absurd (good' refl)
    by_same false good' = by_act s.act refl good'

-- a wake and a join have their instance

waker : (config : Config) (p : ℕ) (place : Option Instance) (o : Option Offer) (view : View)
    → (after_step no_fault (woken config p place o view) ≡ outcome.Amiss → ⊥) → place ≢ None
waker config p None o view good = absurd (good refl)
waker config p (Some i) o view good = λ e. absurd (cc)

joiner : (config : Config) (p : ℕ) (place : Option Instance) (view : View)
    → (after_step no_fault (joined config p place view) ≡ outcome.Amiss → ⊥) → place ≢ None
joiner config p None view good = absurd (good refl)
joiner config p (Some i) view good = λ e. absurd (cc)

-- and an advance its due time
advancing : (config : Config) (due : Option ℤ) (view : View)
    → (after_step no_fault (advanced config due view) ≡ outcome.Amiss → ⊥) → due ≢ None
advancing config None view good = absurd (good refl)
advancing config (Some t) view good = λ e. absurd (cc)

pub is_there : (core : Core) → Sound core → KeepsKinded core → ValuesAreNamed → (config : Config) → Kinded core config
    → (label : Label) → Contains (enabled config) label → IsThere core config label
is_there core sound keeps values config kinded label may = by label (good label may)
  where
    good : (l : Label) → Contains (enabled config) l → (taken core config l (view_of config 0) ≡ outcome.Amiss → ⊥)
    good l may' e = subst (GoesKinded core) (step_taken core config l ∙ e) (keeps config kinded l may' 1)

    by : (l : Label) → (taken core config l (view_of config 0) ≡ outcome.Amiss → ⊥) → IsThere core config l
    by (Local p) g =
        let d = doing core config p (slice_get config.instances p) (view_of config 0) g in
        (named core sound config kinded p (doing_there (slice_get config.instances p) d), d)
    by (Pair p a q b) g =
        let s = sender config p a q b (slice_get config.instances p) (slice_get config.instances q)
        (offer_at (slice_get config.instances p) a) (offer_at (slice_get config.instances q) b) (view_of config 0) g in (
          s.2,
          s.3,
          ap (option_map (λ (o : Offer). o.act)) s.5 ∙ ap Some s.6,
          sends_there core sound config kinded values p a s.0 s.1 s.2 s.3 s.4 (sym (ap (λ o. offer_at o a) s.4) ∙ s.5) s.6,
        )
    by (Wake p a) g =
        named core sound config kinded p (waker config p (slice_get config.instances p) (offer_at (slice_get config.instances p) a) (view_of config 0) g)
    by (Join p) g = named core sound config kinded p (joiner config p (slice_get config.instances p) (view_of config 0) g)
    by Advance g = advancing config (next_due config) (view_of config 0) g

-- so there is an event

line_there : (place : Option Instance) → IsDoing place → (line : ℕ) × (option_and_then (λ i. line_in i.term) place ≡ Some line)
line_there None d = absurd d
line_there (Some i) d = by i.term refl
  where
    by : (term : Term) → i.term ≡ term → (line : ℕ) × (line_in term ≡ Some line)
    by [] e = absurd (d e)
    by (item ∷ rest) e = (outcome.line_of item, refl)

detail_there : (core : Core) (config : Config) (label : Label) → IsThere core config label → (d : Detail) × (detail_of core config label ≡ Some d)
detail_there core config (Local p) there =
    let line = line_there (slice_get config.instances p) there.1 in
    (At there.0.0 line.0, (λ k. place_told (there.0.1 k) (line.1 k)))
detail_there core config (Pair p a q b) there = by (offer_at (slice_get config.instances p) a) there.2
  where
    by : (o : Option Offer) → option_map (λ offer. offer.act) o ≡ Some (Send there.0 there.1)
        → (d : Detail) × (option_and_then (λ offer. sending_told core.names.kinds offer.act) o ≡ Some d)
    by None e = absurd (cc)
    by (Some offer) e =
        let is : offer.act ≡ Send there.0 there.1 = cc in
        (Sent there.0 (sent_text core.names.kinds there.1), ap (sending_told core.names.kinds) is)
detail_there core config (Wake p a) there = (Of there.0, ap (option_map Of) there.1)
detail_there core config (Join p) there = (Of there.0, ap (option_map Of) there.1)
detail_there core config Advance there = (Bare, refl)

time_there : (core : Core) (config : Config) (label : Label) → IsThere core config label → (t : ℤ) × (time_after config label ≡ Some t)
time_there core config (Local p) there = (config.clock, refl)
time_there core config (Pair p a q b) there = (config.clock, refl)
time_there core config (Wake p a) there = (config.clock, refl)
time_there core config (Join p) there = (config.clock, refl)
time_there core config Advance there = by (next_due config) refl
  where
    by : (o : Option ℤ) → next_due config ≡ o → (t : ℤ) × (o ≡ Some t)
    by None e = absurd (there e)
    by (Some t) e = (t, refl)

pub has_event : (core : Core) (config : Config) (label : Label) → IsThere core config label → (turn : ℕ) → (e : Event) × (event_at core turn config label ≡ Some e)
has_event core config label there turn =
    let t = time_there core config label there in
    let d = detail_there core config label there in
    (record { turn = turn; label = label; clock = t.0; detail = d.0 }, (λ k. event_with turn label (t.1 k) (d.1 k)))
