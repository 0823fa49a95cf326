-- Where the machine's state stands for a configuration, a trace tells the same of both.
use Rattle.std.proofs.Common.{◌≡◌, ◌≢◌, ℕ, zero, suc, List, Option, Some, None, refl, ap, sym, ◌∙◌}
use Rattle.std.specs.Prelude.{option_map, option_and_then, slice_get}
use Rattle.chi_types.specs.declared.ty.Ty.{Ty}
use Rattle.chi_core.specs.declared.act.Act.{Act}
use Rattle.chi_core.specs.declared.label.Label.{Label}
use Rattle.chi_core.specs.declared.label.Label.TheVariants.{Local, Pair, Wake, Join, Advance}
use Rattle.chi_core.specs.declared.program.Core.{Core}
use Rattle.chi_core.specs.declared.view.View.{View}
use Rattle.chi_core.specs.Config as instance
use Rattle.chi_core.specs.Config.{Config, Instance, Offer, offers_in, view_of}
use Rattle.chi_core.specs.Meeting.{offer_at}
use Rattle.chi_core.specs.Step as outcome
use Rattle.chi_core.specs.Step.{step, taken, local, local_in}
use Rattle.chi_core.specs.Terms.{Term}
use Rattle.chi_code.specs.declared.code.Around.{Around}
use Rattle.chi_code.specs.declared.code.Code.{Code}
use Rattle.chi_code.specs.declared.instr.Instr.TheVariants as instr
use Rattle.chi_code.specs.Codes.{in_process, Codes}
use Rattle.chi_exec_law.specs.State.{Turning}
use Rattle.chi_exec_law.proofs.Lines.{item_line}
use Rattle.chi_machine_laws.specs.Choosing.{config_of}
use Rattle.chi_machine_laws.specs.Instances.{Kept, Standing, Held, Whole}
use Rattle.chi_machine_laws.specs.Labels.{name_at}
use Rattle.chi_machine_laws.specs.Stands.{Pairwise, none, more, OfferAt, StateAt, runs, waits, joins, ends, InstanceAt, Stands}
use Rattle.chi_machine_laws.proofs.Choosing.{due_alike}
use Rattle.chi_machine_laws.proofs.Steps.{names_alike}
use Rattle.chi_machine_events.specs.Events.{turn_line, name_held, line_held, kept_in, act_held, detail_at}
use Rattle.chi_machine_events.specs.Laws.{ChannelsAlike, EventsAlike}
use Rattle.chi_trace.specs.declared.event.Detail.TheVariants.{Of}
use Rattle.chi_trace_events.specs.Channels.{channel_sent}
use Rattle.chi_trace_events.specs.Traces.{name_in, line_in, place_told, sending_told, detail_of, time_after, event_with}

-- an instance is there on both sides, or on neither
pub data Both (core : Core) (code : Code) : Option Instance → Option Held → Type 0 where
  neither : Both core code None None
  each : (i : Instance) (h : Held) → InstanceAt core code i h → Both core code (Some i) (Some h)

pub both_at : (core : Core) (code : Code) (is : List Instance) (hs : List Held) → Pairwise (InstanceAt core code) is hs → (p : ℕ) → Both core code (slice_get is p) (slice_get hs p)
both_at core code _ _ none p = neither
both_at core code _ _ (more i h is hs at r) zero = each i h at
both_at core code _ _ (more i h is hs at r) (suc p) = both_at core code is hs r p

module _ (core : Core) (code : Code) where
  -- an offer acts alike

  kept_acts : (slots : List Ty) (around : List Around) (end : ℕ) (offers : List Offer) (ks : List Kept) → Pairwise (OfferAt code.instrs slots around end) offers ks → (a : ℕ)
      → option_map (λ (k : Kept). k.act) (slice_get ks a) ≡ option_map (λ (o : Offer). o.act) (slice_get offers a)
  kept_acts slots around end _ _ none a = refl
  kept_acts slots around end _ _ (more o k offers ks at r) zero = ap Some at.act
  kept_acts slots around end _ _ (more o k offers ks at r) (suc a) = kept_acts slots around end offers ks r a

  state_acts : (slots : List Ty) (under : List Turning) (place : ℕ) (term : Term) (s : instance.State) (standing : Standing) → StateAt code.instrs slots under place term s standing → (a : ℕ)
      → option_map (λ (k : Kept). k.act) (slice_get (kept_in standing) a) ≡ option_map (λ (o : Offer). o.act) (slice_get (offers_in s) a)
  state_acts slots _ _ _ _ _ (runs around under x term place r) a = refl
  state_acts slots _ _ _ _ _ (waits around under term place end offers ks all t) a = kept_acts slots around end offers ks all a
  state_acts slots _ _ _ _ _ (joins around under term place numbers t) a = refl
  state_acts slots _ _ _ _ _ (ends place r) a = refl

  pub acts_alike : (place : Option Instance) (held : Option Held) → Both core code place held → (a : ℕ) → act_held held a ≡ option_map (λ (o : Offer). o.act) (offer_at place a)
  acts_alike _ _ neither a = refl
  acts_alike _ _ (each i h at) a = state_acts at.process.slots h.frame.under h.at i.term i.state h.standing at.state a

  by_act : {A : Type 0} (f : Act → Option A) (o : Option Offer) → option_and_then f (option_map (λ (o : Offer). o.act) o) ≡ option_and_then (λ o. f o.act) o
  by_act f None = refl
  by_act f (Some o) = refl

  -- what an act tells, it tells on both sides
  told_alike : {A : Type 0} (f : Act → Option A) (place : Option Instance) (held : Option Held) → Both core code place held → (a : ℕ)
      → option_and_then f (act_held held a) ≡ option_and_then (λ o. f o.act) (offer_at place a)
  told_alike f place held at a = ap (option_and_then f) (acts_alike place held at a) ∙ by_act f (offer_at place a)

  -- an instance that runs stands before the turn that has its line

  pub line_alike : (config : Config) (p : ℕ) (place : Option Instance) (held : Option Held) → Both core code place held → (view : View) → local core config p place view ≢ outcome.Amiss
      → line_held code held ≡ option_and_then (λ (i : Instance). line_in i.term) place
  line_alike config p _ _ neither view good = refl
  line_alike config p _ _ (each i h at) view good = by_state h.frame.under h.at i.term i.state h.standing at.state refl
    where
      by_state : (under : List Turning) (place : ℕ) (term : Term) (s : instance.State) (standing : Standing) → StateAt code.instrs at.process.slots under place term s standing → i.state ≡ s
          → turn_line (slice_get code.instrs place) ≡ line_in term
      by_state _ _ _ _ _ (runs around under x term place r) e = ap turn_line (item_line code.instrs in_process at.process.slots instr.Done around under x term place r)
      by_state _ _ _ _ _ (waits around under term place end offers ks all t) e = absurd (good (ap (λ s. local_in core config p i s view) e))
      by_state _ _ _ _ _ (joins around under term place numbers t) e = absurd (good (ap (λ s. local_in core config p i s view) e))
      by_state _ _ _ _ _ (ends place r) e = absurd (good (ap (λ s. local_in core config p i s view) e))

  module _ (codes : Codes core code) where
    name_alike : (place : Option Instance) (held : Option Held) → Both core code place held → name_held code held ≡ name_in core place
    name_alike _ _ neither = refl
    name_alike _ _ (each i h at) = ap (name_at code) at.definition ∙ sym (names_alike core code codes i.definition)

pub channels_alike : ChannelsAlike
channels_alike core code config m st (Local p) = refl
channels_alike core code config m st (Pair p a q b) =
    told_alike core code channel_sent (slice_get config.instances p) (slice_get m.instances p) (both_at core code config.instances m.instances st.instances p) a
channels_alike core code config m st (Wake p a) = refl
channels_alike core code config m st (Join p) = refl
channels_alike core code config m st Advance = refl

pub step_taken : (core : Core) (config : Config) (label : Label) → step core config label 1 ≡ taken core config label (view_of config 0)
unfolding step
step_taken core config label = refl

module _ (core : Core) (code : Code) (codes : Codes core code) (config : Config) (m : Whole) (st : Stands core code config m) where
  pub both : (p : ℕ) → Both core code (slice_get config.instances p) (slice_get m.instances p)
  both p = both_at core code config.instances m.instances st.instances p

  pub name_there : (p : ℕ) → name_held code (slice_get m.instances p) ≡ name_in core (slice_get config.instances p)
  name_there p = name_alike core code codes (slice_get config.instances p) (slice_get m.instances p) (both p)

  time_alike : (label : Label) → time_after (config_of m) label ≡ time_after config label
  time_alike (Local p) = ap Some st.clock
  time_alike (Pair p a q b) = ap Some st.clock
  time_alike (Wake p a) = ap Some st.clock
  time_alike (Join p) = ap Some st.clock
  time_alike Advance = due_alike core code config m st

  detail_alike : (label : Label) → taken core config label (view_of config 0) ≢ outcome.Amiss → detail_at code m label ≡ detail_of core config label
  detail_alike (Local p) good =
      let line = line_alike core code config p (slice_get config.instances p) (slice_get m.instances p) (both p) (view_of config 0) good in
      λ j. place_told (name_there p j) (line j)
  detail_alike (Pair p a q b) good =
      (λ j. option_and_then (sending_told (codes.names j).kinds) (act_held (slice_get m.instances p) a))
      ∙ told_alike core code (sending_told core.names.kinds) (slice_get config.instances p) (slice_get m.instances p) (both p) a
  detail_alike (Wake p a) good = ap (option_map Of) (name_there p)
  detail_alike (Join p) good = ap (option_map Of) (name_there p)
  detail_alike Advance good = refl

pub events_alike : EventsAlike
events_alike core code codes config m st turn label good =
    let detail = detail_alike core code codes config m st label (λ e. good (step_taken core config label ∙ e)) in
    λ j. event_with turn label (time_alike core code codes config m st label j) (detail j)
