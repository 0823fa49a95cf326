-- The event of a label, by the machine's own state, is that of the configuration for which it stands.
use Rattle.std.proofs.Common.{◌≡◌, ◌≢◌, ℕ, ℤ, [], ◌∷◌, Option, Some, None, Bool, true, refl, sym, ap, subst, ◌∙◌}
use Rattle.std.specs.Prelude.{Contains, if◌then◌else◌, option_and_then, slice_get}
use Rattle.chi_core.specs.declared.label.Label.{Label}
use Rattle.chi_core.specs.declared.label.Label.TheVariants.{Local, Pair, Wake, Join, Advance}
use Rattle.chi_core.specs.declared.program.Core.{Core}
use Rattle.chi_core.specs.Config.{Config, Instance, view_of}
use Rattle.chi_core.specs.Kinded.{Kinded}
use Rattle.chi_core.specs.Meeting.{next_due}
use Rattle.chi_core.specs.Options.{actors, enabled}
use Rattle.chi_core.specs.Sound.{Sound}
use Rattle.chi_core.specs.Step as outcome
use Rattle.chi_core.specs.Step.{step}
use Rattle.chi_core.specs.Terms.{Term}
use Rattle.chi_core_kinds.specs.Keeps.{GoesKinded, KeepsKinded}
use Rattle.chi_core_runs.proofs.Enabled.{advance_last}
use Rattle.chi_code.specs.declared.code.Code.{Code}
use Rattle.chi_code.specs.Codes.{Codes}
use Rattle.chi_machine_laws.specs.Choosing.{config_of}
use Rattle.chi_machine_laws.specs.Instances.{Whole}
use Rattle.chi_machine_laws.specs.Stands.{Stands}
use Rattle.chi_machine_laws.proofs.Choosing.{actors_alike, due_alike}
use Rattle.chi_machine_agenda.specs.Laws.{DueAlike}
use Rattle.chi_machine_agenda.specs.Reading as agenda
use Rattle.chi_machine.specs.declared.world.World.{World}
use Rattle.chi_machine.specs.Crowds.{IsCrowd}
use Rattle.chi_machine.specs.Views.{whole_of}
use Rattle.chi_machine.proofs.Timed.{due_too}
use Rattle.chi_machine_events.specs.Events.{channel_at, event_by}
use Rattle.chi_machine_events.specs.Laws.{ChannelsAlike, EventsAlike}
use Rattle.chi_machine_events.proofs.Alike.{acts_alike, line_alike, step_taken, both, name_there}
use Rattle.chi_machine_told.specs.Telling.{MayTell, CanTell}
use Rattle.chi_machine_told.specs.There.{IsThere}
use Rattle.chi_trace.specs.declared.event.Event.{Event}
use Rattle.chi_trace.specs.declared.filter.Filter.{Filter}
use Rattle.chi_trace.specs.Filters.{admits, shows, where_shown}
use Rattle.chi_trace_events.specs.Laws.{EachIsThere}
use Rattle.chi_trace_events.specs.There as config
use Rattle.chi_trace_events.specs.There.{IsDoing, IsSent}
use Rattle.chi_trace_events.specs.Traces.{event_at, line_in}
use Rattle.chi_trace_events.proofs.Unmade.{shown_told}

-- the step of an enabled label isn't amiss
goes_well : (core : Core) → KeepsKinded core → (config : Config) → Kinded core config → (label : Label) → Contains (enabled config) label → step core config label 1 ≢ outcome.Amiss
goes_well core keeps config kinded label is e = subst (GoesKinded core) e (keeps config kinded label is 1)

has_line : (place : Option Instance) → IsDoing place → option_and_then (λ (i : Instance). line_in i.term) place ≢ None
has_line None doing e = absurd doing
has_line (Some i) doing e = by_term i.term doing e
  where
    by_term : (term : Term) → term ≢ [] → line_in term ≢ None
    by_term [] doing e = doing refl
    by_term (x ∷ rest) doing e = absurd (cc)

module _ (core : Core) (code : Code) (codes : Codes core code) (c : Config) (m : Whole) (st : Stands core code c m) where
  there_so : (label : Label) → config.IsThere core c label → step core c label 1 ≢ outcome.Amiss → (label ≡ Advance → actors c ≡ []) → IsThere code m label
  there_so (Local p) t good idle = (
    (t.0.0, name_there core code codes c m st p ∙ t.0.1, t.0.2),
    λ e. has_line (slice_get c.instances p) t.1
        (sym (line_alike core code c p (slice_get c.instances p) (slice_get m.instances p) (both core code codes c m st p) (view_of c 0) (λ e. good (step_taken core c (Local p) ∙ e))) ∙ e),
  )
  there_so (Pair p a q b) t good idle = (
    t.0,
    t.1,
    acts_alike core code (slice_get c.instances p) (slice_get m.instances p) (both core code codes c m st p) a ∙ t.2,
    subst (λ names. IsSent names.kinds t.1) (sym codes.names) t.3,
  )
  there_so (Wake p a) t good idle = (t.0, name_there core code codes c m st p ∙ t.1, t.2)
  there_so (Join p) t good idle = (t.0, name_there core code codes c m st p ∙ t.1, t.2)
  there_so Advance t good idle = (actors_alike core code c m st ∙ idle refl, λ e. t (sym (due_alike core code c m st) ∙ e))

-- what the event of a label tells is there
pub there : EachIsThere → ((core : Core) → Sound core → KeepsKinded core) → (code : Code) (m : Whole) (label : Label) → CanTell code m label → IsThere code m label
there each keeps code m label t =
    there_so t.core code t.may.codes t.config m t.may.stands label (each t.core t.may.sound t.config t.may.kinded label t.may.enabled)
    (goes_well t.core (keeps t.core t.may.sound) t.config t.may.kinded label t.may.enabled) (λ e. advance_last t.config (subst (Contains (enabled t.config)) e t.may.enabled))

module _ (code : Code) (m : Whole) (label : Label) (core : Core) (c : Config) (may : MayTell code m label core c) (turn : ℕ) (e : Event) where
  pub told_so : EventsAlike → KeepsKinded core → event_by code turn m label ≡ Some e → event_at core turn c label ≡ Some e
  told_so law keeps is = sym (law core code may.codes c m may.stands turn label (goes_well core keeps c may.kinded label may.enabled)) ∙ is

  pub shows_so : ChannelsAlike → (filter : Filter) → event_at core turn c label ≡ Some e → shows filter e ≡ admits filter label (channel_at m label)
  shows_so law filter is = sym (shown_told core turn c label e filter is) ∙ ap (admits filter label) (sym (law core code c m may.stands label))

pub shown : (filter : Filter) (e : Event) → shows filter e ≡ true → Some e ≡ where_shown filter e
shown filter e is = ap (λ (b : Bool). if b then Some e else None) (sym is)

-- the least due time is that of the agenda

module _ (law : DueAlike) (w : World) (kept : IsCrowd w.crowd) (r : Option ℤ) (is : r ≡ next_due (agenda.config_of w.crowd.agenda)) where
  pub due_some : (t : ℤ) → r ≡ Some t → next_due (config_of (whole_of w)) ≡ Some t
  due_some t e = sym (is ∙ due_too law w kept) ∙ e

  pub due_none : r ≡ None → next_due (config_of (whole_of w)) ≡ None
  due_none e = sym (is ∙ due_too law w kept) ∙ e
