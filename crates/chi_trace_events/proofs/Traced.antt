-- Traces: each turn adds the line of its event, where the probe shows that, and a derivation of a sound program has exactly one trace.
use Rattle.std.proofs.Common.{◌≡◌, ℕ, suc, Bool, true, false, cond, List, [], ◌∷◌, ◌++◌, filter, map, length, Option, Some, None, if◌then◌else◌, append_assoc, append-nil, sym, ◌∙◌, ap, subst, refl}
use Rattle.std.proofs.lemmas.List.Concat.{flat_map-append}
use Rattle.std.proofs.lemmas.List.Elements.{filter-append}
use Rattle.std.specs.List.{flat_map}
use Rattle.std.specs.Prelude.{unwrap_or}
use Rattle.chi_core.specs.declared.label.Label.{Label}
use Rattle.chi_core.specs.declared.program.Core.{Core}
use Rattle.chi_core.specs.declared.verdict.Verdict.{Verdict}
use Rattle.chi_core.specs.Beginning as beginning
use Rattle.chi_core.specs.Beginning.{Beginning, Begins, Breaks}
use Rattle.chi_core.specs.Config.{Config}
use Rattle.chi_core.specs.Kinded.{Kinded}
use Rattle.chi_core.specs.Options.{Ending}
use Rattle.chi_core.specs.Runs.{nothing, along, told_after, After, Runs, MayDerive, Told, Derivation}
use Rattle.chi_core.specs.Sound.{Sound}
use Rattle.chi_core.specs.Step as outcome
use Rattle.chi_core.specs.Step.{Outcome, Next, Over, step}
use Rattle.chi_core_kinds.specs.Keeps.{BeginsAlways, BeginsKinded, GoesKinded, KeepsKinded}
use Rattle.chi_core_runs.specs.Picked.{IsBeginning}
use Rattle.chi_core_runs.specs.Tellings.{ToldSoFar}
use Rattle.chi_core_runs.proofs.Tellings.{nothing_told, more_told, all_told, last_told}
use Rattle.chi_core_runs.proofs.Turns.{along-none, along-step}
use Rattle.chi_trace.specs.declared.event.Event.{Event}
use Rattle.chi_trace.specs.declared.filter.Filter.{Filter}
use Rattle.chi_trace.specs.Filters.{shows}
use Rattle.chi_trace.specs.Lines.{first_line, event_line}
use Rattle.chi_trace_events.specs.Laws.{EachHasAnEvent}
use Rattle.chi_trace_events.specs.Traces.{event_at, event_told, lines_of, IsTrace}
use Rattle.chi_trace_events.specs.Tracing.{TracedSoFar, shown_line}

-- one event more

map-snoc : (events : List Event) (e : Event) → map Some (events ++ e ∷ []) ≡ map Some events ++ Some e ∷ []
map-snoc [] e = refl
map-snoc (x ∷ xs) e = ap (λ rest. Some x ∷ rest) (map-snoc xs e)

lines-append : (events more : List Event) → lines_of (events ++ more) ≡ lines_of events ++ flat_map event_line more
lines-append events more =
    ap (λ rest. first_line ++ 10 ∷ rest) (flat_map-append event_line events more)
    ∙ sym (append_assoc first_line (10 ∷ flat_map event_line events) (flat_map event_line more))

one_line : (e : Event) (shown : Bool) → flat_map event_line (cond shown (e ∷ []) []) ≡ (if shown then event_line e else [])
one_line e true = append-nil (event_line e)
one_line e false = refl

shown-snoc : (probe : Filter) (events : List Event) (e : Event)
    → lines_of (filter (shows probe) (events ++ e ∷ [])) ≡ lines_of (filter (shows probe) events) ++ shown_line probe e
shown-snoc probe events e =
    ap lines_of (filter-append (shows probe) events (e ∷ []))
    ∙ lines-append (filter (shows probe) events) (filter (shows probe) (e ∷ []))
    ∙ ap (λ line. lines_of (filter (shows probe) events) ++ line) (one_line e (shows probe e))

-- the turns

module _ (probe : Filter) (core : Core) where
  pub begins : (config : Config) (bound : ℕ) → TracedSoFar probe core (Begins config) bound [] (lines_of []) config bound
  begins config bound = record { events = []; told = nothing_told (event_told core) nothing core config bound; is = refl }

  pub of_none : (broken end : Ending) (bound : ℕ) (output : List ℕ)
      → IsTrace probe core (Breaks broken) bound (record { labels = []; ending = end; output = output }) (lines_of [])
  of_none broken end bound output = record { events = []; are = refl; is = refl }

  module _ (bound : ℕ) (labels : List Label) (text : List ℕ) (config : Config) (left : ℕ) where
    pub on : (start : Beginning) → TracedSoFar probe core start bound labels text config left
        → (label : Label) (e : Event) → event_at core (length labels) config label ≡ Some e
        → (new : Config) (written : List ℕ) (rest : ℕ) → step core config label left ≡ Next new written rest
        → TracedSoFar probe core start bound (labels ++ label ∷ []) (text ++ shown_line probe e) new rest
    on (Begins first) t label e is new written rest goes = record {
      events = t.events ++ e ∷ [];
      told =
          subst (λ (told : List (Option Event)). ToldSoFar (event_told core) nothing core first bound (labels ++ label ∷ []) told new rest)
          (ap (λ (o : Option Event). map Some t.events ++ o ∷ []) is ∙ sym (map-snoc t.events e))
          (more_told (event_told core) nothing core first bound labels (map Some t.events) config left t.told label new written rest goes);
      is = ap (λ x. x ++ shown_line probe e) t.is ∙ sym (shown-snoc probe t.events e);
    }
    on (Breaks end) t label e is new written rest goes = absurd t.told
    on beginning.Amiss t label e is new written rest goes = absurd t.told

    -- the last label ends the run
    pub over : (start : Beginning) → TracedSoFar probe core start bound labels text config left
        → (label : Label) (e : Event) → event_at core (length labels) config label ≡ Some e
        → (verdict : Verdict) → step core config label left ≡ Over verdict → (end : Ending) (output : List ℕ)
        → IsTrace probe core start bound (record { labels = labels ++ label ∷ []; ending = end; output = output }) (text ++ shown_line probe e)
    over (Begins first) t label e is verdict goes end output = record {
      events = t.events ++ e ∷ [];
      are =
          all_told (event_told core) nothing core first bound labels (map Some t.events) config left t.told label verdict goes
          ∙ ap (λ (o : Option Event). map Some t.events ++ o ∷ []) is ∙ sym (map-snoc t.events e);
      is = ap (λ x. x ++ shown_line probe e) t.is ∙ sym (shown-snoc probe t.events e);
    }
    over (Breaks broken) t label e is verdict goes end output = absurd t.told
    over beginning.Amiss t label e is verdict goes end output = absurd t.told

    -- the run ends without a label more
    pub whole : (start : Beginning) → TracedSoFar probe core start bound labels text config left → (end : Ending) (output : List ℕ)
        → IsTrace probe core start bound (record { labels = labels; ending = end; output = output }) text
    whole (Begins first) t end output = record {
      events = t.events;
      are = last_told (event_told core) nothing core first bound labels (map Some t.events) config left t.told ∙ append-nil (map Some t.events);
      is = t.is;
    }
    whole (Breaks broken) t end output = absurd t.told
    whole beginning.Amiss t end output = absurd t.told

-- a trace is one

same_some : (xs ys : List Event) → map Some xs ≡ map Some ys → xs ≡ ys
same_some [] [] e = refl
same_some [] (y ∷ ys) e = absurd (cc)
same_some (x ∷ xs) [] e = absurd (cc)
same_some (x ∷ xs) (y ∷ ys) e =
    let first : x ≡ y = ap (λ (o : List (Option Event)). unwrap_or (head o) x) e in
    let rest : xs ≡ ys = same_some xs ys (ap tail e) in
    λ k. first k ∷ rest k
  where
    head : List (Option Event) → Option Event
    head [] = None
    head (o ∷ os) = o

    tail : List (Option Event) → List (Option Event)
    tail [] = []
    tail (o ∷ os) = os

pub one_trace : (probe : Filter) (core : Core) (start : Beginning) (bound : ℕ) (told : Told) (text other : List ℕ)
    → IsTrace probe core start bound told text → IsTrace probe core start bound told other → text ≡ other
one_trace probe core start bound told text other t u =
    t.is ∙ ap (λ (events : List Event). lines_of (filter (shows probe) events)) (same_some t.events u.events (sym t.are ∙ u.are)) ∙ sym u.is

-- each derivation has one

module _ (core : Core) (sound : Sound core) (keeps : KeepsKinded core) (each : EachHasAnEvent) where
  abbrev EventsAlong : ℕ → Config → ℕ → List Label → Type 0
  EventsAlong turn config left labels = (events : List Event) × (along (event_told core) nothing core turn config left labels ≡ map Some events)

  after : (s : Outcome) (config : Config) (labels : List Label) (end : Ending) (turn : ℕ) → GoesKinded core s
      → After (λ new rest. Runs MayDerive core (suc turn) new rest labels end) s config labels end
      → ((new : Config) (rest : ℕ) → Kinded core new → Runs MayDerive core (suc turn) new rest labels end → EventsAlong (suc turn) new rest labels)
      → (events : List Event) × (told_after (λ new rest. along (event_told core) nothing core (suc turn) new rest labels) s ≡ map Some events)
  after (Next new text left) config labels end turn good a go = go new left good a
  after (Over verdict) config labels end turn good a go = ([], refl)
  after outcome.Spent config labels end turn good a go = absurd a
  after outcome.Amiss config labels end turn good a go = absurd a

  events_along : (labels : List Label) (turn : ℕ) (config : Config) (left : ℕ) (end : Ending) → Kinded core config → Runs MayDerive core turn config left labels end
      → EventsAlong turn config left labels
  unfolding Runs
  events_along [] turn config left end kinded runs = ([], along-none (event_told core) nothing core turn config left)
  events_along (label ∷ labels) turn config left end kinded runs =
      let first : (e : Event) × (event_at core turn config label ≡ Some e) = each core sound config kinded label runs.0 turn in
      let rest = after (step core config label left) config labels end turn (keeps config kinded label runs.0 left) runs.1
      (λ new left' kinded' runs'. events_along labels (suc turn) new left' end kinded' runs') in (
        first.0 ∷ rest.0,
        along-step (event_told core) nothing core turn config left label labels (step core config label left) refl
            ∙ (λ k. first.1 k ∷ rest.1 k),
      )

pub each_trace : (probe : Filter) (core : Core) → Sound core → BeginsAlways core → KeepsKinded core → EachHasAnEvent
    → (start : Beginning) → IsBeginning core start → (bound : ℕ) (told : Told) → Derivation core start bound told
    → (text : List ℕ) × IsTrace probe core start bound told text
each_trace probe core sound begun keeps each start is bound told runs =
    by start (subst (BeginsKinded core) (sym is.begins) (begun is.model is.is is.arguments is.fit is.seed is.until)) runs
  where
    by : (s : Beginning) → BeginsKinded core s → Derivation core s bound told → (text : List ℕ) × IsTrace probe core s bound told text
    by (Begins config) kinded runs' =
        let e = events_along core sound keeps each told.labels 0 config bound told.ending kinded runs'.0 in
        (lines_of (filter (shows probe) e.0), record { events = e.0; are = e.1; is = refl })
    by (Breaks end) kinded runs' = (lines_of [], record { events = []; are = refl; is = refl })
    by beginning.Amiss kinded runs' = absurd kinded
