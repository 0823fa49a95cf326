-- The line of an event that was made where it is shown.
use Rattle.std.proofs.Common.{◌≡◌, ℕ, Bool, true, false, if◌then◌else◌, List, [], ◌++◌, Option, Some, None, refl, sym, ap, subst, ◌∙◌}
use Rattle.std.proofs.lemmas.List.{append-nil}
use Rattle.std.specs.Prelude.{Result, OnOk, IfOk}
use Rattle.chi_core.specs.declared.label.Label.{Label}
use Rattle.chi_core.specs.declared.program.Core.{Core}
use Rattle.chi_core.specs.Config.{Config}
use Rattle.chi_core.specs.Options.{Ending}
use Rattle.chi_code.specs.declared.code.Code.{Code}
use Rattle.chi_machine_told.specs.Below.chi_machine.specs.declared.course.Course.{Course}
use Rattle.chi_machine_told.specs.Below.chi_machine.specs.Courses.{TakesTo}
use Rattle.chi_machine_told.specs.Below.chi_machine.specs.Views.{whole_of}
use Rattle.chi_machine_told.specs.Telling.{MayTell}
use Rattle.chi_trace.specs.declared.event.Event.{Event}
use Rattle.chi_trace.specs.declared.filter.Filter.{Filter}
use Rattle.chi_trace.specs.Filters.{shows, where_shown}
use Rattle.chi_trace.specs.Lines.{event_line}
use Rattle.chi_trace_events.specs.Traces.{event_at}
use Rattle.chi_trace_events.specs.Tracing.{shown_line}
use Rattle.chi_machine_traces.specs.Turns.{was_taken, logged_by, LogsBy}
use Rattle.chi_machine_traces.proofs.Answered.{on_ok, if_ok, if_and}

module _ (probe : Filter) (e : Event) (old : List ℕ) where
  pub more_shown : (new : List ℕ) → shows probe e ≡ true → new ≡ old ++ event_line e → new ≡ old ++ shown_line probe e
  more_shown new is more = more ∙ sym (ap (λ (b : Bool). old ++ (if b then event_line e else [])) is)

  pub none_shown : shows probe e ≡ false → old ≡ old ++ shown_line probe e
  none_shown is = sym (append-nil old) ∙ sym (ap (λ (b : Bool). old ++ (if b then event_line e else [])) is)

same_event : (e event : Event) (shown : Bool) → Some event ≡ (if shown then Some e else None) → event ≡ e
same_event e event true is = cc
same_event e event false is = absurd (cc)

nothing : (e : Event) (line : List ℕ) (shown : Bool) → None ≡ (if shown then Some e else None) → [] ≡ (if shown then line else [])
nothing e line true is = absurd (cc)
nothing e line false is = refl

same_line : (probe : Filter) (event e : Event) → Some event ≡ where_shown probe e → shown_line probe event ≡ shown_line probe e
same_line probe event e is = ap (shown_line probe) (same_event e event (shows probe e) is)

no_line : (probe : Filter) (e : Event) → None ≡ where_shown probe e → [] ≡ shown_line probe e
no_line probe e is = nothing e (event_line e) (shows probe e) is

-- what is logged of an event that was made

pub made_logged : {T E : Type 0} (r : Result T E) (probe : Filter) (event : Event) (made : Option Event) (old new : List ℕ) → made ≡ Some event → OnOk r (new ≡ old ++ shown_line probe event)
    → OnOk r ((e : Event) → made ≡ where_shown probe e → new ≡ old ++ shown_line probe e)
made_logged r probe event made old new some logged = on_ok r logged (λ n e is. n ∙ ap (λ line. old ++ line) (same_line probe event e (sym some ∙ is)))

pub unmade_logged : (probe : Filter) (made : Option Event) (old : List ℕ) → made ≡ None → (e : Event) → made ≡ where_shown probe e → old ≡ old ++ shown_line probe e
unmade_logged probe made old none e is = sym (append-nil old) ∙ ap (λ line. old ++ line) (no_line probe e (sym none ∙ is))

-- and of a label

pub taken_logged : {T E : Type 0} (r : Result T E) (probe : Filter) (made : Option Event) (old new : List ℕ) (end : Option Ending) → was_taken end ≡ true
    → OnOk r ((e : Event) → made ≡ where_shown probe e → new ≡ old ++ shown_line probe e)
    → OnOk r ((e : Event) → made ≡ where_shown probe e → new ≡ old ++ logged_by end (shown_line probe e))
taken_logged r probe made old new end is logged = on_ok r logged (λ n e shown. n e shown ∙ sym (ap (λ (b : Bool). old ++ (if b then shown_line probe e else [])) is))

pub untaken_logged : (probe : Filter) (made : Option Event) (old : List ℕ) (end : Option Ending) → was_taken end ≡ false → (e : Event) → made ≡ where_shown probe e → old ≡ old ++ logged_by end (shown_line probe e)
untaken_logged probe made old end is e shown = sym (append-nil old) ∙ sym (ap (λ (b : Bool). old ++ (if b then shown_line probe e else [])) is)

-- where no trace is wanted

unlogged : (b : Bool) (log : List ℕ) → log ≡ log ++ (if b then [] else [])
unlogged true log = sym (append-nil log)
unlogged false log = sym (append-nil log)

pub nothing_logged : (trace : Option Filter) → trace ≡ None → (core : Core) (turn : ℕ) (config : Config) (label : Label) (end : Option Ending) (log : List ℕ) → LogsBy trace core turn config label end log log
nothing_logged trace none core turn config label end log =
    subst (λ trace. LogsBy trace core turn config label end log log) (sym none) ([], refl, unlogged (was_taken end) log)

-- where the event was made before the label was taken

module _ (code : Code) (c : Course) (label : Label) where
  pub label_taken : (before after : List ℕ) (end : Option Ending) (new : Course) {E : Type 0} (r : Result (Option Ending) E) → IfOk r (λ taken. taken ≡ end)
      → (text : List ℕ) × (after ≡ before ++ text) × TakesTo code c label end new text
      → IfOk r (λ taken. (text : List ℕ) × (after ≡ before ++ text) × TakesTo code c label taken new text)
  label_taken before after end new r same t = if_ok r same (λ taken e. (t.0, t.1, subst (λ x. TakesTo code c label x new t.0) (sym e) t.2))

  pub label_logged : (probe filter : Filter) → filter ≡ probe → (made : Option Event) (end : Option Ending) (before after : List ℕ) {E : Type 0} (r : Result (Option Ending) E) → IfOk r (λ taken. taken ≡ end)
      → OnOk r ((e : Event) → made ≡ where_shown probe e → after ≡ before ++ logged_by end (shown_line probe e))
      → ((core : Core) (config : Config) → MayTell code (whole_of c.world) label core config → (e : Event) × (event_at core c.turn config label ≡ Some e) × (made ≡ where_shown filter e))
      → IfOk r (λ taken. (core : Core) (config : Config) → MayTell code (whole_of c.world) label core config → LogsBy (Some probe) core c.turn config label taken before after)
  label_logged probe filter keeps made end before after r same logged told = if_and r same logged (λ taken e l core config may.
      let t = told core config may in
      let shown : made ≡ where_shown probe t.0 = subst (λ f. made ≡ where_shown f t.0) keeps t.2 in
      subst (λ x. LogsBy (Some probe) core c.turn config label x before after) (sym e) (shown_line probe t.0, (t.0, t.1, refl), l t.0 shown))
