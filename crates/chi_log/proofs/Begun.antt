-- How the log of a run begins.
use Rattle.std.proofs.Common.{◌≡◌, ℕ, ℤ, List, [], ◌∷◌, ◌++◌, map, filter, Option, Some, None, length, append_assoc, sym, ◌∙◌, ap, subst, refl}
use Rattle.std.specs.List.{flat_map}
use Rattle.chi_value.specs.declared.value.Value.{Value}
use Rattle.chi_core.specs.declared.program.ConstDef.{ConstDef}
use Rattle.chi_core.specs.declared.program.Core.{Core}
use Rattle.chi_core.specs.declared.program.ProcDef.{ProcDef}
use Rattle.chi_core.specs.Answer as answer
use Rattle.chi_core.specs.Answer.{Answer, Gives, Fails}
use Rattle.chi_core.specs.Beginning as beginning
use Rattle.chi_core.specs.Beginning.{Beginning, Begins, Breaks, begins_after, constant_fault, constant_value, model_begins, start, with_constant}
use Rattle.chi_core.specs.Config.{Config}
use Rattle.chi_core.specs.Options.{Ending}
use Rattle.chi_core.specs.Runs.{Told}
use Rattle.chi_core.specs.Starting.{started_by}
use Rattle.chi_core_kinds.specs.Keeps.{BeginsAlways, BeginsKinded}
use Rattle.chi_core_runs.specs.Picked.{IsBeginning}
use Rattle.chi_core_runs.specs.Turns.{told_last}
use Rattle.chi_trace.specs.declared.event.Event.{Event}
use Rattle.chi_trace.specs.declared.filter.Filter.TheVariants.{All}
use Rattle.chi_trace.specs.Filters.{shows}
use Rattle.chi_trace.specs.Lines.{event_line, first_line}
use Rattle.chi_trace.specs.Logs.{ended}
use Rattle.chi_trace.proofs.OneLine.{tail_of}
use Rattle.chi_trace_events.specs.Traces.{lines_of}
use Rattle.chi_log.specs.Allowed.{ending_line, first_lines, IsLog, IsLogOf}
use Rattle.chi_log.specs.Reading.{GoesOn, Place, ReadSoFar, Stands, read_first, told_before}
use Rattle.chi_log.proofs.EndingLines.{IsNamedInLine, ending_in_line}
use Rattle.chi_log.proofs.Places.{Laws}

-- all events are shown

all_shown : (events : List Event) → filter (shows All) events ≡ events
all_shown [] = refl
all_shown (e ∷ es) = ap (λ rest. e ∷ rest) (all_shown es)

-- what follows the first line
abbrev pub first_text : List ℕ
first_text = ended first_line

trace_is : (events : List Event) → lines_of (filter (shows All) events) ≡ first_text ++ flat_map event_line events
trace_is events = ap lines_of (all_shown events)

front_same : (xs ys zs : List ℕ) → xs ++ ys ≡ xs ++ zs → ys ≡ zs
front_same [] ys zs e = e
front_same (x ∷ xs) ys zs e = front_same xs ys zs (ap tail_of e)

-- every log begins with the first line
pub log_begins : (core : Core) (begin : Beginning) (bound : ℕ) (told : Told) (text : List ℕ) → IsLog core begin bound told text
    → (rest : List ℕ) × (text ≡ first_text ++ rest)
log_begins core begin bound told text l = (
  flat_map event_line l.traced.events ++ ending_line core told.ending,
  l.is ∙ ap (λ (x : List ℕ). x ++ ending_line core told.ending) (l.traced.is ∙ trace_is l.traced.events)
      ∙ append_assoc first_text (flat_map event_line l.traced.events) (ending_line core told.ending),
)

module _ (core : Core) (bound : ℕ) where
  -- a derivation from a configuration, and its log
  begun_log : (config : Config) (told : Told) (log : List ℕ) → GoesOn core 0 config bound told log → IsLogOf core (Begins config) bound told (first_text ++ log)
  begun_log config told log g = record {
    derived = g.runs;
    logged = record {
      trace = lines_of (filter (shows All) g.events);
      traced = record { events = g.events; are = g.are; is = refl };
      is = ap (λ (x : List ℕ). first_text ++ x) g.is
          ∙ sym (append_assoc first_text (flat_map event_line g.events) (ending_line core told.ending))
          ∙ ap (λ (x : List ℕ). x ++ ending_line core told.ending) (sym (trace_is g.events));
    };
  }

  log_begun : (config : Config) (told : Told) (log : List ℕ) → IsLogOf core (Begins config) bound told (first_text ++ log) → GoesOn core 0 config bound told log
  unfolding log_begins
  log_begun config told log l = record {
    runs = l.derived;
    events = l.logged.traced.events;
    are = l.logged.traced.are;
    is =
        let b = log_begins core (Begins config) bound told (first_text ++ log) l.logged in
        front_same first_text log b.0 b.1;
  }

  -- of a run that a constant ended

  broken : Ending → Told
  broken end = record { labels = []; ending = end; output = [] }

  broken_log : (end : Ending) (told : Told) (log : List ℕ) → told ≡ told_last end → log ≡ ending_line core end → IsLogOf core (Breaks end) bound told (first_text ++ log)
  broken_log end told log same is =
      let whole : IsLogOf core (Breaks end) bound (told_last end) (first_text ++ ending_line core end) = record {
        derived = refl;
        logged = record { trace = lines_of []; traced = record { events = []; are = refl; is = refl }; is = refl };
      } in
      subst (λ (t : Told). IsLogOf core (Breaks end) bound t (first_text ++ log)) (sym same)
      (subst (λ (x : List ℕ). IsLogOf core (Breaks end) bound (told_last end) (first_text ++ x)) (sym is) whole)

  log_broken : (end : Ending) (told : Told) (log : List ℕ) → IsLogOf core (Breaks end) bound told (first_text ++ log)
      → (told ≡ told_last end) × (log ≡ ending_line core end)
  unfolding log_begins
  log_broken end told log l =
      let b = log_begins core (Breaks end) bound told (first_text ++ log) l.logged in
      let none : l.logged.traced.events ≡ [] = no_events l.logged.traced.events l.logged.traced.are in
      let rest : log ≡ ending_line core told.ending
      = front_same first_text log b.0 b.1 ∙ ap (λ (events : List Event). flat_map event_line events ++ ending_line core told.ending) none in
      (l.derived, rest ∙ ap (λ (t : Told). ending_line core t.ending) l.derived)
    where
      no_events : (events : List Event) → [] ≡ map Some events → events ≡ []
      no_events [] e = refl
      no_events (x ∷ xs) e = absurd (cc)

-- a constant's fault is told in one line

module _ (core : Core) (arguments : List Value) (seed : ℕ) (until : Option ℤ) where
  model_named : (values : List Value) (d : Option ProcDef) (end : Ending) → model_begins seed until arguments values core.model d ≡ Breaks end → IsNamedInLine end.verdict
  model_named values None end e = absurd (cc)
  model_named values (Some d) end e = absurd (cc)

  fault_named : (c : ConstDef) (a : Answer Value) (end : Ending) → constant_fault c a ≡ Breaks end → IsNamedInLine end.verdict
  fault_named c (Gives v view) end e = absurd (cc)
  fault_named c (Fails kind) end e = let same : _ ≡ end = ap (λ (b : Beginning). ending_in end b) e in subst (λ (x : Ending). IsNamedInLine x.verdict) same refl
    where
      ending_in : Ending → Beginning → Ending
      ending_in other (Begins config) = other
      ending_in other (Breaks end) = end
      ending_in other beginning.Amiss = other
  fault_named c answer.Spent end e = absurd (cc)
  fault_named c answer.Amiss end e = absurd (cc)

  breaks_named : (cs : List ConstDef) (values : List Value) (end : Ending) → begins_after core arguments seed until values cs ≡ Breaks end → IsNamedInLine end.verdict
  breaks_named [] values end e = model_named values (started_by core.procs core.model (length arguments)) end e
  breaks_named (c ∷ cs) values end e = by (λ v f. breaks_named cs (values ++ v ∷ []) end f) (constant_value core seed values c) e
    where
      by : ((v : Value) → begins_after core arguments seed until (values ++ v ∷ []) cs ≡ Breaks end → IsNamedInLine end.verdict)
          → (a : Answer Value) → with_constant core arguments seed until (λ more. begins_after core arguments seed until more cs) values c a ≡ Breaks end → IsNamedInLine end.verdict
      by later (Gives v view) e' = later v e'
      by later (Fails kind) e' = fault_named c (Fails kind) end e'
      by later answer.Spent e' = fault_named c answer.Spent end e'
      by later answer.Amiss e' = fault_named c answer.Amiss end e'

-- reading begins

none_told : (told : Told) → told_before [] [] told ≡ told
none_told told = refl

pub first_is : first_lines 1 first_text ≡ Some first_text
first_is = refl

begins_at : (core : Core) → Laws core → (begin : Beginning) → BeginsKinded core begin → ((end : Ending) → begin ≡ Breaks end → IsNamedInLine end.verdict)
    → (bound : ℕ) (place : Place) → Stands begin bound place → ReadSoFar core begin bound (read_first place)
begins_at core laws (Begins config) kinded named bound place is =
    subst (λ (p : Place). ReadSoFar core (Begins config) bound (read_first p)) (sym is) (record {
      lines = first_is;
      sound = kinded;
      leads = λ rest log g. (begun_log core bound config rest log g, refl);
      only = λ told log l. (told, log_begun core bound config told log l, refl);
    })
begins_at core laws (Breaks end) kinded named bound place is =
    subst (λ (p : Place). ReadSoFar core (Breaks end) bound (read_first p)) (sym is) (record {
      lines = first_is;
      sound = ending_in_line core laws.sound.enumerations end (named end refl);
      leads = λ rest log r. (broken_log core bound end rest log r.0 r.1, refl);
      only = λ told log l. (told, log_broken core bound end told log l, refl);
    })
begins_at core laws beginning.Amiss kinded named bound place is = absurd is

pub reading_begins : (core : Core) → Laws core → BeginsAlways core → (begin : Beginning) → IsBeginning core begin → (bound : ℕ) (place : Place)
    → Stands begin bound place → ReadSoFar core begin bound (read_first place)
reading_begins core laws begins begin is bound place stands =
    let kinded : BeginsKinded core begin
    = subst (λ (b : Beginning). BeginsKinded core b) (sym is.begins) (begins is.model is.is is.arguments is.fit is.seed is.until) in
    begins_at core laws begin kinded
    (λ end e. breaks_named core is.arguments is.seed is.until core.consts [] end (sym is.begins ∙ e)) bound place stands
