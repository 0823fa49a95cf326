-- Where a run may end, and in which way.
use Rattle.std.proofs.Common.{◌≡◌, ℕ, ◌<◌, List, [], ◌∷◌, Some, None, inl, inr, sym, ◌∙◌, ap, subst, refl, arith}
use Rattle.std.specs.List.{Contains}
use Rattle.std.specs.Prelude.{Bool, true, false, if◌then◌else◌}
use Rattle.chi_core.specs.declared.label.Label.{Label}
use Rattle.chi_core.specs.declared.program.Core.{Core}
use Rattle.chi_core.specs.declared.verdict.Verdict.TheVariants.{Completed}
use Rattle.chi_core.specs.Config.{Config}
use Rattle.chi_core.specs.Kinded.{Kinded}
use Rattle.chi_core.specs.Options.{Ending, all_finished, at_rest, enabled, ending_at, ending_of, stopped_at}
use Rattle.chi_core.specs.Meeting.{next_due}
use Rattle.chi_core.specs.Runs.{IsAtRest, MayDerive, RunsFrom, nothing}
use Rattle.chi_core.specs.Sound.{Sound}
use Rattle.chi_core_kinds.specs.Keeps.{KeepsKinded}
use Rattle.chi_core_runs.specs.Turns.{told_last}
use Rattle.chi_core_runs.proofs.Turns.{along-none, from-cut, from-rest}
use Rattle.chi_trace.specs.declared.event.Event.{Event}
use Rattle.chi_trace.specs.Lines.{event_line}
use Rattle.chi_trace.proofs.OneLine.{head_of}
use Rattle.chi_trace_events.specs.Laws.{EachHasAnEvent, EachIsThere}
use Rattle.chi_trace_events.specs.Traces.{event_told}
use Rattle.chi_log.specs.Allowed.{ending_line}
use Rattle.chi_log.specs.Reading.{At, End, IsLine, IsLineOf, IsSoundAt, MayEnd, Place, Rest}
use Rattle.chi_log.proofs.EndingLines.{IsNamedInLine, ending_head, ending_in_line}
use Rattle.chi_log.proofs.EventLines.{event_head, event_in_line}

-- what the laws of sound programs give
pub record Laws (core : Core) : Type 0 where
  pub sound : Sound core
  pub keeps : KeepsKinded core
  pub there : EachIsThere
  pub event : EachHasAnEvent

-- the line of an event is that of no ending
pub apart : (core : Core) (e : Event) (end : Ending) → event_line e ≡ ending_line core end → ⊥
apart core e end same =
    let small = event_head e in
    let large = ending_head core end in
    let heads : head_of (event_line e) ≡ head_of (ending_line core end) = ap head_of same in
    omega arith

module _ (core : Core) (laws : Laws core) where
  pub line_is : (turn : ℕ) (config : Config) (label : Label) (line : List ℕ) → Kinded core config → Contains (enabled config) label
      → IsLineOf core turn config label line → IsLine line
  line_is turn config label line kinded may l =
      subst IsLine l.is (event_in_line core turn config label l.event (laws.there core laws.sound config kinded label may) l.told)

  -- endings

  pub end_told : (end : Ending) → IsNamedInLine end.verdict → IsLine (ending_line core end)
  end_told end named = ending_in_line core laws.sound.enumerations end named

  stopped_named : (config : Config) (due until : _) → IsNamedInLine (stopped_at config due until).verdict
  stopped_named config None until = tt
  stopped_named config (Some t) None = tt
  stopped_named config (Some t) (Some u) = tt

  rest_named : (config : Config) → IsNamedInLine (at_rest config).verdict
  rest_named config = by (all_finished config)
    where
      by : (b : Bool) → IsNamedInLine (if b then ending_at Completed config else stopped_at config (next_due config) config.until).verdict
      by true = tt
      by false = stopped_named config (next_due config) config.until

  at_rest_named : (config : Config) (end : Ending) → IsAtRest config end → IsNamedInLine end.verdict
  at_rest_named config end is = by (enabled config) is
    where
      by : (ls : List Label) → ending_of ls config ≡ Some end → IsNamedInLine end.verdict
      by [] e = let same : at_rest config ≡ end = cc in subst (λ (x : Ending). IsNamedInLine x.verdict) same (rest_named config)
      by (l ∷ ls) e = absurd (cc)

  pub end_is_line : (place : Place) (end : Ending) → IsSoundAt core place → MayEnd core place end → IsLine (ending_line core end)
  end_is_line (At turn config left) end sound (inl rests) = end_told end (at_rest_named config end rests)
  end_is_line (At turn config left) end sound (inr cut) =
      end_told end (subst (λ (x : Ending). IsNamedInLine x.verdict) (sym cut.out_of_steps) tt)
  end_is_line (End last) end sound same = subst (λ (x : Ending). IsLine (ending_line core x)) (sym same) sound

  rests_enabled : (config : Config) (end : Ending) (label : Label) → IsAtRest config end → Contains (enabled config) label → ⊥
  rests_enabled config end label rests may = by (enabled config) rests may
    where
      by : (ls : List Label) → ending_of ls config ≡ Some end → Contains ls label → ⊥
      by [] e c = let h : c.0 < 0 = c.1 in omega arith
      by (l ∷ ls) e c = cc

  -- a run may end in one way where no label is left
  pub same_end : (place : Place) (end other : Ending) → MayEnd core place end → MayEnd core place other → end ≡ other
  same_end (At turn config left) end other (inl a) (inl b) = let same : end ≡ other = cc in same
  same_end (At turn config left) end other (inl a) (inr b) = absurd (rests_enabled config end b.label a b.may_come)
  same_end (At turn config left) end other (inr a) (inl b) = absurd (rests_enabled config other a.label b a.may_come)
  same_end (At turn config left) end other (inr a) (inr b) = a.out_of_steps ∙ sym b.out_of_steps
  same_end (End last) end other a b = a ∙ sym b

  -- a run may end here

  ends_here : (turn : ℕ) (config : Config) (left : ℕ) (end : Ending) → MayEnd core (At turn config left) end
      → RunsFrom MayDerive core turn config left (told_last end)
  ends_here turn config left end (inl rests) = from-rest MayDerive core turn config left end rests
  ends_here turn config left end (inr cut) =
      subst (λ (x : Ending). RunsFrom MayDerive core turn config left (told_last x)) (sym cut.out_of_steps)
      (from-cut MayDerive core turn config left cut.label cut.may_come cut.spent)

  pub rest_ends : (place : Place) (end : Ending) → MayEnd core place end → Rest core place (told_last end) (ending_line core end)
  rest_ends (At turn config left) end may = record {
    runs = ends_here turn config left end may;
    events = [];
    are = along-none (event_told core) nothing core turn config left;
    is = refl;
  }
  rest_ends (End last) end may = (ap told_last may, ap (ending_line core) may)
