-- Lines that tell how a run ends.
use Rattle.std.proofs.Common.{◌≡◌, ℕ, ◌<◌, ℤ, List, [], ◌∷◌, Option, Some, None, Bool, true, false, sym, ◌∙◌, ap, subst, refl, arith}
use Rattle.std.specs.Prelude.{◌↔◌, IsTrue, IfOk, IfSome, Result, Ok, Err, option_map}
use Rattle.std.specs.List.{Contains}
use Rattle.chi_base.specs.declared.no_memory.NoMemory.{NoMemory}
use Rattle.chi_core.specs.declared.label.Label.{Label}
use Rattle.chi_core.specs.declared.program.Core.{Core}
use Rattle.chi_core.specs.declared.verdict.Verdict.{Verdict}
use Rattle.chi_core.specs.declared.verdict.Verdict.TheVariants.{OutOfSteps}
use Rattle.chi_core.specs.Config.{Config}
use Rattle.chi_core.specs.Options.{Ending, enabled, ending, ending_at, ending_of}
use Rattle.chi_core.specs.Picks.{is_spent}
use Rattle.chi_core.specs.Step.{step}
use Rattle.chi_core.specs.VerdictLine.{verdict_line_of}
use Rattle.chi_log.specs.Allowed.{ending_line}
use Rattle.chi_plain.specs.Stage.{Stage, At, Ended, Lost, clock_at, time_of, verdict_at}
use Rattle.chi_judge.specs.declared.asking.Question.TheVariants as question
use Rattle.chi_judge.specs.declared.places.Found.{Found}
use Rattle.chi_judge.specs.Asking.{IsCutBy, IsFirst, RestsBy}
use Rattle.chi_log.proofs.Deciding.{none_passes}

-- an ending with its parts
ending_is : (end : Ending) (verdict : Verdict) (clock : ℤ) → end.verdict ≡ verdict → clock ≡ end.clock → end ≡ record { verdict = verdict; clock = clock }
ending_is end verdict clock same time = λ k. record { verdict = same k; clock = sym time k }

some_verdict : (o : Option Ending) (verdict : Verdict) → Some verdict ≡ option_map (λ end. end.verdict) o → (end : Ending) × (o ≡ Some end) × (end.verdict ≡ verdict)
some_verdict None verdict e = absurd (cc)
some_verdict (Some end) verdict e = (end, refl, cc)

no_verdict : (o : Option Ending) → None ≡ option_map (λ end. end.verdict) o → o ≡ None
no_verdict None e = refl
no_verdict (Some end) e = absurd (cc)

-- where a run rests, no label may come
rests_nothing : (config : Config) (end : Ending) → ending config ≡ Some end → (label : Label) → Contains (enabled config) label → ⊥
rests_nothing config end e label may = by (enabled config) e may
  where
    by : (ls : List Label) → ending_of ls config ≡ Some end → Contains ls label → ⊥
    by [] e' c = let h : c.0 < 0 = c.1 in omega arith
    by (l ∷ ls) e' c = absurd (cc)

module _ (core : Core) (line : List ℕ) (verdict : Verdict) (clock : ℤ) (is : Bool) (tells : IsTrue is ↔ (line ≡ verdict_line_of core.names.kinds verdict clock)) where
  its_line : (end : Ending) → end.verdict ≡ verdict → clock ≡ end.clock → ending_line core end ≡ verdict_line_of core.names.kinds verdict clock
  its_line end same time = ap (ending_line core) (ending_is end verdict clock same time)

  pub rests_some : (stage : Stage) → Some verdict ≡ verdict_at stage → IfSome (clock_at stage) (λ time. clock ≡ time) → RestsBy core stage line is
  rests_some (At config) e time =
      let some = some_verdict (ending config) verdict e in
      let own : clock ≡ some.0.clock = subst (λ (o : Option Ending). clock ≡ time_of o config) some.1 time in (
        (λ t. (some.0, some.1, its_line some.0 some.2 own ∙ sym (tells.0 t))),
        (λ r. let same : r.0 ≡ some.0 = (let both : Some r.0 ≡ Some some.0 = sym r.1 ∙ some.1 in cc) in
            tells.1 (sym r.2 ∙ ap (ending_line core) same ∙ its_line some.0 some.2 own)),
      )
  rests_some (Ended end) e time =
      let same : end.verdict ≡ verdict = cc in
      ((λ t. its_line end same time ∙ sym (tells.0 t)), (λ l. tells.1 (sym l ∙ its_line end same time)))
  rests_some Lost e time = absurd (cc)

pub rests_none : (core : Core) (line : List ℕ) (stage : Stage) → None ≡ verdict_at stage → RestsBy core stage line false
rests_none core line (At config) e =
    let none : ending config ≡ None = no_verdict (ending config) e in
    ((λ f. absurd (cc)), (λ r. absurd (let isnt : Some r.0 ≡ None = sym r.1 ∙ none in cc)))
rests_none core line (Ended end) e = absurd (cc)
rests_none core line Lost e = refl

pub cut_rests : (core : Core) (line : List ℕ) (left : ℕ) (verdict : Verdict) (stage : Stage) → Some verdict ≡ verdict_at stage → IsCutBy core stage left line None
cut_rests core line left verdict (At config) e =
    let some = some_verdict (ending config) verdict e in
    λ label may spent l. rests_nothing config some.0 some.1 label may
cut_rests core line left verdict (Ended end) e = refl
cut_rests core line left verdict Lost e = refl

module _ (core : Core) (line : List ℕ) (left : ℕ) (clock : ℤ) (is : Bool) (tells : IsTrue is ↔ (line ≡ verdict_line_of core.names.kinds OutOfSteps clock)) where
  cut_line : (config : Config) → None ≡ verdict_at (At config) → IfSome (clock_at (At config)) (λ time. clock ≡ time)
      → ending_line core (ending_at OutOfSteps config) ≡ verdict_line_of core.names.kinds OutOfSteps clock
  cut_line config e time =
      let none : ending config ≡ None = no_verdict (ending config) e in
      let own : clock ≡ config.clock = subst (λ (o : Option Ending). clock ≡ time_of o config) none time in
      ap (verdict_line_of core.names.kinds OutOfSteps) (sym own)

  pub cut_other : (stage : Stage) → None ≡ verdict_at stage → IfSome (clock_at stage) (λ time. clock ≡ time) → is ≡ false → IsCutBy core stage left line None
  cut_other (At config) e time isnt = λ label may spent l.
      let is_so : is ≡ true = tells.1 (sym l ∙ cut_line config e time) in
      absurd (let both : true ≡ false = sym is_so ∙ isnt in cc)
  cut_other (Ended end) e time isnt = refl
  cut_other Lost e time isnt = refl

  cut_first : (stage : Stage) (found : Option Found) → None ≡ verdict_at stage → IfSome (clock_at stage) (λ time. clock ≡ time) → is ≡ true
      → IsFirst core stage (question.Spent left) found → IsCutBy core stage left line found
  cut_first (At config) None e time is_so first = λ label may spent l.
      let never : is_spent (step core config label left) ≡ false
      = none_passes (λ l. is_spent (step core config l left)) (enabled config) label first.0 may in
      absurd (let both : true ≡ false = sym (ap is_spent spent) ∙ never in cc)
  cut_first (At config) (Some f) e time is_so first = (cut_line config e time ∙ sym (tells.0 is_so), first)
  cut_first (Ended end) found e time is_so first = first
  cut_first Lost found e time is_so first = first

  pub cut_all : (result : Result (Option Found) NoMemory) (stage : Stage) → None ≡ verdict_at stage → IfSome (clock_at stage) (λ time. clock ≡ time) → is ≡ true
      → IfOk result (IsFirst core stage (question.Spent left)) → IfOk result (IsCutBy core stage left line)
  cut_all (Ok found) stage e time is_so first = cut_first stage found e time is_so first
  cut_all (Err x) stage e time is_so first = tt

pub ruleset endings = (rests_some, rests_none, cut_rests, cut_other)
