-- Where a run ends an experiment, it is one that may be made, and has no value.
use Rattle.std.proofs.Common.{◌≡◌, ℕ, ℤ, zero, suc, List, [], ◌∷◌, Option, Some, None, refl, subst}
use Rattle.std.specs.Prelude.{slice_get}
use Rattle.chi_value.specs.declared.value.Value.{Value}
use Rattle.chi_core.specs.declared.experiment.XperDef.{XperDef}
use Rattle.chi_core.specs.declared.program.Core.{Core}
use Rattle.chi_core.specs.declared.verdict.Verdict.{Verdict}
use Rattle.chi_core.specs.declared.view.View.{View}
use Rattle.chi_core.specs.Answer as answer
use Rattle.chi_core.specs.Answer.{Answer, Gives, Fails, then_do, tick}
use Rattle.chi_core.specs.Kinds.{Every}
use Rattle.chi_core.specs.Variables.{Variables}
use Rattle.chi_core_kinds.proofs.Operations.{Laws}
use Rattle.chi_xper.specs.Experiments.{Outcome, Outcomes, Run, Made, Told, unless_over, taken, exit_value, came_back, made_by, outcome_of, comes_to, value_in, did_then, goes, begins}
use Rattle.chi_xper.specs.Items.{Term, Call, Did, On, Calls, line_of, done}
use Rattle.chi_xper_runs.specs.Models.{IsWithoutValue, ExitsAreOfTheirKinds, RunsEndWithoutValue}
use Rattle.chi_xper_runs.proofs.Allowed.{Allowed, begins_allowed}

module _ (core : Core) (constants : List Value) (seed : ℕ) (outcomes : Outcomes) where
  -- each run that is told of may be made
  abbrev AllAllowed : Told → Type 0
  AllAllowed told = Every (λ made. Allowed core made.model made.arguments) told.runs

  -- where a run ends it, that has no value
  abbrev EndsSo : Told → Type 0
  EndsSo told = (number model : ℕ) (verdict : Verdict) (clock : ℤ) → told.end ≡ Run number model verdict clock → IsWithoutValue core outcomes model verdict clock

  -- what is told where so many turns are left
  abbrev from : ℕ → ℕ → Variables → Term → View → Told
  from = goes core constants seed outcomes

  abbrev EndsIn : ℕ → Type 0
  EndsIn n = (count : ℕ) (variables : Variables) (term : Term) (view : View) → AllAllowed (from n count variables term view) → EndsSo (from n count variables term view)

  module _ (n : ℕ) (ends : EndsIn n) (line count : ℕ) where
    module _ (c : Call) (new : Variables) (term : Term) (now : View) where
      next : Variables → View → Told
      next after = from n (suc count) after term

      made : Made
      made = made_by seed count c

      outcome : Outcome
      outcome = outcome_of outcomes made

      -- the value of an exit is taken
      by_answer : (it : Answer Variables) → AllAllowed (unless_over line (suc count) next it) → EndsSo (unless_over line (suc count) next it)
      unfolding next
      by_answer (Gives after view) each = ends (suc count) after term view each
      by_answer (Fails kind) each = λ number model verdict clock e. absurd (cc)
      by_answer answer.Spent each = λ number model verdict clock e. absurd (cc)
      by_answer answer.Amiss each = λ number model verdict clock e. absurd (cc)

      -- there is none
      without : Allowed core c.model c.arguments → exit_value outcome.verdict ≡ None → IsWithoutValue core outcomes c.model outcome.verdict outcome.clock
      unfolding outcome made
      without allowed none = record { exit = allowed.0; arguments = c.arguments; may = allowed.1; seed = made.seed; ended = refl; at = refl; none = none }

      by_value : Allowed core c.model c.arguments → (o : Option Value) → exit_value outcome.verdict ≡ o → AllAllowed (came_back line count c new next now outcome o)
          → EndsSo (came_back line count c new next now outcome o)
      by_value allowed (Some v) is each = by_answer (taken c.widen c.spot new v now) each
      by_value allowed None is each = λ number model verdict clock e.
          let same : c.model ≡ model = cc in
          let ended : outcome.verdict ≡ verdict = cc in
          let at : outcome.clock ≡ clock = cc in
          let P : ℕ → Verdict → ℤ → Type 0 = IsWithoutValue core outcomes in
          subst (λ m. P m verdict clock) same (subst (λ v. P c.model v clock) ended (subst (P c.model outcome.verdict) at (without allowed is)))

      by_call : AllAllowed (comes_to line count c new next now made outcome) → EndsSo (comes_to line count c new next now made outcome)
      unfolding made
      by_call each = by_value (each 0 made refl) (exit_value outcome.verdict) refl (λ k. each (suc k))

    by_did : (it : Answer Did) → AllAllowed (unless_over line count (did_then core constants seed outcomes line count (from n)) it)
        → EndsSo (unless_over line count (did_then core constants seed outcomes line count (from n)) it)
    unfolding next made outcome
    by_did (Gives (On new term text) now) each = ends count new term now each
    by_did (Gives (Calls c new term) now) each = by_call c new term now each
    by_did (Fails kind) each = λ number model verdict clock e. absurd (cc)
    by_did answer.Spent each = λ number model verdict clock e. absurd (cc)
    by_did answer.Amiss each = λ number model verdict clock e. absurd (cc)

  goes_ends : (n : ℕ) → EndsIn n
  unfolding goes
  goes_ends zero count variables [] view each = λ number model verdict clock e. absurd (cc)
  goes_ends (suc n) count variables [] view each = λ number model verdict clock e. absurd (cc)
  goes_ends zero count variables (i ∷ rest) view each = λ number model verdict clock e. absurd (cc)
  goes_ends (suc n) count variables (i ∷ rest) view each =
      by_did n (goes_ends n) (line_of i) count (then_do (tick view) (λ ticked. done core (value_in core constants seed outcomes variables) variables i rest)) each

-- the run that ends the experiment of a sound program
pub run_ends : Laws → ExitsAreOfTheirKinds → RunsEndWithoutValue
run_ends laws exits core sound constants kinded seed pick bound most outcomes are = by_first (slice_get core.xpers 0) refl
  where
    by_first : (o : Option XperDef) → slice_get core.xpers 0 ≡ o → EndsSo core constants seed outcomes (begins core constants seed outcomes bound o)
    by_first None e = λ number model verdict clock is. absurd (cc)
    by_first (Some x) e =
        goes_ends core constants seed outcomes bound _ _ _ _ (begins_allowed laws exits core sound constants kinded seed pick bound most outcomes are x e).allowed
