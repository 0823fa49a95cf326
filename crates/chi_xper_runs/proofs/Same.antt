-- An experiment is the same by any two that agree on what comes of the runs that it makes.
use Rattle.std.proofs.Common.{◌≡◌, ℕ, zero, suc, List, [], ◌∷◌, Option, Some, None, refl, ap, ◌∙◌}
use Rattle.chi_value.specs.declared.value.Value.{Value}
use Rattle.chi_core.specs.declared.program.Core.{Core}
use Rattle.chi_core.specs.declared.view.View.{View}
use Rattle.chi_core.specs.Answer as answer
use Rattle.chi_core.specs.Answer.{Answer, Gives, Fails, then_do, tick}
use Rattle.chi_core.specs.Kinds.{Every}
use Rattle.chi_core.specs.Variables.{Variables}
use Rattle.chi_xper.specs.Experiments.{Outcome, Outcomes, Made, Told, after, unless_over, taken, exit_value, came_back, made_by, outcome_of, comes_to, value_in, did_then, goes}
use Rattle.chi_xper.specs.Items.{Term, Call, Did, On, Calls, line_of, done}

module _ (allows : ℕ → List Value → Type 0) (core : Core) (constants : List Value) (seed : ℕ) (outcomes others : Outcomes)
    (agree : (number : ℕ) (arguments : List Value) → allows number arguments → (seed : ℕ) → outcomes number arguments seed ≡ others number arguments seed) where
  -- each run that is told of is allowed
  abbrev AllAllowed : Told → Type 0
  AllAllowed told = Every (λ made. allows made.model made.arguments) told.runs

  -- what is told where so many turns are left
  abbrev from : ℕ → ℕ → Variables → Term → View → Told
  from = goes core constants seed outcomes

  abbrev from_others : ℕ → ℕ → Variables → Term → View → Told
  from_others = goes core constants seed others

  -- it is the same in so many turns
  abbrev SameIn : ℕ → Type 0
  SameIn n = (count : ℕ) (variables : Variables) (term : Term) (view : View) → AllAllowed (from n count variables term view) → from n count variables term view ≡ from_others n count variables term view

  module _ (n : ℕ) (same : SameIn n) (line count : ℕ) where
    module _ (c : Call) (term : Term) (now : View) where
      next : Variables → View → Told
      next new = from n (suc count) new term

      next_others : Variables → View → Told
      next_others new = from_others n (suc count) new term

      made : Made
      made = made_by seed count c

      -- the value of an exit is taken
      by_answer : (it : Answer Variables) → AllAllowed (unless_over line (suc count) next it) → unless_over line (suc count) next it ≡ unless_over line (suc count) next_others it
      unfolding next next_others
      by_answer (Gives new view) each = same (suc count) new term view each
      by_answer (Fails kind) each = refl
      by_answer answer.Spent each = refl
      by_answer answer.Amiss each = refl

      by_value : (new : Variables) (outcome : Outcome) (o : Option Value) → AllAllowed (came_back line count c new next now outcome o)
          → came_back line count c new next now outcome o ≡ came_back line count c new next_others now outcome o
      by_value new outcome (Some v) each = by_answer (taken c.widen c.spot new v now) each
      by_value new outcome None each = refl

      by_outcome : (new : Variables) (outcome other : Outcome) → outcome ≡ other → AllAllowed (comes_to line count c new next now made outcome)
          → comes_to line count c new next now made outcome ≡ comes_to line count c new next_others now made other
      by_outcome new outcome other e each =
          ap (after (made ∷ []) outcome.output) (by_value new outcome (exit_value outcome.verdict) (λ k. each (suc k))) ∙ ap (comes_to line count c new next_others now made) e

      by_call : (new : Variables) → AllAllowed (comes_to line count c new next now made (outcome_of outcomes made))
          → comes_to line count c new next now made (outcome_of outcomes made) ≡ comes_to line count c new next_others now made (outcome_of others made)
      unfolding made
      by_call new each = by_outcome new (outcome_of outcomes made) (outcome_of others made) (agree c.model c.arguments (each 0 made refl) (made_by seed count c).seed) each

    by_did : (it : Answer Did) → AllAllowed (unless_over line count (did_then core constants seed outcomes line count (from n)) it)
        → unless_over line count (did_then core constants seed outcomes line count (from n)) it ≡ unless_over line count (did_then core constants seed others line count (from_others n)) it
    unfolding next next_others made
    by_did (Gives (On new term text) now) each = ap (after [] text) (same count new term now each)
    by_did (Gives (Calls c new term) now) each = by_call c term now new each
    by_did (Fails kind) each = refl
    by_did answer.Spent each = refl
    by_did answer.Amiss each = refl

  pub goes_same : (n : ℕ) → SameIn n
  unfolding goes
  goes_same zero count variables [] view each = refl
  goes_same (suc n) count variables [] view each = refl
  goes_same zero count variables (i ∷ rest) view each = refl
  goes_same (suc n) count variables (i ∷ rest) view each =
      by_did n (goes_same n) (line_of i) count (then_do (tick view) (λ ticked. done core (value_in core constants seed outcomes variables) variables i rest)) each
