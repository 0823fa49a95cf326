-- What a call has come to is what is asked for, where the two are equal.
use Rattle.std.proofs.Common.{◌≡◌, Option, subst, sym, ap, ◌∙◌}
use Rattle.std.specs.Prelude.{IfOk, IfErr, Result, Ok, Err}
use Rattle.chi_value.specs.declared.value.Value.{Value}
use Rattle.chi_core.specs.declared.view.View.{View}
use Rattle.chi_core.specs.Answer.{Answer, Gives}
use Rattle.chi_core.specs.Terms.{Did, Term}
use Rattle.chi_core.specs.Variables.{Variables}
use Rattle.chi_core_frame.specs.declared.stop.Stop.{Stop}
use Rattle.chi_core_frame.specs.Stops.{Stops}
use Rattle.chi_plain_eval.specs.Terms.{came_to}

module _ (r : Result Value Stop) (new : View) (whole : Answer Value) where
  pub gives_by : (it : Answer Value) → whole ≡ it → IfOk r (λ v. it ≡ Gives v new) → IfOk r (λ v. whole ≡ Gives v new)
  gives_by it e h = let P : Answer Value → Type 0 = λ a. IfOk r (λ v. a ≡ Gives v new) in subst P (sym e) h

  pub gives_same : (v : Value) → whole ≡ Gives v new → IfOk r (λ x. x ≡ v) → IfOk r (λ x. whole ≡ Gives x new)
  gives_same v e h = by_result r h
    where
      by_result : (r : Result Value Stop) → IfOk r (λ x. x ≡ v) → IfOk r (λ x. whole ≡ Gives x new)
      by_result (Ok x) h = e ∙ ap (λ x. Gives x new) (sym h)
      by_result (Err stop) h = tt

pub did_by : (r : Result (Option Value) Stop) (variables : Variables) (term : Term) (new : View) (whole it : Answer Did) → whole ≡ it
    → IfOk r (λ o. it ≡ Gives (came_to o variables term) new) → IfOk r (λ o. whole ≡ Gives (came_to o variables term) new)
did_by r variables term new whole it e h =
    let P : Answer Did → Type 0 = λ a. IfOk r (λ o. a ≡ Gives (came_to o variables term) new) in subst P (sym e) h

module _ {A B : Type 0} (r : Result A Stop) (whole : Answer B) where
  pub stops_by : (it : Answer B) → whole ≡ it → IfErr r (λ stop. Stops stop it) → IfErr r (λ stop. Stops stop whole)
  stops_by it e h = let P : Answer B → Type 0 = λ a. IfErr r (λ stop. Stops stop a) in subst P (sym e) h
