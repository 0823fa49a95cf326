-- `and` and `or`: the second is evaluated only where the first lets it be.
use Rattle.std.proofs.Common.{◌≡◌, ◌≢◌, Bool, true, false, Some, None, ap, refl, ◌∙◌}
use Rattle.chi_value.specs.declared.value.Value.{Value}
use Rattle.chi_core.specs.declared.expression.CExpr.{CExpr}
use Rattle.chi_core.specs.declared.view.View.{View}
use Rattle.chi_core.specs.Answer.{Gives, Amiss, then_do, gives}
use Rattle.chi_core.specs.Reading.{truth_of}
use Rattle.chi_core.specs.Evaluation.{Evaluates, on_truth}
use Rattle.chi_core_frame.specs.declared.stop.Stop.{Stop}
use Rattle.chi_core_frame.specs.Stops.{Stops}
use Rattle.chi_plain_eval.specs.Kinds as kinds
use Rattle.chi_core_frame.proofs.Stopping.{then_stops, then_there}

module _ (m : Evaluates) (a b : CExpr) (view : View) where
  pub second_first : (t : Bool) → kinds.second_where m t a b view ≢ Amiss → m a view ≢ Amiss
  second_first true h = then_there (m a view) (λ x. on_truth (truth_of x) (m b) (gives x)) h
  second_first false h = then_there (m a view) (λ x. on_truth (truth_of x) (gives x) (m b)) h

  pub second_stops : (t : Bool) (stop : Stop) → Stops stop (m a view) → Stops stop (kinds.second_where m t a b view)
  second_stops true stop s = then_stops stop (m a view) (λ x. on_truth (truth_of x) (m b) (gives x)) s
  second_stops false stop s = then_stops stop (m a view) (λ x. on_truth (truth_of x) (gives x) (m b)) s

  module _ (v : Value) (now : View) (got : m a view ≡ Gives v now) where
    on_true : kinds.second_where m true a b view ≡ on_truth (truth_of v) (m b) (gives v) now
    on_true = ap (λ it. then_do it (λ x. on_truth (truth_of x) (m b) (gives x))) got

    on_false : kinds.second_where m false a b view ≡ on_truth (truth_of v) (gives v) (m b) now
    on_false = ap (λ it. then_do it (λ x. on_truth (truth_of x) (gives x) (m b))) got

    pub second_truth : (t : Bool) → kinds.second_where m t a b view ≢ Amiss → truth_of v ≢ None
    second_truth true h none = h (on_true ∙ ap (λ o. on_truth o (m b) (gives v) now) none)
    second_truth false h none = h (on_false ∙ ap (λ o. on_truth o (gives v) (m b) now) none)

    second_goes : (t : Bool) → truth_of v ≡ Some t → kinds.second_where m t a b view ≡ m b now
    second_goes true so = on_true ∙ ap (λ o. on_truth o (m b) (gives v) now) so
    second_goes false so = on_false ∙ ap (λ o. on_truth o (gives v) (m b) now) so

    pub second_is : (t truth : Bool) → truth_of v ≡ Some truth → truth ≡ t → kinds.second_where m t a b view ≡ m b now
    second_is t truth so e = second_goes t (so ∙ ap Some e)

    pub second_there : (t truth : Bool) → truth_of v ≡ Some truth → truth ≡ t → kinds.second_where m t a b view ≢ Amiss → m b now ≢ Amiss
    second_there t truth so e h c = h (second_is t truth so e ∙ c)

    pub second_ends : (t truth : Bool) → truth_of v ≡ Some truth → truth ≢ t → kinds.second_where m t a b view ≡ Gives v now
    second_ends true true so d = absurd (d refl)
    second_ends true false so d = on_true ∙ ap (λ o. on_truth o (m b) (gives v) now) so
    second_ends false true so d = on_false ∙ ap (λ o. on_truth o (gives v) (m b) now) so
    second_ends false false so d = absurd (d refl)

pub ruleset truths = (second_first, second_stops, second_truth, second_is, second_there, second_ends)
