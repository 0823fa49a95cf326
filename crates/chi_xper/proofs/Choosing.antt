-- The branches of an if, tested one after another.
use Rattle.std.proofs.Common.{◌≡◌, ◌≢◌, ℕ, ◌+◌, ◌<◌, ◌≤◌, Bool, true, false, List, ◌∷◌, Some, None, length, drop, get_or, ap, sym, subst, ◌∙◌}
use Rattle.std.proofs.lemmas.List.{drop_more, drop_all}
use Rattle.chi_value.specs.declared.value.Value.{Value}
use Rattle.chi_core.specs.declared.experiment.XStat.{XStat}
use Rattle.chi_core.specs.declared.experiment.XBranch.{XBranch, out-XBranch}
use Rattle.chi_core.specs.declared.view.View.{View}
use Rattle.chi_core.specs.Answer.{Answer, Does, Gives, Amiss, then_do, gives}
use Rattle.chi_core.specs.Reading.{truth_of}
use Rattle.chi_core.specs.Variables.{Variables}
use Rattle.chi_core.specs.Evaluation.{Evaluates, on_truth}
use Rattle.chi_xper.specs.Items.{Term, Did, chosen, first_the, quietly}
use Rattle.chi_core_frame.specs.declared.stop.Stop.{Stop}
use Rattle.chi_core_frame.specs.Stops.{Stops}
use Rattle.chi_core_frame.proofs.Stopping.{then_stops, then_there}

module _ (m : Evaluates) (variables : Variables) (all : List XBranch) (otherwise : List XStat) (rest : Term) (view : View) (i : ℕ) where
  at_end : length all ≤ i → chosen m variables (drop i all) otherwise rest view ≡ Gives (quietly variables (first_the otherwise rest)) view
  at_end h = ap (λ bs. chosen m variables bs otherwise rest view) (drop_all i all h)

  module _ (b : XBranch) (h : i < length all) (is : b ≡ get_or all i b) where
    next : Value → Does Did
    next x = on_truth (truth_of x) (gives (quietly variables (first_the (out-XBranch b).block rest))) (chosen m variables (drop (i + 1) all) otherwise rest)

    step : chosen m variables (drop i all) otherwise rest view ≡ then_do (m (out-XBranch b).test view) next
    unfolding next
    step =
        ap (λ bs. chosen m variables bs otherwise rest view) (drop_more all i b h)
        ∙ ap (λ c. chosen m variables (c ∷ drop (i + 1) all) otherwise rest view) (sym is)

    pub choose_first : chosen m variables (drop i all) otherwise rest view ≢ Amiss → m (out-XBranch b).test view ≢ Amiss
    choose_first there = then_there _ next (λ a. there (step ∙ a))

    pub choose_stops : (stop : Stop) → Stops stop (m (out-XBranch b).test view) → Stops stop (chosen m variables (drop i all) otherwise rest view)
    choose_stops stop s = let P : Answer Did → Type 0 = Stops stop in subst P (sym step) (then_stops stop _ next s)

    module _ (v : Value) (now : View) (got : m (out-XBranch b).test view ≡ Gives v now) where
      goes : chosen m variables (drop i all) otherwise rest view ≡ next v now
      goes = step ∙ ap (λ a. then_do a next) got

      pub choose_truth : chosen m variables (drop i all) otherwise rest view ≢ Amiss → truth_of v ≢ None
      unfolding next
      choose_truth there none = there (goes ∙ ap (λ o. on_truth o (gives (quietly variables (first_the (out-XBranch b).block rest))) (chosen m variables (drop (i + 1) all) otherwise rest) now) none)

      pub choose_takes : (t : Bool) → truth_of v ≡ Some t → t ≡ true → chosen m variables (drop i all) otherwise rest view ≡ Gives (quietly variables (first_the (out-XBranch b).block rest)) now
      unfolding next
      choose_takes t so e =
          goes ∙ ap (λ o. on_truth o (gives (quietly variables (first_the (out-XBranch b).block rest))) (chosen m variables (drop (i + 1) all) otherwise rest) now) (so ∙ ap Some e)

      pub choose_passes : (t : Bool) → truth_of v ≡ Some t → t ≡ false → chosen m variables (drop i all) otherwise rest view ≡ chosen m variables (drop (i + 1) all) otherwise rest now
      unfolding next
      choose_passes t so e =
          goes ∙ ap (λ o. on_truth o (gives (quietly variables (first_the (out-XBranch b).block rest))) (chosen m variables (drop (i + 1) all) otherwise rest) now) (so ∙ ap Some e)

pub choose_last : (m : Evaluates) (variables : Variables) (all : List XBranch) (otherwise : List XStat) (rest : Term) (view : View) (i : ℕ) → length all ≤ i
    → chosen m variables (drop i all) otherwise rest view ≡ Gives (quietly variables (first_the otherwise rest)) view
choose_last m variables all otherwise rest view i h = at_end m variables all otherwise rest view i h

pub ruleset choosing = (choose_first, choose_stops, choose_truth, choose_takes, choose_passes, choose_last)
