-- The value of an exit, as it is taken.
use Rattle.std.proofs.Common.{◌≡◌, ◌≢◌, Bool, true, false, ap, sym, subst, ◌∙◌}
use Rattle.chi_value.specs.declared.value.Value.{Value}
use Rattle.chi_core.specs.declared.view.View.{View}
use Rattle.chi_core.specs.Answer.{Answer, Gives, Amiss, then_do}
use Rattle.chi_core.specs.Arithmetic.{widened}
use Rattle.chi_core.specs.Spots.{Spot, store}
use Rattle.chi_core.specs.Variables.{Variables}
use Rattle.chi_core_frame.specs.declared.stop.Stop.{Stop}
use Rattle.chi_core_frame.specs.Stops.{Stops}
use Rattle.chi_core_frame.proofs.Stopping.{then_stops}
use Rattle.chi_xper.specs.Experiments.{converted, taken}

-- an int as a real, where that is wanted
module _ (widen : Bool) (v : Value) (view : View) where
  pub same_goes : widen ≡ false → converted widen v view ≡ Gives v view
  same_goes e = ap (λ b. converted b v view) e

  wide_is : widen ≡ true → converted widen v view ≡ widened v view
  wide_is e = ap (λ b. converted b v view) e

  pub wide_there : widen ≡ true → converted widen v view ≢ Amiss → widened v view ≢ Amiss
  wide_there e h a = h (wide_is e ∙ a)

  pub wide_goes : (x : Value) (now : View) → widen ≡ true → widened v view ≡ Gives x now → converted widen v view ≡ Gives x now
  wide_goes x now e is = wide_is e ∙ is

  pub wide_stops : (stop : Stop) → widen ≡ true → Stops stop (widened v view) → Stops stop (converted widen v view)
  wide_stops stop e is = let P : Answer Value → Type 0 = Stops stop in subst P (sym (wide_is e)) is

pub ruleset converting = (same_goes, wide_there, wide_goes, wide_stops)

module _ (widen : Bool) (spot : Spot) (variables : Variables) (v : Value) (view : View) where
  pub take_there : taken widen spot variables v view ≢ Amiss → converted widen v view ≢ Amiss
  take_there h e = h (ap (λ a. then_do a (λ x. store (spot, x) variables)) e)

  pub take_stops : (stop : Stop) → Stops stop (converted widen v view) → Stops stop (taken widen spot variables v view)
  take_stops stop e = then_stops stop (converted widen v view) (λ x. store (spot, x) variables) e

  module _ (x : Value) (now : View) (is : converted widen v view ≡ Gives x now) where
    store_is : taken widen spot variables v view ≡ store (spot, x) variables now
    store_is = ap (λ a. then_do a (λ x. store (spot, x) variables)) is

    pub store_there : taken widen spot variables v view ≢ Amiss → store (spot, x) variables now ≢ Amiss
    store_there h e = h (store_is ∙ e)

    pub store_goes : (after : Variables) (later : View) → store (spot, x) variables now ≡ Gives after later → taken widen spot variables v view ≡ Gives after later
    store_goes after later e = store_is ∙ e

    pub store_stops : (stop : Stop) → Stops stop (store (spot, x) variables now) → Stops stop (taken widen spot variables v view)
    store_stops stop e = let P : Answer Variables → Type 0 = Stops stop in subst P (sym store_is) e

pub ruleset taking = (take_there, take_stops, store_there, store_goes, store_stops)
