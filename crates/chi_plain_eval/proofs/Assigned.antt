-- Assignments: the values, spread over the targets, then the targets' indexes, then the stores.
use Rattle.std.proofs.Common.{◌≡◌, ◌≢◌, List, Option, Some, None, map, ap, sym, subst, refl, ◌∙◌}
use Rattle.chi_value.specs.declared.value.Value.{Value}
use Rattle.chi_core.specs.declared.expression.CExpr.{CExpr}
use Rattle.chi_core.specs.declared.target.CTarget.{CTarget}
use Rattle.chi_core.specs.declared.view.View.{View}
use Rattle.chi_core.specs.Answer.{Answer, Does, Gives, Amiss, then_do, giving, wanted, in_turn, through}
use Rattle.chi_core.specs.Evaluation.{Evaluates}
use Rattle.chi_core.specs.Spots.{Spot, spot_of, store}
use Rattle.chi_core.specs.Terms.{Term, Did, On, assigned, on_with, spread}
use Rattle.chi_core.specs.Variables.{Variables, side_by_side}
use Rattle.chi_core_frame.specs.declared.stop.Stop.{Stop}
use Rattle.chi_core_frame.specs.Assignments.{each_stored}
use Rattle.chi_core_frame.specs.Stops.{Stops}
use Rattle.chi_core_frame.proofs.Stopping.{then_stops, then_there, giving_stops}

module _ (m : Evaluates) (variables : Variables) (targets : List CTarget) (es : List CExpr) (rest : Term) (view : View) where
  last : List Value → List Spot → Does Did
  last xs spots new = then_do (wanted (side_by_side spots xs) new) (λ stores last. giving (on_with rest) (through store stores variables last))

  third : List Value → Does Did
  third xs later = then_do (in_turn (map (spot_of m) targets) later) (last xs)

  second : List Value → Does Did
  second given now = then_do (wanted (spread targets given) now) third

  is_second : assigned m variables targets es rest view ≡ then_do (in_turn (map m es) view) second
  unfolding second third last
  is_second = refl

  last_is : (xs : List Value) (spots : List Spot) (new : View) → last xs spots new ≡ giving (on_with rest) (each_stored (side_by_side spots xs) variables new)
  unfolding last
  last_is xs spots new = by_stores (side_by_side spots xs)
    where
      by_stores : (o : Option (List (Spot × Value)))
          → then_do (wanted o new) (λ stores last. giving (on_with rest) (through store stores variables last))
          ≡ giving (on_with rest) (then_do (wanted o new) (λ stores. through store stores variables))
      by_stores None = refl
      by_stores (Some stores) = refl

  pub values_there : assigned m variables targets es rest view ≢ Amiss → in_turn (map m es) view ≢ Amiss
  values_there h = then_there _ second (λ a. h (is_second ∙ a))

  pub values_stop : (stop : Stop) → Stops stop (in_turn (map m es) view) → Stops stop (assigned m variables targets es rest view)
  values_stop stop s = let P : Answer Did → Type 0 = Stops stop in subst P (sym is_second) (then_stops stop _ second s)

  module _ (given : List Value) (now : View) (got : in_turn (map m es) view ≡ Gives given now) where
    then_spread : assigned m variables targets es rest view ≡ then_do (wanted (spread targets given) now) third
    unfolding second
    then_spread = is_second ∙ ap (λ a. then_do a second) got

    pub spread_there : assigned m variables targets es rest view ≢ Amiss → spread targets given ≢ None
    spread_there h e = h (then_spread ∙ ap (λ o. then_do (wanted o now) third) e)

    module _ (xs : List Value) (parts : spread targets given ≡ Some xs) where
      then_spots : assigned m variables targets es rest view ≡ then_do (in_turn (map (spot_of m) targets) now) (last xs)
      unfolding third
      then_spots = then_spread ∙ ap (λ o. then_do (wanted o now) third) parts

      pub spots_there : assigned m variables targets es rest view ≢ Amiss → in_turn (map (spot_of m) targets) now ≢ Amiss
      spots_there h = then_there _ (last xs) (λ a. h (then_spots ∙ a))

      pub spots_stop : (stop : Stop) → Stops stop (in_turn (map (spot_of m) targets) now) → Stops stop (assigned m variables targets es rest view)
      spots_stop stop s = let P : Answer Did → Type 0 = Stops stop in subst P (sym then_spots) (then_stops stop _ (last xs) s)

      module _ (spots : List Spot) (new : View) (found : in_turn (map (spot_of m) targets) now ≡ Gives spots new) where
        then_stores : assigned m variables targets es rest view ≡ giving (on_with rest) (each_stored (side_by_side spots xs) variables new)
        then_stores = then_spots ∙ ap (λ a. then_do a (last xs)) found ∙ last_is xs spots new

        pub stores_there : assigned m variables targets es rest view ≢ Amiss → each_stored (side_by_side spots xs) variables new ≢ Amiss
        stores_there h a = h (then_stores ∙ ap (giving (on_with rest)) a)

        pub stores_stop : (stop : Stop) → Stops stop (each_stored (side_by_side spots xs) variables new) → Stops stop (assigned m variables targets es rest view)
        stores_stop stop s =
            let P : Answer Did → Type 0 = Stops stop in subst P (sym then_stores) (giving_stops stop (each_stored (side_by_side spots xs) variables new) (on_with rest) s)

        pub stores_goes : (variables2 : Variables) → each_stored (side_by_side spots xs) variables new ≡ Gives variables2 new → assigned m variables targets es rest view ≡ Gives (On variables2 rest) new
        stores_goes variables2 e = then_stores ∙ ap (giving (on_with rest)) e

pub ruleset assigning = (values_there, values_stop, spread_there, spots_there, spots_stop, stores_there, stores_stop, stores_goes)
