-- Values that go to spots, one after another.
use Rattle.std.proofs.Common.{◌≡◌, ◌≢◌, ◌<◌, ◌≤◌, List, [], ◌∷◌, ◌++◌, Option, Some, None, length, ap, sym, subst, refl, ◌∙◌, arith}
use Rattle.std.specs.Prelude.{option_map, reverse}
use Rattle.std.proofs.lemmas.List.{reverse-append, reverse-reverse}
use Rattle.chi_value.specs.declared.value.Value.{Value}
use Rattle.chi_core.specs.declared.target.CTarget.{CTarget}
use Rattle.chi_core.specs.declared.view.View.{View}
use Rattle.chi_core.specs.Answer.{Answer, Gives, Amiss, then_do}
use Rattle.chi_core.specs.Reading.{parts_of}
use Rattle.chi_core.specs.Spots.{Spot, store}
use Rattle.chi_core.specs.Terms.{spread}
use Rattle.chi_core.specs.Variables.{Variables, side_by_side}
use Rattle.chi_core_frame.specs.declared.stop.Stop.{Stop}
use Rattle.chi_core_frame.specs.Assignments.{each_stored}
use Rattle.chi_core_frame.specs.Stops.{Stops}
use Rattle.chi_core_frame.proofs.Stopping.{then_stops}

pub spread_few : (targets : List CTarget) (values : List Value) → length targets < 2 → spread targets values ≡ Some values
spread_few [] values h = refl
spread_few (t ∷ []) values h = refl
spread_few (t ∷ u ∷ ts) values h = absurd (omega arith)

pub spread_many : (targets : List CTarget) (values : List Value) → length values ≢ 1 → spread targets values ≡ Some values
spread_many [] values h = refl
spread_many (t ∷ []) values h = refl
spread_many (t ∷ u ∷ ts) [] h = refl
spread_many (t ∷ u ∷ ts) (x ∷ []) h = absurd (h refl)
spread_many (t ∷ u ∷ ts) (x ∷ y ∷ values) h = refl

pub spread_tuple : (targets : List CTarget) (values front : List Value) (x : Value) → 2 ≤ length targets → length values ≡ 1 → values ≡ front ++ x ∷ [] → spread targets values ≡ parts_of x
spread_tuple [] values front x h one e = absurd (omega arith)
spread_tuple (t ∷ []) values front x h one e = absurd (omega arith)
spread_tuple (t ∷ u ∷ ts) [] front x h one e = absurd (omega arith)
spread_tuple (t ∷ u ∷ ts) (y ∷ z ∷ values) front x h one e = absurd (omega arith)
spread_tuple (t ∷ u ∷ ts) (y ∷ []) [] x h one e = let same : y ≡ x = cc in ap parts_of same
spread_tuple (t ∷ u ∷ ts) (y ∷ []) (z ∷ front) x h one e = absurd (longer front (cc))
  where
    longer : (l : List Value) → [] ≡ l ++ x ∷ [] → ⊥
    longer [] e = absurd (cc)
    longer (a ∷ l) e = absurd (cc)

-- one after another
module _ (s : Spot) (x : Value) (others : List Spot) (rest : List Value) (variables : Variables) (view : View) where
  at : (o : Option (List (Spot × Value))) → each_stored (option_map (λ stores. (s, x) ∷ stores) o) variables view ≢ Amiss
      → each_stored (option_map (λ stores. (s, x) ∷ stores) o) variables view ≡ then_do (store (s, x) variables view) (each_stored o)
  at None h = absurd (h refl)
  at (Some stores) h = refl

  first_is : each_stored (side_by_side (s ∷ others) (x ∷ rest)) variables view ≢ Amiss
      → each_stored (side_by_side (s ∷ others) (x ∷ rest)) variables view ≡ then_do (store (s, x) variables view) (each_stored (side_by_side others rest))
  first_is h = at (side_by_side others rest) h

  pub first_there : each_stored (side_by_side (s ∷ others) (x ∷ rest)) variables view ≢ Amiss → store (s, x) variables view ≢ Amiss
  first_there h a = h (first_is h ∙ ap (λ a. then_do a (each_stored (side_by_side others rest))) a)

  pub first_goes : (new : Variables) → each_stored (side_by_side (s ∷ others) (x ∷ rest)) variables view ≢ Amiss → store (s, x) variables view ≡ Gives new view
      → each_stored (side_by_side (s ∷ others) (x ∷ rest)) variables view ≡ each_stored (side_by_side others rest) new view
  first_goes new h e = first_is h ∙ ap (λ a. then_do a (each_stored (side_by_side others rest))) e

  pub first_stops : (stop : Stop) → each_stored (side_by_side (s ∷ others) (x ∷ rest)) variables view ≢ Amiss → Stops stop (store (s, x) variables view)
      → Stops stop (each_stored (side_by_side (s ∷ others) (x ∷ rest)) variables view)
  first_stops stop h st = let P : Answer Variables → Type 0 = Stops stop in subst P (sym (first_is h)) (then_stops stop (store (s, x) variables view) (each_stored (side_by_side others rest)) st)

pub none_left : (s : Spot) (others : List Spot) (variables : Variables) (view : View) → each_stored (side_by_side (s ∷ others) []) variables view ≢ Amiss → ⊥
none_left s others variables view h = h refl

pub over_is : (left : List Value) (variables : Variables) (view : View) → each_stored (side_by_side [] left) variables view ≢ Amiss → each_stored (side_by_side [] left) variables view ≡ Gives variables view
over_is [] variables view h = refl
over_is (x ∷ left) variables view h = absurd (h refl)

pub turned : (values rest : List Value) (x : Value) → values ≡ rest ++ x ∷ [] → reverse values ≡ x ∷ reverse rest
turned values rest x e = ap reverse e ∙ reverse-append rest (x ∷ [])

pub back : (values left : List Value) → left ≡ reverse values → reverse left ≡ values
back values left e = ap reverse e ∙ reverse-reverse values

pub ruleset spreading = (spread_few, spread_many, spread_tuple)

pub ruleset storing = (first_there, first_goes, first_stops, none_left, over_is, turned, back)
