-- One instance that is changed.
use Rattle.std.proofs.Common.{◌≡◌, ◌≢◌, ℕ, zero, suc, ◌<◌, List, [], ◌∷◌, Some, Bool, length, sym, ◌∙◌, ap, refl, arith}
use Rattle.std.specs.Prelude.{map, slice_set}
use Rattle.std.specs.List.{slice_get}
use Rattle.std.proofs.Math.ListN.{length-set}
use Rattle.std.proofs.lemmas.List.{length-map}
use Rattle.chi_core.specs.Config.{Instance, has_finished}
use Rattle.chi_plain_steps.specs.Configurations.{IsKept}

pub map-set : {A B : Type 0} (f : A → B) (xs : List A) (k : ℕ) (x : A) → map f (slice_set xs k x) ≡ slice_set (map f xs) k (f x)
map-set f [] k x = refl
map-set f (y ∷ ys) zero x = refl
map-set f (y ∷ ys) (suc k) x = ap (λ l. f y ∷ l) (map-set f ys k x)

-- the flag of the instance is set with it
pub kept-set : (is js : List Instance) (flags new : List Bool) (p : ℕ) (i : Instance) (flag : Bool) → IsKept is flags → js ≡ slice_set is p i → new ≡ slice_set flags p flag
    → flag ≡ has_finished i → IsKept js new
kept-set is js flags new p i flag kept at set e = record {
  few = omega (arith, kept.few, ap length at, length-set is p i);
  flags = set ∙ (λ k. slice_set (kept.flags k) p (e k)) ∙ sym (map-set has_finished is p i) ∙ sym (ap (map has_finished) at);
}

pub kept-length : (is : List Instance) (flags : List Bool) → IsKept is flags → length flags ≡ length is
kept-length is flags kept = ap length kept.flags ∙ length-map is has_finished

pub slice_get-set_same : {A : Type 0} (xs : List A) (k : ℕ) (x : A) → k < length xs → slice_get (slice_set xs k x) k ≡ Some x
slice_get-set_same [] k x h = absurd (omega arith)
slice_get-set_same (y ∷ ys) zero x h = refl
slice_get-set_same (y ∷ ys) (suc k) x h = slice_get-set_same ys k x (omega arith)

pub slice_get-set_other : {A : Type 0} (xs : List A) (j k : ℕ) (x : A) → j ≢ k → slice_get (slice_set xs j x) k ≡ slice_get xs k
slice_get-set_other [] j k x others = refl
slice_get-set_other (y ∷ ys) zero zero x others = absurd (others refl)
slice_get-set_other (y ∷ ys) zero (suc k) x others = refl
slice_get-set_other (y ∷ ys) (suc j) zero x others = refl
slice_get-set_other (y ∷ ys) (suc j) (suc k) x others = slice_get-set_other ys j k x (λ e. others (ap suc e))

pub ruleset changes = (kept-set, kept-length)
