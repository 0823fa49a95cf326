-- Turns of what is done for each element.
use Rattle.std.proofs.Common.{◌≡◌, ◌≢◌, ℕ, ◌+◌, ◌<◌, ◌≤◌, List, [], ◌∷◌, length, get_or, drop, sym, ◌∙◌, ap, refl, arith}
use Rattle.std.specs.Prelude.{map}
use Rattle.std.proofs.lemmas.List.{drop_more, drop_all}
use Rattle.chi_core.specs.declared.view.View.{View}
use Rattle.chi_core.specs.Answer.{Answer, Gives, Amiss, Does, then_do, through}
use Rattle.chi_core_frame.specs.declared.stop.Stop.{Stop}
use Rattle.chi_core_frame.specs.Stops.{Stops}
use Rattle.chi_plain_open.proofs.Going.{then_stops}
use Rattle.std.proofs.Common.{subst}

-- elements that are gone over in place, each of which stands for something
module _ {X Y S : Type 0} (f : X → Y) (each : Y → S → Does S) (xs : List X) (k : ℕ) (x : X) (s : S) (view : View) (whole : Answer S) where
  turn : k < length xs → x ≡ get_or xs k x → map f (drop k xs) ≡ f x ∷ map f (drop (k + 1) xs)
  turn h at = ap (map f) (drop_more xs k x h ∙ ap (λ y. y ∷ drop (k + 1) xs) (sym at))

  pub mapped_well : k < length xs → x ≡ get_or xs k x → whole ≡ through each (map f (drop k xs)) s view → whole ≢ Amiss → each (f x) s view ≢ Amiss
  mapped_well h at e well a =
      well (e ∙ ap (λ l. through each l s view) (turn h at) ∙ ap (λ m. then_do m (through each (map f (drop (k + 1) xs)))) a)

  pub mapped_more : (t : S) (now : View) → k < length xs → x ≡ get_or xs k x → whole ≡ through each (map f (drop k xs)) s view → each (f x) s view ≡ Gives t now
      → whole ≡ through each (map f (drop (k + 1) xs)) t now
  mapped_more t now h at e g =
      e ∙ ap (λ l. through each l s view) (turn h at) ∙ ap (λ m. then_do m (through each (map f (drop (k + 1) xs)))) g

  pub mapped_stops : (stop : Stop) → k < length xs → x ≡ get_or xs k x → whole ≡ through each (map f (drop k xs)) s view → Stops stop (each (f x) s view) → Stops stop whole
  mapped_stops stop h at e p =
      let P : Answer S → Type 0 = Stops stop in
      subst P (sym (e ∙ ap (λ l. through each l s view) (turn h at))) (then_stops stop (each (f x) s view) (through each (map f (drop (k + 1) xs))) p)

pub mapped_all : {X Y S : Type 0} (f : X → Y) (each : Y → S → Does S) (xs : List X) (k : ℕ) (s : S) (view : View) (whole : Answer S) → length xs ≤ k
    → whole ≡ through each (map f (drop k xs)) s view → whole ≡ Gives s view
mapped_all f each xs k s view whole h e = e ∙ ap (λ l. through each (map f l) s view) (drop_all k xs h)

-- elements that are used up
module _ {X S : Type 0} (each : X → S → Does S) (before after : List X) (x : X) (s : S) (view : View) (whole : Answer S) where
  pub moved_well : before ≡ x ∷ after → whole ≡ through each before s view → whole ≢ Amiss → each x s view ≢ Amiss
  moved_well at e well a = well (e ∙ ap (λ l. through each l s view) at ∙ ap (λ m. then_do m (through each after)) a)

  pub moved_more : (t : S) (now : View) → before ≡ x ∷ after → whole ≡ through each before s view → each x s view ≡ Gives t now → whole ≡ through each after t now
  moved_more t now at e g = e ∙ ap (λ l. through each l s view) at ∙ ap (λ m. then_do m (through each after)) g

  pub moved_stops : (stop : Stop) → before ≡ x ∷ after → whole ≡ through each before s view → Stops stop (each x s view) → Stops stop whole
  moved_stops stop at e p =
      let P : Answer S → Type 0 = Stops stop in
      subst P (sym (e ∙ ap (λ l. through each l s view) at)) (then_stops stop (each x s view) (through each after) p)

pub moved_all : {X S : Type 0} (each : X → S → Does S) (before : List X) (s : S) (view : View) (whole : Answer S) → length before ≡ 0
    → whole ≡ through each before s view → whole ≡ Gives s view
moved_all each [] s view whole h e = e
moved_all each (x ∷ xs) s view whole h e = absurd (omega arith)

-- what stands for an element is found as it is its turn
pub through_map : {X Y S : Type 0} (f : X → Y) (each : Y → S → Does S) (xs : List X) (s : S) (view : View)
    → through each (map f xs) s view ≡ through (λ x. each (f x)) xs s view
through_map f each [] s view = refl
through_map f each (x ∷ xs) s view = (λ k. then_do (each (f x) s view) (λ t now. through_map f each xs t now k))

pub ruleset mapped = (mapped_well, mapped_more, mapped_stops, mapped_all)

pub ruleset moved = (moved_well, moved_more, moved_stops, moved_all)
