-- What is tidy, by the outermost kind.
use Rattle.std.proofs.Common.{◌≡◌, Bool, true, false, ◌&&◌, List, [], ◌∷◌, map, refl, sym, ap, ◌∙◌}
use Rattle.std.specs.List.{list_all}
use Rattle.chi_value.specs.declared.value.Value.{Value, Value-F, map-Value, para-roll-Value, out-Value, roll-out-Value}
use Rattle.chi_value.specs.declared.value.Value.TheVariants as value
use Rattle.chi_value.specs.Alike.{uniform, uniform_step, all_alike, part_itself, part_holds}
use Rattle.chi_ops.specs.Tidy.{tidy, all_tidy, sorted, sorted_step, is_set_list, is_dictionary_list}

abbrev beside : (Value → Bool) → Value → Value × Bool
beside f v = (v, f v)

all_held : (f : Value → Bool) (xs : List Value) → list_all part_holds (map (beside f) xs) ≡ list_all f xs
all_held f [] = refl
all_held f (x ∷ xs) = ap (λ rest. f x && rest) (all_held f xs)

themselves : (f : Value → Bool) (xs : List Value) → map part_itself (map (beside f) xs) ≡ xs
themselves f [] = refl
themselves f (x ∷ xs) = ap (λ rest. x ∷ rest) (themselves f xs)

-- two tests of each are both tests of all

swapped : (a b p q : Bool) → ((a && p) && (b && q)) ≡ ((a && b) && (p && q))
swapped true true p q = refl
swapped true false true q = refl
swapped true false false q = refl
swapped false b p q = refl

last_out : (a b p : Bool) → ((a && p) && b) ≡ ((a && b) && p)
last_out true true true = refl
last_out true true false = refl
last_out true false true = refl
last_out true false false = refl
last_out false b p = refl

all_two : (xs : List Value) → (list_all uniform xs && list_all sorted xs) ≡ all_tidy xs
all_two [] = refl
all_two (x ∷ xs) = swapped (uniform x) (sorted x) (list_all uniform xs) (list_all sorted xs) ∙ ap (λ rest. tidy x && rest) (all_two xs)

uniform_at : (v : Value) (o : Value-F Value) → out-Value v ≡ o → uniform v ≡ uniform_step (map-Value Value (Value × Bool) (beside uniform) o)
uniform_at v o h =
    ap uniform (sym (roll-out-Value v)) ∙ para-roll-Value Bool uniform_step (out-Value v) ∙ ap (λ o. uniform_step (map-Value _ _ (beside uniform) o)) h

sorted_at : (v : Value) (o : Value-F Value) → out-Value v ≡ o → sorted v ≡ sorted_step (map-Value Value (Value × Bool) (beside sorted) o)
sorted_at v o h =
    ap sorted (sym (roll-out-Value v)) ∙ para-roll-Value Bool sorted_step (out-Value v) ∙ ap (λ o. sorted_step (map-Value _ _ (beside sorted) o)) h

elements_are : (xs : List Value) → (list_all part_holds (map (beside uniform) xs) && all_alike (map part_itself (map (beside uniform) xs))) ≡
    (list_all uniform xs && all_alike xs)
elements_are xs = λ i. all_held uniform xs i && all_alike (themselves uniform xs i)

-- tidy, at a layer whose parts are values
abbrev pub tidy_layer : Value-F Value → Bool
tidy_layer (Value-F.TupleOf xs) = all_tidy xs
tidy_layer (Value-F.ListOf xs) = all_tidy xs && all_alike xs
tidy_layer (Value-F.SetOf xs) = all_tidy xs && (all_alike xs && is_set_list xs)
tidy_layer (Value-F.DictOf xs) = all_tidy xs && (all_alike xs && is_dictionary_list xs)
tidy_layer _ = true

tidy_layers : (v : Value) (o : Value-F Value) → uniform v ≡ uniform_step (map-Value Value (Value × Bool) (beside uniform) o) →
    sorted v ≡ sorted_step (map-Value Value (Value × Bool) (beside sorted) o) → tidy v ≡ tidy_layer o
tidy_layers v (Value-F.TupleOf xs) h k = (λ i. h i && k i) ∙ (λ i. all_held uniform xs i && all_held sorted xs i) ∙ all_two xs
tidy_layers v (Value-F.ListOf xs) h k =
    (λ i. h i && k i) ∙ (λ i. elements_are xs i && all_held sorted xs i) ∙ last_out (list_all uniform xs) (list_all sorted xs) (all_alike xs) ∙
    ap (λ all. all && all_alike xs) (all_two xs)
tidy_layers v (Value-F.SetOf xs) h k =
    (λ i. h i && k i) ∙ (λ i. elements_are xs i && (all_held sorted xs i && is_set_list (themselves sorted xs i))) ∙
    swapped (list_all uniform xs) (list_all sorted xs) (all_alike xs) (is_set_list xs) ∙
    ap (λ all. all && (all_alike xs && is_set_list xs)) (all_two xs)
tidy_layers v (Value-F.DictOf xs) h k =
    (λ i. h i && k i) ∙ (λ i. elements_are xs i && (all_held sorted xs i && is_dictionary_list (themselves sorted xs i))) ∙
    swapped (list_all uniform xs) (list_all sorted xs) (all_alike xs) (is_dictionary_list xs) ∙
    ap (λ all. all && (all_alike xs && is_dictionary_list xs)) (all_two xs)
tidy_layers v _ h k = λ i. h i && k i

pub tidy_at : (v : Value) (o : Value-F Value) → out-Value v ≡ o → tidy v ≡ tidy_layer o
tidy_at v o h = tidy_layers v o (uniform_at v o h) (sorted_at v o h)

pub tidy_is : (v : Value) → tidy v ≡ tidy_layer (out-Value v)
tidy_is v = tidy_at v (out-Value v) refl

-- each kind of container, whose elements are tidy or not

pub tuple_is : (v : Value) (xs : List Value) (r : Bool) → v ≡ value.TupleOf xs → r ≡ all_tidy xs → r ≡ tidy v
tuple_is v xs r is h = h ∙ sym (tidy_at v (Value-F.TupleOf xs) (ap out-Value is ∙ value.outs-TupleOf xs))

pub list_is : (v : Value) (xs : List Value) (all r : Bool) → v ≡ value.ListOf xs → all_tidy xs ≡ all → r ≡ (all && all_alike xs) → r ≡ tidy v
list_is v xs all r is h k =
    k ∙ ap (λ all. all && all_alike xs) (sym h) ∙ sym (tidy_at v (Value-F.ListOf xs) (ap out-Value is ∙ value.outs-ListOf xs))

pub set_is : (v : Value) (xs : List Value) (all r : Bool) → v ≡ value.SetOf xs → all_tidy xs ≡ all → r ≡ (all && (all_alike xs && is_set_list xs)) → r ≡ tidy v
set_is v xs all r is h k =
    k ∙ ap (λ all. all && (all_alike xs && is_set_list xs)) (sym h) ∙ sym (tidy_at v (Value-F.SetOf xs) (ap out-Value is ∙ value.outs-SetOf xs))

pub dictionary_is : (v : Value) (xs : List Value) (all r : Bool) → v ≡ value.DictOf xs → all_tidy xs ≡ all →
    r ≡ (all && (all_alike xs && is_dictionary_list xs)) → r ≡ tidy v
dictionary_is v xs all r is h k =
    k ∙ ap (λ all. all && (all_alike xs && is_dictionary_list xs)) (sym h) ∙ sym (tidy_at v (Value-F.DictOf xs) (ap out-Value is ∙ value.outs-DictOf xs))
