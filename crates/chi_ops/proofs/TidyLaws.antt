-- What tidy sets and dictionaries are.
use Rattle.std.proofs.Common.{◌≡◌, Bool, true, ◌&&◌, IsTrue, List, [], ◌∷◌, map, refl, sym, ap, ◌∙◌}
use Rattle.std.proofs.lemmas.Bool.{and_parts}
use Rattle.std.specs.List.{list_all}
use Rattle.chi_value.specs.declared.value.Value.{Value, Value-F, map-Value, para-roll-Value, out-Value, roll-out-Value}
use Rattle.chi_value.specs.declared.value.Value.TheVariants as value
use Rattle.chi_value.specs.Alike.{uniform, alike, part_itself, part_holds}
use Rattle.chi_value.specs.Plain.{is_plain}
use Rattle.chi_sets.specs.Sets.{is_ascending}
use Rattle.chi_sets.specs.Dictionaries.{are_entries, ascending_by_key, keys}
use Rattle.chi_ops.specs.Conditions.{are_peers}
use Rattle.chi_ops.specs.Tidy.{tidy, sorted, sorted_step, is_set_list, is_dictionary_list}

abbrev pub beside : Value → Value × Bool
beside v = (v, sorted v)

-- the outermost decides, with what is known of the parts
pub sorted_at : (v : Value) (layer : Value-F Value) → out-Value v ≡ layer → sorted v ≡ sorted_step (map-Value Value (Value × Bool) beside layer)
sorted_at v layer is =
    ap sorted (sym (roll-out-Value v)) ∙ para-roll-Value Bool sorted_step (out-Value v) ∙
    ap (λ l. sorted_step (map-Value Value (Value × Bool) beside l)) is

themselves : (xs : List Value) → map part_itself (map beside xs) ≡ xs
themselves [] = refl
themselves (x ∷ xs) = ap (λ rest. x ∷ rest) (themselves xs)

tidy_parts : (v : Value) → IsTrue (tidy v) → (uniform v ≡ true) × (sorted v ≡ true)
tidy_parts v h = and_parts (uniform v) (sorted v) h

pub set_list : (v : Value) (items : List Value) → v ≡ value.SetOf items → IsTrue (tidy v) → is_set_list items ≡ true
set_list v items is h =
    let whole = sorted_at v (Value-F.SetOf items) (ap out-Value is ∙ value.outs-SetOf items) in
    let holds = sym whole ∙ (tidy_parts v h).1 in
    ap is_set_list (sym (themselves items)) ∙
    (and_parts (list_all part_holds (map beside items)) (is_set_list (map part_itself (map beside items))) holds).1

pub dictionary_list : (v : Value) (items : List Value) → v ≡ value.DictOf items → IsTrue (tidy v) → is_dictionary_list items ≡ true
dictionary_list v items is h =
    let whole = sorted_at v (Value-F.DictOf items) (ap out-Value is ∙ value.outs-DictOf items) in
    let holds = sym whole ∙ (tidy_parts v h).1 in
    ap is_dictionary_list (sym (themselves items)) ∙
    (and_parts (list_all part_holds (map beside items)) (is_dictionary_list (map part_itself (map beside items))) holds).1

pub set_ascends : (v : Value) (items : List Value) → v ≡ value.SetOf items → IsTrue (tidy v) → IsTrue (is_ascending items)
set_ascends v items is h = (and_parts (list_all is_plain items) (is_ascending items) (set_list v items is h)).1

pub dictionary_ascends : (v : Value) (items : List Value) → v ≡ value.DictOf items → IsTrue (tidy v) → IsTrue (ascending_by_key items)
dictionary_ascends v items is h =
    (and_parts (are_entries items && list_all is_plain (keys items)) (ascending_by_key items) (dictionary_list v items is h)).1

pub dictionary_entries : (v : Value) (items : List Value) → v ≡ value.DictOf items → IsTrue (tidy v) → IsTrue (are_entries items)
dictionary_entries v items is h =
    (and_parts (are_entries items) (list_all is_plain (keys items))
    (and_parts (are_entries items && list_all is_plain (keys items)) (ascending_by_key items) (dictionary_list v items is h)).0).0

-- two values of one kind are tidy

pub peers_left : (a b : Value) (more : Bool) → IsTrue (are_peers a b && more) → IsTrue (tidy a)
peers_left a b more h = (and_parts (tidy a) (tidy b) (and_parts (tidy a && tidy b) (alike a b) (and_parts (are_peers a b) more h).0).0).0

pub peers_right : (a b : Value) (more : Bool) → IsTrue (are_peers a b && more) → IsTrue (tidy b)
peers_right a b more h = (and_parts (tidy a) (tidy b) (and_parts (tidy a && tidy b) (alike a b) (and_parts (are_peers a b) more h).0).0).1

-- the first of the facts of a condition

pub first_of_two : (v : Value) (more : Bool) → IsTrue (tidy v && more) → IsTrue (tidy v)
first_of_two v more h = (and_parts (tidy v) more h).0

pub first_of_three : (v : Value) (more others : Bool) → IsTrue ((tidy v && more) && others) → IsTrue (tidy v)
first_of_three v more others h = (and_parts (tidy v) more (and_parts (tidy v && more) others h).0).0

pub second_of_three : (v w : Value) (others : Bool) → IsTrue ((tidy v && tidy w) && others) → IsTrue (tidy w)
second_of_three v w others h = (and_parts (tidy v) (tidy w) (and_parts (tidy v && tidy w) others h).0).1
