-- Parts of tuples, elements of lists, and what keys have.
use Rattle.std.proofs.Common.{◌≡◌, ℕ, zero, suc, Some, List, refl, subst}
use Rattle.std.specs.Prelude.{slice_get, slice_set}
use Rattle.std.specs.Option.{option_and_then}
use Rattle.chi_types.specs.declared.ty.Ty.{Ty, Ty-F, out-Ty}
use Rattle.chi_value.specs.declared.value.Value.{Value, Value-F, out-Value}
use Rattle.chi_core.specs.Answer.{wanted}
use Rattle.chi_core.specs.Of.{World, Of, of_int, of_tuple, of_list, of_dictionary, IsOf, PartsOf, no_part, one_part}
use Rattle.chi_core.specs.Reading.{part_of, parts_in}
use Rattle.chi_core.specs.Spots.{element_by}
use Rattle.chi_core_kinds.specs.Laws.{WellOf}
use Rattle.chi_core_kinds.proofs.Composing.{well_wanted}
use Rattle.chi_core_kinds.proofs.Dictionaries.{well_lookup}
use Rattle.chi_core_kinds.proofs.Sequences.{well_index_list}

-- parts of tuples

pub record TupleIs (w : World) (parts : List (List ℕ × Ty)) (x : Value-F Value) : Type 0 where
  pub items : List Value
  pub is : x ≡ Value-F.TupleOf items
  pub are : PartsOf w items parts

pub tuple_is : (w : World) (parts : List (List ℕ × Ty)) (x : Value-F Value) → Of w x (Ty-F.TupleOf parts) → TupleIs w parts x
tuple_is w _ _ (of_tuple xs parts are) = record { items = xs; is = refl; are = are }

pub part_there : (w : World) (xs : List Value) (parts : List (List ℕ × Ty)) → PartsOf w xs parts → (k : ℕ) (p : List ℕ × Ty) → slice_get parts k ≡ Some p
    → (x : Value) × (slice_get xs k ≡ Some x) × IsOf w (out-Ty p.1) x
part_there w _ _ no_part k p e = absurd (cc)
part_there w _ _ (one_part x xs q parts is are) zero p e = let same : q ≡ p = cc in (x, refl, subst (λ r. IsOf w (out-Ty r.1) x) same is)
part_there w _ _ (one_part x xs q parts is are) (suc k) p e = part_there w xs parts are k p e

pub parts_set : (w : World) (xs : List Value) (parts : List (List ℕ × Ty)) → PartsOf w xs parts → (k : ℕ) (p : List ℕ × Ty) → slice_get parts k ≡ Some p → (y : Value) → IsOf w (out-Ty p.1) y
    → PartsOf w (slice_set xs k y) parts
parts_set w _ _ no_part k p e y is = absurd (cc)
parts_set w _ _ (one_part x xs q parts was are) zero p e y is = let same : p ≡ q = cc in one_part y xs q parts (subst (λ r. IsOf w (out-Ty r.1) y) same is) are
parts_set w _ _ (one_part x xs q parts was are) (suc k) p e y is = one_part x (slice_set xs k y) q parts was (parts_set w xs parts are k p e y is)

part_in : (w : World) (parts : List (List ℕ × Ty)) (x : Value-F Value) → Of w x (Ty-F.TupleOf parts) → (k : ℕ) (p : List ℕ × Ty) → slice_get parts k ≡ Some p
    → (v : Value) × (option_and_then (λ items. slice_get items k) (parts_in x) ≡ Some v) × IsOf w (out-Ty p.1) v
part_in w _ _ (of_tuple xs parts are) k p e = part_there w xs parts are k p e

pub well_part : (w : World) (v : Value) (parts : List (List ℕ × Ty)) (number : ℕ) (p : List ℕ × Ty) → IsOf w (Ty-F.TupleOf parts) v → slice_get parts number ≡ Some p
    → WellOf w (out-Ty p.1) (wanted (part_of v number))
well_part w v parts number p h e =
    let found = part_in w parts (out-Value v) h number p e in
    well_wanted w (λ u x. IsOf u (out-Ty p.1) x) (part_of v number) found.0 found.1 found.2

-- elements

element_layer : (w : World) (v i : Value) (t : Ty) (x y : Value-F Value) → Of w x (Ty-F.ListOf t) → Of w y Ty-F.Int → IsOf w (Ty-F.ListOf t) v → WellOf w (out-Ty t) (element_by v x i y)
element_layer w v i _ _ _ (of_list xs t short each) (of_int n) h = well_index_list w t v n h

pub well_element : (w : World) (v i : Value) (t : Ty) → IsOf w (Ty-F.ListOf t) v → IsOf w Ty-F.Int i → WellOf w (out-Ty t) (element_by v (out-Value v) i (out-Value i))
well_element w v i t h l = element_layer w v i t (out-Value v) (out-Value i) h l h

entry_layer : (w : World) (v i : Value) (key has : Ty) (x y : Value-F Value) → Of w x (Ty-F.DictOf key has) → IsOf w (Ty-F.DictOf key has) v → IsOf w (out-Ty key) i
    → WellOf w (out-Ty has) (element_by v x i y)
entry_layer w v i _ _ _ y (of_dictionary xs key has short plain ascending each) h l = well_lookup w key has v i h l

pub well_entry : (w : World) (v i : Value) (key has : Ty) → IsOf w (Ty-F.DictOf key has) v → IsOf w (out-Ty key) i → WellOf w (out-Ty has) (element_by v (out-Value v) i (out-Value i))
well_entry w v i key has h l = entry_layer w v i key has (out-Value v) (out-Value i) h h l
