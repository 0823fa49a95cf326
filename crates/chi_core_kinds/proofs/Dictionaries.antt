-- Operations on dictionaries.
use Rattle.std.proofs.Common.{◌≡◌, true, Option, None, List, [], ◌∷◌, ◌++◌, length, IsTrue, Some, refl, sym, ap, subst, arith}
use Rattle.std.proofs.lemmas.Bool.{and_from}
use Rattle.std.specs.Prelude.{not, find, option_and_then}
use Rattle.std.specs.List.{list_all}
use Rattle.chi_types.specs.declared.ty.Ty.{Ty, Ty-F, out-Ty}
use Rattle.chi_types.specs.declared.ty.Ty.TheVariants as ty
use Rattle.chi_types.specs.Plain.{is_plain}
use Rattle.chi_value.specs.declared.value.Value.{Value, Value-F, out-Value}
use Rattle.chi_value.specs.declared.value.Value.TheVariants as value
use Rattle.chi_value.specs.Alike.{alike}
use Rattle.chi_sets.specs.Dictionaries as entries
use Rattle.chi_sets.specs.Dictionaries.{ascending_by_key, by_key, key_in, key_of, value_in, value_of, key_among, keys, values, value_at, has_key}
use Rattle.chi_sets.proofs.Ascending.{tail_ascends}
use Rattle.chi_sets.proofs.DictionaryLaws.{dictionary_of_ascends, minus_keys_ascends}
use Rattle.chi_sets.proofs.Orders.{by_key_total}
use Rattle.chi_ops.specs.Conditions.{may_has, may_hold, takes_key, are_keys_alike}
use Rattle.chi_ops.specs.Kinds.{is_sorted, is_container, is_dictionary}
use Rattle.chi_ops.specs.Operations.{has as is_in, lookup, union, minus_keys, keys_of, values_of, pop, entry_and_rest, entry_and_others}
use Rattle.chi_ops.specs.Outcome.{key_fault}
use Rattle.chi_core.specs.Comparisons.{tells}
use Rattle.chi_core.specs.Containers.{done}
use Rattle.chi_core.specs.Kinds.{Every, entry_of, tuple_of}
use Rattle.chi_core.specs.Of.{World, IsShort, IsOf}
use Rattle.chi_core.proofs.Alikes.{each_passes}
use Rattle.chi_core.proofs.Tidied.{tidy_of}
use Rattle.chi_core_kinds.specs.Laws.{WellOf}
use Rattle.chi_core_kinds.proofs.Comparisons.{well_tells_if}
use Rattle.chi_core_kinds.proofs.Composing.{every_append}
use Rattle.chi_core_kinds.proofs.Conditions.{peers, key_is, alike_to_all, plain_kind, entry_is, value_there, keys_are, values_are}
use Rattle.chi_core_kinds.proofs.Elements.{every_filter, every_in_order, every_tail, length_filter, length_chosen, found_is}
use Rattle.chi_core_kinds.proofs.Shapes.{set_is, dictionary_is, a_list, a_dictionary, a_triple, of_type, few, well_where, well_within, well_done, well_or}

module _ (w : World) where
  member_known : (d x : Value) (items : List Value) → out-Value d ≡ Value-F.DictOf items → may_has d x ≡ true → WellOf w Ty-F.Bool (tells (is_in d x))
  member_known d x items is may = well_tells_if w _ _ (entries.has items x) may (rw is refl)

-- what a key has is of the kind of values
pub value_found : (w : World) (key has : Ty) (items : List Value) (k v : Value) → Every (IsOf w (entry_of key has)) items → value_at items k ≡ Some v → IsOf w (out-Ty has) v
value_found w key has items k v each e = decided (find (has_key k) items) (found_is (IsOf w (entry_of key has)) (has_key k) items each) e
  where
    decided : (o : Option Value) → ((x : Value) → o ≡ Some x → IsOf w (entry_of key has) x) → option_and_then value_of o ≡ Some v → IsOf w (out-Ty has) v
    decided None is same = absurd (cc)
    decided (Some x) is same = value_there w key has x v (is x refl) same

module _ (w : World) (key has : Ty) where
  pub well_unite : (a b : Value) → IsOf w (Ty-F.DictOf key has) a → IsOf w (Ty-F.DictOf key has) b → WellOf w (Ty-F.DictOf key has) (done (union a b))
  well_unite a b h l =
      let x = dictionary_is w key has (out-Value a) h in
      let y = dictionary_is w key has (out-Value b) l in
      let both = entries.dictionary_union x.items y.items in
      well_where w (Ty-F.DictOf key has) _ _ (and_from _ _ (peers w (Ty-F.DictOf key has) a b h l) (rw (x.is, is_sorted) refl))
      (rw (x.is, y.is) (well_within w (Ty-F.DictOf key has) (length both) (value.DictOf both) (λ small.
      a_dictionary w both key has (few both small) x.plain (dictionary_of_ascends (x.items ++ y.items))
      (every_in_order (IsOf w (entry_of key has)) by_key (x.items ++ y.items) (every_append (IsOf w (entry_of key has)) x.items y.items x.each y.each)))))

  pub well_minus_keys : (d s : Value) → IsOf w (Ty-F.DictOf key has) d → IsOf w (Ty-F.SetOf key) s → WellOf w (Ty-F.DictOf key has) (done (minus_keys d s))
  well_minus_keys d s h l =
      let x = dictionary_is w key has (out-Value d) h in
      let y = set_is w key (out-Value s) l in
      let test = λ (e : Value). not (key_among y.items e) in
      let less = length_filter test x.items in
      well_where w (Ty-F.DictOf key has) _ _
      (and_from _ _ (and_from _ _ (tidy_of w d (Ty-F.DictOf key has) h) (tidy_of w s (Ty-F.SetOf key) l))
      (rw (x.is, y.is, are_keys_alike) (each_passes (λ k. list_all (alike k) y.items) (keys x.items)
      (λ n k e. alike_to_all w (out-Ty key) y.items y.each k (keys_are w key has x.items x.each n k e)))))
      (rw (x.is, y.is) (well_done w (Ty-F.DictOf key has) (value.DictOf (entries.minus_keys x.items y.items))
      (a_dictionary w (entries.minus_keys x.items y.items) key has (omega (arith, x.short, less)) x.plain (minus_keys_ascends x.items y.items x.ascending)
      (every_filter (IsOf w (entry_of key has)) test x.items x.each))))

  pub well_lookup : (d k : Value) → IsOf w (Ty-F.DictOf key has) d → IsOf w (out-Ty key) k → WellOf w (out-Ty has) (done (lookup d k))
  well_lookup d k h l =
      let x = dictionary_is w key has (out-Value d) h in
      well_where w (out-Ty has) _ _
      (and_from _ _ (and_from _ _ (tidy_of w d (Ty-F.DictOf key has) h) (key_is w (out-Ty key) (plain_kind key x.plain) k l))
      (rw (x.is, takes_key) (alike_to_all w (out-Ty key) (keys x.items) (keys_are w key has x.items x.each) k l)))
      (rw x.is (well_or w (out-Ty has) key_fault (value_at x.items k) (λ v e. value_found w key has x.items k v x.each e)))

  pub well_in_dictionary : (d k : Value) → IsOf w (Ty-F.DictOf key has) d → IsOf w (out-Ty key) k → WellOf w Ty-F.Bool (tells (is_in d k))
  well_in_dictionary d k h l =
      let x = dictionary_is w key has (out-Value d) h in
      member_known w d k x.items x.is
      (and_from _ _ (and_from _ _ (tidy_of w d (Ty-F.DictOf key has) h) (key_is w (out-Ty key) (plain_kind key x.plain) k l))
      (rw (x.is, may_hold) (alike_to_all w (out-Ty key) (keys x.items) (keys_are w key has x.items x.each) k l)))

  pub well_keys : (d : Value) → IsOf w (Ty-F.DictOf key has) d → WellOf w (Ty-F.ListOf key) (done (keys_of d))
  well_keys d h =
      let x = dictionary_is w key has (out-Value d) h in
      let less = length_chosen key_of x.items in
      well_where w (Ty-F.ListOf key) _ _ (and_from _ _ (tidy_of w d (Ty-F.DictOf key has) h) (rw (x.is, is_dictionary) refl))
      (rw x.is (well_done w (Ty-F.ListOf key) (value.ListOf (keys x.items)) (a_list w (keys x.items) key (omega (arith, x.short, less)) (keys_are w key has x.items x.each))))

  pub well_values : (d : Value) → IsOf w (Ty-F.DictOf key has) d → WellOf w (Ty-F.ListOf has) (done (values_of d))
  well_values d h =
      let x = dictionary_is w key has (out-Value d) h in
      let less = length_chosen value_of x.items in
      well_where w (Ty-F.ListOf has) _ _ (and_from _ _ (tidy_of w d (Ty-F.DictOf key has) h) (rw (x.is, is_dictionary) refl))
      (rw x.is (well_done w (Ty-F.ListOf has) (value.ListOf (values x.items)) (a_list w (values x.items) has (omega (arith, x.short, less)) (values_are w key has x.items x.each))))

  popped : (xs : List Value) → IsShort xs → IsTrue (is_plain key) → IsTrue (ascending_by_key xs) → Every (IsOf w (entry_of key has)) xs
      → WellOf w (tuple_of (key ∷ has ∷ ty.DictOf key has ∷ [])) (done (entry_and_rest xs))
  popped [] short plain up each = λ view fits. tt
  popped (e ∷ es) short plain up each =
      let found = entry_is w key has (out-Value e) (each 0 e refl) in
      subst (λ o. WellOf w (tuple_of (key ∷ has ∷ ty.DictOf key has ∷ [])) (done (entry_and_others o (value_of e) es))) (sym (ap key_in found.is))
      (subst (λ o. WellOf w (tuple_of (key ∷ has ∷ ty.DictOf key has ∷ [])) (done (entry_and_others (Some found.k) o es))) (sym (ap value_in found.is))
      (well_done w (tuple_of (key ∷ has ∷ ty.DictOf key has ∷ [])) (value.TupleOf (found.k ∷ found.h ∷ value.DictOf es ∷ []))
      (a_triple w found.k found.h (value.DictOf es) key has (ty.DictOf key has) found.its_key found.its_value
      (of_type w (ty.DictOf key has) (Ty-F.DictOf key has) (value.DictOf es) (ty.outs-DictOf key has)
      (a_dictionary w es key has (omega (arith, short)) plain (tail_ascends by_key by_key_total e es up) (every_tail (IsOf w (entry_of key has)) e es each))))))

  pub well_pop_dictionary : (d : Value) → IsOf w (Ty-F.DictOf key has) d → WellOf w (tuple_of (key ∷ has ∷ ty.DictOf key has ∷ [])) (done (pop d))
  well_pop_dictionary d h =
      let x = dictionary_is w key has (out-Value d) h in
      well_where w (tuple_of (key ∷ has ∷ ty.DictOf key has ∷ [])) _ _ (and_from _ _ (tidy_of w d (Ty-F.DictOf key has) h) (rw (x.is, is_container) refl))
      (rw x.is (popped x.items x.short x.plain x.ascending x.each))
