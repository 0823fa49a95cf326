-- How many entries a dictionary has after one is set.
use Rattle.std.proofs.Common.{◌≡◌, suc, ◌+◌, ◌≤◌, Bool, true, false, cond, Option, Some, None, List, [], ◌∷◌, length, length-append, refl, ◌∙◌, arith}
use Rattle.std.specs.Prelude.{filter, find, option_and_then}
use Rattle.std.specs.Option.{option_cmp}
use Rattle.std.specs.Ordering.{is_lt, is_eq, ordering_reverse}
use Rattle.std.specs.declared.cmp.Ordering.{Ordering}
use Rattle.std.specs.declared.cmp.Ordering.TheVariants.{Less, Equal, Greater}
use Rattle.chi_value.specs.declared.value.Value.{Value}
use Rattle.chi_value.specs.Order.{order}
use Rattle.chi_sets.specs.Dictionaries.{entry, key_of, value_of, by_key, against_key, has_key, value_at, with_entry}
use Rattle.chi_sets.proofs.DictionaryLaws.{entry_key}
use Rattle.chi_sets.proofs.Orders.{by_key_total}

module _ {A : Type 0} (stands : A → Ordering) where
  -- each element is below, above or level
  length_three : (xs : List A) → length (filter (λ y. is_lt (stands y)) xs) + length (filter (λ y. is_lt (ordering_reverse (stands y))) xs) + length (filter (λ y. is_eq (stands y)) xs) ≡ length xs
  length_three [] = refl
  length_three (x ∷ xs) = decided (stands x) (length_three xs)
    where
      decided : (r : Ordering)
          → length (filter (λ y. is_lt (stands y)) xs) + length (filter (λ y. is_lt (ordering_reverse (stands y))) xs) + length (filter (λ y. is_eq (stands y)) xs) ≡ length xs
          → length (cond (is_lt r) (x ∷ filter (λ y. is_lt (stands y)) xs) (filter (λ y. is_lt (stands y)) xs))
          + length (cond (is_lt (ordering_reverse r)) (x ∷ filter (λ y. is_lt (ordering_reverse (stands y))) xs) (filter (λ y. is_lt (ordering_reverse (stands y))) xs))
          + length (cond (is_eq r) (x ∷ filter (λ y. is_eq (stands y)) xs) (filter (λ y. is_eq (stands y)) xs)) ≡ suc (length xs)
      decided Less rest = omega (arith, rest)
      decided Equal rest = omega (arith, rest)
      decided Greater rest = omega (arith, rest)

module _ {A : Type 0} (test : A → Bool) where
  found_counts : (xs : List A) (z : A) → find test xs ≡ Some z → 1 ≤ length (filter test xs)
  found_counts [] z e = absurd (cc)
  found_counts (x ∷ xs) z e = decided (test x) (found_counts xs z) e
    where
      decided : (b : Bool) → (find test xs ≡ Some z → 1 ≤ length (filter test xs)) → cond b (Some x) (find test xs) ≡ Some z → 1 ≤ length (cond b (x ∷ filter test xs) (filter test xs))
      decided true rest same = omega arith
      decided false rest other = rest other

module _ (items : List Value) (key x : Value) where
  length_parts : length (with_entry items (entry key x)) ≡ length (filter (λ y. is_lt (against_key key y)) items) + suc (length (filter (λ y. is_lt (ordering_reverse (against_key key y))) items))
  length_parts =
      length-append (filter (λ y. is_lt (by_key y (entry key x))) items) (entry key x ∷ filter (λ y. is_lt (by_key (entry key x) y)) items)
      ∙ (λ i. length (filter (λ y. is_lt (option_cmp order (key_of y) (entry_key key x i))) items) + suc (length (filter (λ y. is_lt (by_key_total.antisymm (entry key x) y i)) items)))
      ∙ (λ i. length (filter (λ y. is_lt (against_key key y)) items) + suc (length (filter (λ y. is_lt (ordering_reverse (option_cmp order (key_of y) (entry_key key x i)))) items)))

  pub length_with : length (with_entry items (entry key x)) ≤ suc (length items)
  length_with = let all = length_three (against_key key) items in let parts = length_parts in omega (arith, all, parts)

  -- where the key was there
  pub length_replaced : (v : Value) → value_at items key ≡ Some v → length (with_entry items (entry key x)) ≤ length items
  length_replaced v e = decided (find (has_key key) items) (found_counts (has_key key) items) e
    where
      decided : (o : Option Value) → ((z : Value) → o ≡ Some z → 1 ≤ length (filter (has_key key) items)) → option_and_then value_of o ≡ Some v → length (with_entry items (entry key x)) ≤ length items
      decided None some e = absurd (cc)
      decided (Some z) some e =
          let all = length_three (against_key key) items in
          let parts = length_parts in
          let one = some z refl in
          omega (arith, all, parts, one)
