-- Where a value may stand along a path, a store comes to a value or a named fault.
use Rattle.std.proofs.Common.{◌≡◌, ◌<◌, ℕ, zero, suc, ℤ, pos, negsuc, Bool, true, false, ◌&&◌, IsTrue, cond, Option, None, Some, List, [], ◌∷◌, length, slice_get, is_some, is_none, nat_lt, not, refl, arith}
use Rattle.std.proofs.lemmas.Bool.{false≢true, and_parts}
use Rattle.std.proofs.lemmas.Bool.Decides.{nat_tests}
use Rattle.std.specs.List.{list_all}
use Rattle.chi_value.specs.declared.value.TheConstants.{MOST_ELEMENTS}
use Rattle.chi_value.specs.declared.value.Value.{Value, Value-F, out-Value}
use Rattle.chi_value.specs.declared.value.Value.TheVariants as value
use Rattle.chi_value.specs.Alike.{alike}
use Rattle.chi_sets.specs.Dictionaries.{keys, values, value_at}
use Rattle.chi_ops.specs.Conditions.{is_key}
use Rattle.chi_ops.specs.Kinds.{is_int}
use Rattle.chi_ops.specs.Outcome.{Outcome, gives, faults, wrong, is_wrong, outcome_map}
use Rattle.chi_ops.specs.Places.{place_of}
use Rattle.chi_ops.specs.Store.{Step, by, part, fits_along, may_put, changed_at, change_place, change_key, store_key, stored, put}
use Rattle.chi_ops.specs.Tidy.{tidy}
use Rattle.chi_ops.proofs.StoreLaws.{holds_at, holds_of_value}
use Rattle.chi_ops.proofs.NeverWrong.{cond_right, right_where}

mapped_right : (g : Value → Value) (o : Outcome) → is_wrong o ≡ false → is_wrong (outcome_map g o) ≡ false
mapped_right g (gives v) h = refl
mapped_right g (faults fault) h = refl
mapped_right g wrong h = h

is_there : (xs : List Value) (k : ℕ) → k < length xs → is_some (slice_get xs k) ≡ true
is_there [] k h = absurd (omega (arith, h))
is_there (x ∷ xs) zero h = refl
is_there (x ∷ xs) (suc k) h = let less : k < length xs = omega (arith, h) in is_there xs k less

some_below : (size n place : ℕ) (b : Bool) (named : ℕ) → nat_lt n size ≡ b → (n < size → named < size) → cond b (Some named) None ≡ Some place → place < size
some_below size n place true named test near is =
    let less : n < size = grind (arith, nat_tests) in
    let below = near less in
    let same : named ≡ place = (cc) in
    omega (arith, below, same)
some_below size n place false named test near is = absurd (cc)

inside : (size : ℕ) (i : ℤ) (place : ℕ) → place_of size i ≡ Some place → place < size
inside size (pos n) place is = some_below size n place (nat_lt n size) n refl (λ less. less) is
inside size (negsuc n) place is = some_below size n place (nat_lt n size) _ refl (λ less. omega (arith, less)) is

-- a step into each kind of container, where what stands there is stored into

module _ (path : List Step) (x : Value) (on : (v : Value) → fits_along path x v ≡ true → is_wrong (stored path x v) ≡ false) where
  item_right : (made : List Value → Value) (items : List Value) (place : ℕ) → list_all (fits_along path x) items ≡ true →
      (o : Option Value) → slice_get items place ≡ o → is_some o ≡ true → is_wrong (changed_at made items (stored path x) place o) ≡ false
  item_right made items place all None is there = absurd (false≢true there)
  item_right made items place all (Some item) is there =
      mapped_right _ (stored path x item) (on item (holds_at (fits_along path x) items place item all is))

  place_right : (items : List Value) (i : ℤ) → list_all (fits_along path x) items ≡ true → (o : Option ℕ) → place_of (length items) i ≡ o →
      is_wrong (change_place items (stored path x) o) ≡ false
  place_right items i all None is = refl
  place_right items i all (Some place) is =
      item_right value.ListOf items place all (slice_get items place) refl (is_there items place (inside (length items) i place is))

  value_right : (items : List Value) (key : Value) → list_all (fits_along path x) (values items) ≡ true → (o : Option Value) →
      value_at items key ≡ o → is_wrong (change_key items key (stored path x) o) ≡ false
  value_right items key all None is = refl
  value_right items key all (Some has) is =
      mapped_right _ (stored path x has) (on has (holds_of_value (fits_along path x) items key has all is))

  part_right : (parts : List Value) (k : ℕ) (o : Option Value) → elim o [ None ↦ false | Some p ↦ fits_along path x p ] ≡ true →
      is_wrong (changed_at value.TupleOf parts (stored path x) k o) ≡ false
  part_right parts k None h = absurd (false≢true h)
  part_right parts k (Some own) h = mapped_right _ (stored path x own) (on own h)

key_right : (path : List Step) (x key : Value) (items : List Value) → ((v : Value) → fits_along path x v ≡ true → is_wrong (stored path x v) ≡ false) →
    list_all (fits_along path x) (values items) ≡ true → is_wrong (store_key path items key x (stored path x)) ≡ false
key_right [] x key items on all = cond_right (is_none (value_at items key) && not (nat_lt (length items) MOST_ELEMENTS)) _ _ refl refl
key_right (step ∷ path) x key items on all = value_right (step ∷ path) x on items key all (value_at items key) refl

-- a step, by what it meets

by_right : (path : List Step) (x v i : Value) → ((w : Value) → fits_along path x w ≡ true → is_wrong (stored path x w) ≡ false) →
    fits_along (by i ∷ path) x v ≡ true → (layer : Value-F Value) → out-Value v ≡ layer → (key : Value-F Value) → out-Value i ≡ key →
    is_wrong (stored (by i ∷ path) x v) ≡ false
by_right path x v i on h (Value-F.ListOf items) out (Value-F.Int number) is =
    let fits = and_parts (is_int i) (list_all (fits_along path x) items) (rw (out, fits_along) at h) in
    rw (out, is, stored) (place_right path x on items number fits.1 (place_of (length items) number) refl)
by_right path x v i on h (Value-F.ListOf items) out _ is =
    let fits = and_parts (is_int i) (list_all (fits_along path x) items) (rw (out, fits_along) at h) in
    absurd (false≢true (rw (is, is_int) at fits.0))
by_right path x v i on h (Value-F.DictOf items) out key is =
    let fits = and_parts (is_key i && list_all (alike i) (keys items)) (list_all (fits_along path x) (values items)) (rw (out, fits_along) at h) in
    rw (out, stored) (key_right path x i items on fits.1)
by_right path x v i on h _ out key is = absurd (false≢true (rw (out, fits_along) at h))

at_part_right : (path : List Step) (x v : Value) (k : ℕ) → ((w : Value) → fits_along path x w ≡ true → is_wrong (stored path x w) ≡ false) →
    fits_along (part k ∷ path) x v ≡ true → (layer : Value-F Value) → out-Value v ≡ layer → is_wrong (stored (part k ∷ path) x v) ≡ false
at_part_right path x v k on h (Value-F.TupleOf parts) out =
    rw (out, stored) (part_right path x on parts k (slice_get parts k) (rw (out, fits_along) at h))
at_part_right path x v k on h _ out = absurd (false≢true (rw (out, fits_along) at h))

stored_right : (path : List Step) (x v : Value) → fits_along path x v ≡ true → is_wrong (stored path x v) ≡ false
stored_right [] x v h = refl
stored_right (by i ∷ path) x v h = by_right path x v i (stored_right path x) h (out-Value v) refl (out-Value i) refl
stored_right (part k ∷ path) x v h = at_part_right path x v k (stored_right path x) h (out-Value v) refl

pub put_right : (path : List Step) (x v : Value) → IsTrue (may_put path x v) → is_wrong (put path x v) ≡ false
put_right path x v h = right_where (may_put path x v) (stored path x v) h (stored_right path x v (and_parts (tidy x && tidy v) (fits_along path x v) h).1)
