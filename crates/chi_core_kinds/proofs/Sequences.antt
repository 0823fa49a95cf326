-- Operations on lists and strings.
use Rattle.std.proofs.Common.{◌≡◌, ℕ, ◌+◌, ◌≤◌, ℤ, Option, None, Some, List, [], ◌∷◌, ◌++◌, length, refl, subst, length-append, arith}
use Rattle.std.proofs.lemmas.Bool.{and_from, le-leb}
use Rattle.std.proofs.lemmas.List.Edits.{length-insert}
use Rattle.std.specs.Prelude.{slice_get, insert, remove, option_map, option_and_then}
use Rattle.chi_types.specs.declared.ty.Ty.{Ty, Ty-F, out-Ty}
use Rattle.chi_value.specs.declared.value.Value.{Value, Value-F, out-Value}
use Rattle.chi_value.specs.declared.value.Value.TheVariants as value
use Rattle.chi_ops.specs.Conditions.{takes_at}
use Rattle.chi_ops.specs.Kinds.{is_list, is_sequence}
use Rattle.chi_ops.specs.Outcome.{index_fault}
use Rattle.chi_ops.specs.Places.{place_of, at_place}
use Rattle.chi_ops.specs.Sequences.{byte_text, index, join, insert_at, del}
use Rattle.chi_core.specs.Containers.{done, element_at, without}
use Rattle.chi_core.specs.Kinds.{Every}
use Rattle.chi_core.specs.Of.{World, IsShort, Of, IsOf}
use Rattle.chi_core.proofs.Tidied.{tidy_of}
use Rattle.chi_core_kinds.specs.Laws.{WellOf}
use Rattle.chi_core_kinds.proofs.Arithmetic.{well_on_int}
use Rattle.chi_core_kinds.proofs.Composing.{every_append}
use Rattle.chi_core_kinds.proofs.Conditions.{peers, alike_to_all}
use Rattle.chi_core_kinds.proofs.Elements.{every_remove, every_insert, length_remove}
use Rattle.chi_core_kinds.proofs.Shapes.{list_is, text_is, elements_are, a_text, a_list, few, well_where, well_within, well_or}

-- a list or string after another

pub well_join_texts : (w : World) (a b : Value) → IsOf w Ty-F.Text a → IsOf w Ty-F.Text b → WellOf w Ty-F.Text (done (join a b))
well_join_texts w a b h l =
    let x = text_is w (out-Value a) h in
    let y = text_is w (out-Value b) l in
    let long = length-append x.bytes y.bytes in
    well_where w Ty-F.Text _ _ (and_from _ _ (peers w Ty-F.Text a b h l) (rw (x.is, is_sequence) refl))
    (rw (x.is, y.is) (well_within w Ty-F.Text (length x.bytes + length y.bytes) (value.Text (x.bytes ++ y.bytes)) (λ small.
    a_text w (x.bytes ++ y.bytes) (few (x.bytes ++ y.bytes) (omega (arith, small, long))))))

pub well_join_lists : (w : World) (t : Ty) (a b : Value) → IsOf w (Ty-F.ListOf t) a → IsOf w (Ty-F.ListOf t) b → WellOf w (Ty-F.ListOf t) (done (join a b))
well_join_lists w t a b h l =
    let x = list_is w t (out-Value a) h in
    let y = list_is w t (out-Value b) l in
    let long = length-append x.items y.items in
    well_where w (Ty-F.ListOf t) _ _ (and_from _ _ (peers w (Ty-F.ListOf t) a b h l) (rw (x.is, is_sequence) refl))
    (rw (x.is, y.is) (well_within w (Ty-F.ListOf t) (length x.items + length y.items) (value.ListOf (x.items ++ y.items)) (λ small.
    a_list w (x.items ++ y.items) t (few (x.items ++ y.items) (omega (arith, small, long))) (every_append (IsOf w (out-Ty t)) x.items y.items x.each y.each))))

-- the element at an index

at_place_is : {A : Type 0} (P : A → Type 0) (items : List A) → Every P items → (i : ℤ) (x : A) → at_place items i ≡ Some x → P x
at_place_is P items each i x e = decided (place_of (length items) i) e
  where
    decided : (o : Option ℕ) → option_and_then (slice_get items) o ≡ Some x → P x
    decided None e = absurd (cc)
    decided (Some k) e = each k x e

pub well_index_list : (w : World) (t : Ty) (a : Value) (i : ℤ) → IsOf w (Ty-F.ListOf t) a → WellOf w (out-Ty t) (done (index a i))
well_index_list w t a i h =
    let x = list_is w t (out-Value a) h in
    well_where w (out-Ty t) _ _ (and_from _ _ (tidy_of w a (Ty-F.ListOf t) h) (rw (x.is, is_sequence) refl))
    (rw x.is (well_or w (out-Ty t) index_fault (at_place x.items i) (at_place_is (IsOf w (out-Ty t)) x.items x.each i)))

one_byte : (w : World) (o : Option ℕ) (v : Value) → option_map byte_text o ≡ Some v → IsOf w Ty-F.Text v
one_byte w None v e = absurd (cc)
one_byte w (Some byte) v e = let is : byte_text byte ≡ v = cc in subst (IsOf w Ty-F.Text) is (a_text w (byte ∷ []) (omega arith))

pub well_index_text : (w : World) (a : Value) (i : ℤ) → IsOf w Ty-F.Text a → WellOf w Ty-F.Text (done (index a i))
well_index_text w a i h =
    let x = text_is w (out-Value a) h in
    well_where w Ty-F.Text _ _ (and_from _ _ (tidy_of w a Ty-F.Text h) (rw (x.is, is_sequence) refl))
    (rw x.is (well_or w Ty-F.Text index_fault (option_map byte_text (at_place x.bytes i)) (one_byte w (at_place x.bytes i))))

pub well_element_at : (w : World) (t : Ty) (a i : Value) → IsOf w (Ty-F.ListOf t) a → IsOf w Ty-F.Int i → WellOf w (out-Ty t) (element_at a i)
well_element_at w t a i h l = well_on_int w (out-Ty t) (λ n. done (index a n)) (λ n. done (index a n)) (λ n. well_index_list w t a n h) (out-Value i) l

pub well_byte_at : (w : World) (a i : Value) → IsOf w Ty-F.Text a → IsOf w Ty-F.Int i → WellOf w Ty-F.Text (element_at a i)
well_byte_at w a i h l = well_on_int w Ty-F.Text (λ n. done (index a n)) (λ n. done (index a n)) (λ n. well_index_text w a n h) (out-Value i) l

-- without an element

removed : (w : World) (t : Ty) (items : List Value) → IsShort items → Every (IsOf w (out-Ty t)) items → (o : Option ℕ) (v : Value)
    → option_map (λ place. value.ListOf (remove items place)) o ≡ Some v → IsOf w (Ty-F.ListOf t) v
removed w t items short each None v e = absurd (cc)
removed w t items short each (Some place) v e =
    let is : value.ListOf (remove items place) ≡ v = cc in
    let less = length_remove place items in
    subst (IsOf w (Ty-F.ListOf t)) is (a_list w (remove items place) t (omega (arith, short, less)) (every_remove (IsOf w (out-Ty t)) place items each))

well_del : (w : World) (t : Ty) (a : Value) (i : ℤ) → IsOf w (Ty-F.ListOf t) a → WellOf w (Ty-F.ListOf t) (done (del a i))
well_del w t a i h =
    let x = list_is w t (out-Value a) h in
    well_where w (Ty-F.ListOf t) _ _ (and_from _ _ (tidy_of w a (Ty-F.ListOf t) h) (rw (x.is, is_list) refl))
    (rw x.is (well_or w (Ty-F.ListOf t) index_fault (option_map (λ place. value.ListOf (remove x.items place)) (place_of (length x.items) i))
    (removed w t x.items x.short x.each (place_of (length x.items) i))))

pub well_without : (w : World) (t : Ty) (a i : Value) → IsOf w (Ty-F.ListOf t) a → IsOf w Ty-F.Int i → WellOf w (Ty-F.ListOf t) (without a i)
well_without w t a i h l = well_on_int w (Ty-F.ListOf t) (λ n. done (del a n)) (λ n. done (del a n)) (λ n. well_del w t a n h) (out-Value i) l

-- with an element more

pub well_insert : (w : World) (xs x : Value) (items : List Value) (t : Ty) (place : ℕ) → out-Value xs ≡ Value-F.ListOf items → place ≤ length items → IsOf w (Ty-F.ListOf t) xs → IsOf w (out-Ty t) x
    → WellOf w (Ty-F.ListOf t) (done (insert_at xs place x))
well_insert w xs x items t place is inside h l =
    let facts = elements_are w items t (subst (λ layer. Of w layer (Ty-F.ListOf t)) is h) in
    let long = length-insert items place x inside in
    well_where w (Ty-F.ListOf t) _ _
    (and_from _ _ (and_from _ _ (tidy_of w xs (Ty-F.ListOf t) h) (tidy_of w x (out-Ty t) l))
    (rw (is, takes_at) (and_from _ _ (alike_to_all w (out-Ty t) items facts.1 x l) (le-leb place (length items) inside))))
    (rw is (well_within w (Ty-F.ListOf t) (length items + 1) (value.ListOf (insert items place x)) (λ small.
    a_list w (insert items place x) t (few (insert items place x) (omega (arith, small, long))) (every_insert (IsOf w (out-Ty t)) place x items l facts.1))))
