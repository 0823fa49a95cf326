-- What is in lists, how much is in containers and strings, and the first element with the rest.
use Rattle.std.proofs.Common.{◌≡◌, ℕ, ◌^◌, pos, Bool, true, false, cond, Option, None, Some, List, [], ◌∷◌, length, IsTrue, refl, ap, arith}
use Rattle.std.proofs.lemmas.Bool.{and_from, lt-ltb}
use Rattle.std.specs.Prelude.{nat_eq, option_map}
use Rattle.chi_types.specs.declared.ty.Ty.{Ty, Ty-F, out-Ty}
use Rattle.chi_types.specs.declared.ty.Ty.TheVariants as ty
use Rattle.chi_types.specs.Plain.{is_plain}
use Rattle.chi_value.specs.declared.value.Value.{Value, Value-F, out-Value}
use Rattle.chi_value.specs.declared.value.Value.TheVariants as value
use Rattle.chi_sets.specs.Sets.{among}
use Rattle.chi_ops.specs.Conditions.{has_size, may_has, may_hold}
use Rattle.chi_ops.specs.Kinds.{is_container}
use Rattle.chi_ops.specs.Operations.{size, has, pop, first_and_rest}
use Rattle.chi_core.specs.Comparisons.{tells}
use Rattle.chi_core.specs.Containers.{done, size_of, is_empty}
use Rattle.chi_core.specs.Kinds.{Kind, Every, tuple_of}
use Rattle.chi_core.specs.Of.{World, IsShort, IsOf}
use Rattle.chi_core.specs.OperatorKinds as table
use Rattle.chi_core.specs.OperatorKinds.{bound}
use Rattle.chi_core.proofs.Tidied.{tidy_of}
use Rattle.chi_core_kinds.specs.Laws.{WellOf}
use Rattle.chi_core_kinds.proofs.Comparisons.{well_tells_if}
use Rattle.chi_core_kinds.proofs.Composing.{well_wanted}
use Rattle.chi_core_kinds.proofs.Conditions.{key_is, all_plain, alike_to_all, plain_kind}
use Rattle.chi_core_kinds.proofs.Elements.{every_tail}
use Rattle.chi_core_kinds.proofs.Shapes.{list_is, set_is, dictionary_is, text_is, a_bool, an_int, a_list, a_pair, of_type, well_where, well_done}

-- how much there is

size_if : (b : Bool) (o : Option ℕ) (n : ℕ) → b ≡ true → o ≡ Some n → cond b o None ≡ Some n
size_if true o n e f = f
size_if false o n e f = absurd (cc)

module _ (w : World) where
  text_size : (v : Value) (bytes : List ℕ) → IsOf w Ty-F.Text v → out-Value v ≡ Value-F.Text bytes → IsShort bytes → size v ≡ Some (length bytes)
  text_size v bytes h is short =
      size_if _ _ (length bytes) (and_from _ _ (tidy_of w v Ty-F.Text h) (rw (is, has_size) (lt-ltb (length bytes) (2 ^ 32) short))) (rw is refl)

  list_size : (t : Ty) (v : Value) (items : List Value) → IsOf w (Ty-F.ListOf t) v → out-Value v ≡ Value-F.ListOf items → IsShort items → size v ≡ Some (length items)
  list_size t v items h is short =
      size_if _ _ (length items) (and_from _ _ (tidy_of w v (Ty-F.ListOf t) h) (rw (is, has_size) (lt-ltb (length items) (2 ^ 32) short))) (rw is refl)

  set_size : (t : Ty) (v : Value) (items : List Value) → IsOf w (Ty-F.SetOf t) v → out-Value v ≡ Value-F.SetOf items → IsShort items → size v ≡ Some (length items)
  set_size t v items h is short =
      size_if _ _ (length items) (and_from _ _ (tidy_of w v (Ty-F.SetOf t) h) (rw (is, has_size) (lt-ltb (length items) (2 ^ 32) short))) (rw is refl)

  dictionary_size : (key has : Ty) (v : Value) (items : List Value) → IsOf w (Ty-F.DictOf key has) v → out-Value v ≡ Value-F.DictOf items → IsShort items → size v ≡ Some (length items)
  dictionary_size key has v items h is short =
      size_if _ _ (length items) (and_from _ _ (tidy_of w v (Ty-F.DictOf key has) h) (rw (is, has_size) (lt-ltb (length items) (2 ^ 32) short))) (rw is refl)

  sized : (T : Kind) → table.has_size T ≡ true → (v : Value) → IsOf w T v → (n : ℕ) × (size v ≡ Some n)
  sized Ty-F.Text e v h = let x = text_is w (out-Value v) h in (length x.bytes, text_size v x.bytes h x.is x.short)
  sized (Ty-F.ListOf t) e v h = let x = list_is w t (out-Value v) h in (length x.items, list_size t v x.items h x.is x.short)
  sized (Ty-F.SetOf t) e v h = let x = set_is w t (out-Value v) h in (length x.items, set_size t v x.items h x.is x.short)
  sized (Ty-F.DictOf key has) e v h = let x = dictionary_is w key has (out-Value v) h in (length x.items, dictionary_size key has v x.items h x.is x.short)
  sized _ e v h = absurd (cc)

  pub well_size : (T : Kind) → table.has_size T ≡ true → (v : Value) → IsOf w T v → WellOf w Ty-F.Int (size_of v)
  well_size T e v h =
      let found = sized T e v h in
      well_wanted w (λ u x. IsOf u Ty-F.Int x) (option_map (λ n. value.Int (pos n)) (size v)) (value.Int (pos found.0)) (ap (option_map (λ n. value.Int (pos n))) found.1) (an_int w (pos found.0))

  pub well_empty : (T : Kind) → table.has_size T ≡ true → (v : Value) → IsOf w T v → WellOf w Ty-F.Bool (is_empty v)
  well_empty T e v h =
      let found = sized T e v h in
      well_wanted w (λ u x. IsOf u Ty-F.Bool x) (option_map (λ n. value.Bool (nat_eq n 0)) (size v)) (value.Bool (nat_eq found.0 0)) (ap (option_map (λ n. value.Bool (nat_eq n 0))) found.1)
      (a_bool w (nat_eq found.0 0))

  -- what is in a list

  member_known : (v x : Value) (items : List Value) → out-Value v ≡ Value-F.ListOf items → may_has v x ≡ true → WellOf w Ty-F.Bool (tells (has v x))
  member_known v x items is may = well_tells_if w _ _ (among items x) may (rw is refl)

  pub well_in_list : (t : Ty) → IsTrue (is_plain t) → (v x : Value) → IsOf w (Ty-F.ListOf t) v → IsOf w (out-Ty t) x → WellOf w Ty-F.Bool (tells (has v x))
  well_in_list t plain v x h l =
      let s = list_is w t (out-Value v) h in
      member_known v x s.items s.is
      (and_from _ _ (and_from _ _ (tidy_of w v (Ty-F.ListOf t) h) (key_is w (out-Ty t) (plain_kind t plain) x l))
      (rw (s.is, may_hold) (and_from _ _ (all_plain w (out-Ty t) (plain_kind t plain) s.items s.each) (alike_to_all w (out-Ty t) s.items s.each x l))))

  -- the first and the rest

  popped : (t : Ty) (xs : List Value) → IsShort xs → Every (IsOf w (out-Ty t)) xs → WellOf w (tuple_of (t ∷ ty.ListOf t ∷ [])) (done (first_and_rest value.ListOf xs))
  popped t [] short each = λ view fits. tt
  popped t (x ∷ xs) short each =
      well_done w (tuple_of (t ∷ ty.ListOf t ∷ [])) (value.TupleOf (x ∷ value.ListOf xs ∷ []))
      (a_pair w x (value.ListOf xs) t (ty.ListOf t) (each 0 x refl)
      (of_type w (ty.ListOf t) (Ty-F.ListOf t) (value.ListOf xs) (ty.outs-ListOf t) (a_list w xs t (omega (arith, short)) (every_tail (IsOf w (out-Ty t)) x xs each))))

  pub well_pop_list : (t : Ty) (a : Value) → IsOf w (Ty-F.ListOf t) a → WellOf w (tuple_of (t ∷ ty.ListOf t ∷ [])) (done (pop a))
  well_pop_list t a h =
      let x = list_is w t (out-Value a) h in
      well_where w (tuple_of (t ∷ ty.ListOf t ∷ [])) _ _ (and_from _ _ (tidy_of w a (Ty-F.ListOf t) h) (rw (x.is, is_container) refl))
      (rw x.is (popped t x.items x.short x.each))
