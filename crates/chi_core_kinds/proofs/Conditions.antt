-- Conditions of operations that hold of values of kinds.
use Rattle.std.proofs.Common.{◌≡◌, true, Some, List, [], ◌∷◌, refl, sym, ap, subst, ◌∙◌}
use Rattle.std.proofs.lemmas.Bool.{and_from}
use Rattle.std.specs.List.{list_all}
use Rattle.chi_types.specs.declared.ty.Ty.{Ty, out-Ty}
use Rattle.chi_types.specs.Plain.{is_plain as is_plain_type}
use Rattle.chi_value.specs.declared.value.Value.{Value, Value-F, out-Value}
use Rattle.chi_value.specs.Alike.{alike}
use Rattle.chi_value.specs.Plain.{is_plain}
use Rattle.chi_sets.specs.Dictionaries.{key_in, value_in, key_of, value_of, keys, values}
use Rattle.chi_ops.specs.Conditions.{is_key, are_peers, may_contain}
use Rattle.chi_ops.specs.Tidy.{tidy}
use Rattle.chi_core.specs.Kinds.{Kind, Every, entry_of, is_plain_kind}
use Rattle.chi_core.specs.Of.{World, Of, of_tuple, no_part, one_part, IsOf}
use Rattle.chi_core.proofs.Alikes.{alike_of, each_passes}
use Rattle.chi_core.proofs.Erased.{plain_at}
use Rattle.chi_core.proofs.Tidied.{plain_of, tidy_of}
use Rattle.chi_core_kinds.proofs.Elements.{every_chosen}

-- the kind of a plain type is plain
pub plain_kind : (t : Ty) → is_plain_type t ≡ true → is_plain_kind (out-Ty t) ≡ true
plain_kind t h = sym (plain_at t (out-Ty t) refl) ∙ h

module _ (w : World) (T : Kind) where
  pub peers : (a b : Value) → IsOf w T a → IsOf w T b → are_peers a b ≡ true
  peers a b h l = and_from _ _ (and_from _ _ (tidy_of w a T h) (tidy_of w b T l)) (alike_of w a b T h l)

  pub key_is : is_plain_kind T ≡ true → (x : Value) → IsOf w T x → is_key x ≡ true
  key_is plain x h = and_from _ _ (plain_of w x T plain h) (tidy_of w x T h)

  pub alike_to_all : (xs : List Value) → Every (IsOf w T) xs → (x : Value) → IsOf w T x → list_all (alike x) xs ≡ true
  alike_to_all xs each x h = each_passes (alike x) xs (λ k y e. alike_of w x y T h (each k y e))

  pub all_plain : is_plain_kind T ≡ true → (xs : List Value) → Every (IsOf w T) xs → list_all is_plain xs ≡ true
  all_plain plain xs each = each_passes is_plain xs (λ k x e. plain_of w x T plain (each k x e))

  pub contained : (xs : List Value) → Every (IsOf w T) xs → may_contain xs ≡ true
  contained xs each = and_from _ _ (each_passes tidy xs (λ k x e. tidy_of w x T (each k x e)))
      (each_passes (λ x. list_all (alike x) xs) xs (λ k x e. alike_to_all xs each x (each k x e)))

-- an entry is a key and what it has

pub record EntryIs (w : World) (key has : Ty) (x : Value-F Value) : Type 0 where
  pub k : Value
  pub h : Value
  pub is : x ≡ Value-F.TupleOf (k ∷ h ∷ [])
  pub its_key : IsOf w (out-Ty key) k
  pub its_value : IsOf w (out-Ty has) h

pub entry_is : (w : World) (key has : Ty) (x : Value-F Value) → Of w x (entry_of key has) → EntryIs w key has x
entry_is w key has _ (of_tuple _ _ (one_part a _ _ _ is (one_part b _ _ _ is' no_part))) = record { k = a; h = b; is = refl; its_key = is; its_value = is' }

module _ (w : World) (key has : Ty) where
  key_there : (x k : Value) → IsOf w (entry_of key has) x → key_of x ≡ Some k → IsOf w (out-Ty key) k
  key_there x k is e =
      let found = entry_is w key has (out-Value x) is in
      let same : Some found.k ≡ Some k = sym (ap key_in found.is) ∙ e in
      let one : found.k ≡ k = cc in
      subst (IsOf w (out-Ty key)) one found.its_key

  pub value_there : (x h : Value) → IsOf w (entry_of key has) x → value_of x ≡ Some h → IsOf w (out-Ty has) h
  value_there x h is e =
      let found = entry_is w key has (out-Value x) is in
      let same : Some found.h ≡ Some h = sym (ap value_in found.is) ∙ e in
      let one : found.h ≡ h = cc in
      subst (IsOf w (out-Ty has)) one found.its_value

  pub keys_are : (xs : List Value) → Every (IsOf w (entry_of key has)) xs → Every (IsOf w (out-Ty key)) (keys xs)
  keys_are xs each = every_chosen (IsOf w (entry_of key has)) (IsOf w (out-Ty key)) key_of key_there xs each

  pub values_are : (xs : List Value) → Every (IsOf w (entry_of key has)) xs → Every (IsOf w (out-Ty has)) (values xs)
  values_are xs each = every_chosen (IsOf w (entry_of key has)) (IsOf w (out-Ty has)) value_of value_there xs each
