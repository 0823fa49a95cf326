-- A value of a kind is tidy to the whole depth, and plain where its kind is.
use Rattle.std.proofs.Common.{◌≡◌, ℕ, zero, suc, Bool, true, ◌&&◌, List, [], ◌∷◌, map, Some, refl, sym, ap, subst, ◌∙◌}
use Rattle.std.proofs.lemmas.Bool.{and_from, and_parts}
use Rattle.std.specs.List.{list_all, cons_option}
use Rattle.std.specs.Prelude.{is_some}
use Rattle.chi_types.specs.declared.ty.Ty.{Ty, out-Ty}
use Rattle.chi_types.specs.Plain.{holds}
use Rattle.chi_types.specs.Plain as types
use Rattle.chi_types.specs.Same.{beside}
use Rattle.chi_value.specs.declared.value.Value.{Value, Value-F, out-Value, roll-out-Value, para-roll-Value, fold_out-Value, map-Value}
use Rattle.chi_value.specs.Alike.{Alike, alike, all_alike, part_itself, part_holds, uniform, uniform_step}
use Rattle.chi_value.specs.Plain.{is_plain, plain_step, itself, within, within_step}
use Rattle.chi_sets.specs.Dictionaries.{are_entries, is_entry, keys, key_in}
use Rattle.chi_ops.specs.Tidy.{is_set_list, is_dictionary_list, sorted, sorted_step, tidy}
use Rattle.chi_core.specs.Kinds.{Kind, Every, entry_of, is_plain_kind}
use Rattle.chi_core.specs.Of.{World, Of, of_bool, of_int, of_real, of_text, of_choice, of_tuple, of_list, of_set, of_dictionary, of_channel, of_dist, of_timer, of_no_instance, of_instance, PartsOf, no_part, one_part, IsOf}
use Rattle.chi_core.proofs.Alikes.{all_pass, each_passes, alike_of}
use Rattle.chi_core.proofs.Erased.{plain_at}

-- plain values

plain_out : (a : Value) → is_plain a ≡ plain_step (map-Value Value Bool is_plain (out-Value a))
plain_out a = fold_out-Value Bool plain_step a

kind_of_plain : (t : Ty) → types.is_plain t ≡ true → is_plain_kind (out-Ty t) ≡ true
kind_of_plain t h = sym (plain_at t (out-Ty t) refl) ∙ h

entry_is_plain : (key has : Ty) → (types.is_plain key && types.is_plain has) ≡ true → is_plain_kind (entry_of key has) ≡ true
entry_is_plain key has h = and_from _ _ (and_parts _ _ h).0 (and_from _ _ (and_parts _ _ h).1 refl)

module _ (w : World) where
  mutual
    plain_kinds : (x : Value-F Value) (T : Kind) → Of w x T → is_plain_kind T ≡ true → plain_step (map-Value Value Bool is_plain x) ≡ true
    plain_kinds _ _ (of_bool b) h = refl
    plain_kinds _ _ (of_int n) h = refl
    plain_kinds _ _ (of_real n) h = refl
    plain_kinds _ _ (of_text bytes short) h = refl
    plain_kinds _ _ (of_choice enumeration position name e) h = refl
    plain_kinds _ _ (of_tuple xs parts are) h = plain_parts xs parts are h
    plain_kinds _ _ (of_list xs t short each) h =
        all_pass itself is_plain xs (λ k x e. plain_out x ∙ plain_kinds (out-Value x) (out-Ty t) (each k x e) (kind_of_plain t h))
    plain_kinds _ _ (of_set xs t short plain ascending each) h =
        all_pass itself is_plain xs (λ k x e. plain_out x ∙ plain_kinds (out-Value x) (out-Ty t) (each k x e) (kind_of_plain t h))
    plain_kinds _ _ (of_dictionary xs key has short plain ascending each) h =
        all_pass itself is_plain xs (λ k x e. plain_out x ∙ plain_kinds (out-Value x) (entry_of key has) (each k x e) (entry_is_plain key has h))
    plain_kinds _ _ (of_channel n t e) h = absurd (cc)
    plain_kinds _ _ (of_dist d t yields) h = absurd (cc)
    plain_kinds _ _ (of_timer due) h = absurd (cc)
    plain_kinds _ _ of_no_instance h = absurd (cc)
    plain_kinds _ _ (of_instance n l) h = absurd (cc)

    plain_parts : (xs : List Value) (parts : List (List ℕ × Ty)) → PartsOf w xs parts → list_all holds (map (beside types.is_plain) parts) ≡ true → list_all itself (map is_plain xs) ≡ true
    plain_parts _ _ no_part h = refl
    plain_parts _ _ (one_part x xs part parts is are) h =
        and_from _ _ (plain_out x ∙ plain_kinds (out-Value x) (out-Ty part.1) is (kind_of_plain part.1 (and_parts _ _ h).0)) (plain_parts xs parts are (and_parts _ _ h).1)

  pub plain_of : (a : Value) (T : Kind) → is_plain_kind T ≡ true → IsOf w T a → is_plain a ≡ true
  plain_of a T h is = plain_out a ∙ plain_kinds (out-Value a) T is h

-- uniform values

abbrev with_uniform : Value → Value × Bool
with_uniform v = (v, uniform v)

uniform_out : (a : Value) → uniform a ≡ uniform_step (map-Value Value (Value × Bool) with_uniform (out-Value a))
uniform_out a = ap uniform (sym (roll-out-Value a)) ∙ para-roll-Value Bool uniform_step (out-Value a)

itselves : (f : Value → Bool) (xs : List Value) → map part_itself (map (λ v. (v, f v)) xs) ≡ xs
itselves f [] = refl
itselves f (x ∷ xs) = ap (λ rest. x ∷ rest) (itselves f xs)

module _ (w : World) where
  uniform_all : (xs : List Value) (T : Kind) → Every (IsOf w T) xs → Every (λ x. uniform x ≡ true) xs
      → (list_all part_holds (map with_uniform xs) && all_alike (map part_itself (map with_uniform xs))) ≡ true
  uniform_all xs T each passes = and_from _ _ (all_pass part_holds with_uniform xs passes)
      (ap all_alike (itselves uniform xs) ∙ each_passes (λ x. list_all (alike x) xs) xs
      (λ k x e. each_passes (alike x) xs (λ j y e'. alike_of w x y T (each k x e) (each j y e'))))

  mutual
    uniform_kinds : (x : Value-F Value) (T : Kind) → Of w x T → uniform_step (map-Value Value (Value × Bool) with_uniform x) ≡ true
    uniform_kinds _ _ (of_bool b) = refl
    uniform_kinds _ _ (of_int n) = refl
    uniform_kinds _ _ (of_real n) = refl
    uniform_kinds _ _ (of_text bytes short) = refl
    uniform_kinds _ _ (of_choice enumeration position name e) = refl
    uniform_kinds _ _ (of_tuple xs parts are) = uniform_parts xs parts are
    uniform_kinds _ _ (of_list xs t short each) = uniform_all xs (out-Ty t) each (λ k x e. uniform_out x ∙ uniform_kinds (out-Value x) (out-Ty t) (each k x e))
    uniform_kinds _ _ (of_set xs t short plain ascending each) = uniform_all xs (out-Ty t) each (λ k x e. uniform_out x ∙ uniform_kinds (out-Value x) (out-Ty t) (each k x e))
    uniform_kinds _ _ (of_dictionary xs key has short plain ascending each) =
        uniform_all xs (entry_of key has) each (λ k x e. uniform_out x ∙ uniform_kinds (out-Value x) (entry_of key has) (each k x e))
    uniform_kinds _ _ (of_channel n t e) = refl
    uniform_kinds _ _ (of_dist d t yields) = refl
    uniform_kinds _ _ (of_timer due) = refl
    uniform_kinds _ _ of_no_instance = refl
    uniform_kinds _ _ (of_instance n l) = refl

    uniform_parts : (xs : List Value) (parts : List (List ℕ × Ty)) → PartsOf w xs parts → list_all part_holds (map with_uniform xs) ≡ true
    uniform_parts _ _ no_part = refl
    uniform_parts _ _ (one_part x xs part parts is are) = and_from _ _ (uniform_out x ∙ uniform_kinds (out-Value x) (out-Ty part.1) is) (uniform_parts xs parts are)

  pub uniform_of : (a : Value) (T : Kind) → IsOf w T a → uniform a ≡ true
  uniform_of a T is = uniform_out a ∙ uniform_kinds (out-Value a) T is

-- two plain values of one kind can be compared
pub comparable : (w : World) (a b : Value) (T : Kind) → is_plain_kind T ≡ true → IsOf w T a → IsOf w T b → Alike a b
comparable w a b T plain h l = (plain_of w a T plain h, plain_of w b T plain l, uniform_of w a T h, uniform_of w b T l, alike_of w a b T h l)

-- sets and dictionaries in order

abbrev with_sorted : Value → Value × Bool
with_sorted v = (v, sorted v)

sorted_out : (a : Value) → sorted a ≡ sorted_step (map-Value Value (Value × Bool) with_sorted (out-Value a))
sorted_out a = ap sorted (sym (roll-out-Value a)) ∙ para-roll-Value Bool sorted_step (out-Value a)

-- an entry has a plain key
entry_key : (w : World) (key has : Ty) (x : Value-F Value) → Of w x (entry_of key has) → (a : Value) × (key_in x ≡ Some a) × IsOf w (out-Ty key) a
entry_key w key has _ (of_tuple _ _ (one_part a _ _ _ is (one_part b _ _ _ is' no_part))) = (a, refl, is)

module _ (w : World) (key has : Ty) where
  entries_stand : (xs : List Value) → Every (IsOf w (entry_of key has)) xs → are_entries xs ≡ true
  entries_stand xs each = each_passes is_entry xs (λ k x e. ap is_some (entry_key w key has (out-Value x) (each k x e)).1)

  keys_plain : types.is_plain key ≡ true → (xs : List Value) → Every (IsOf w (entry_of key has)) xs → list_all is_plain (keys xs) ≡ true
  keys_plain plain [] each = refl
  keys_plain plain (x ∷ xs) each =
      let found = entry_key w key has (out-Value x) (each zero x refl) in
      subst (λ o. list_all is_plain (cons_option o (keys xs)) ≡ true) (sym found.1)
      (and_from _ _ (plain_of w found.0 (out-Ty key) (kind_of_plain key plain) found.2) (keys_plain plain xs (λ k y e. each (suc k) y e)))

module _ (w : World) where
  mutual
    sorted_kinds : (x : Value-F Value) (T : Kind) → Of w x T → sorted_step (map-Value Value (Value × Bool) with_sorted x) ≡ true
    sorted_kinds _ _ (of_bool b) = refl
    sorted_kinds _ _ (of_int n) = refl
    sorted_kinds _ _ (of_real n) = refl
    sorted_kinds _ _ (of_text bytes short) = refl
    sorted_kinds _ _ (of_choice enumeration position name e) = refl
    sorted_kinds _ _ (of_tuple xs parts are) = sorted_parts xs parts are
    sorted_kinds _ _ (of_list xs t short each) = all_pass part_holds with_sorted xs (λ k x e. sorted_out x ∙ sorted_kinds (out-Value x) (out-Ty t) (each k x e))
    sorted_kinds _ _ (of_set xs t short plain ascending each) =
        and_from _ _ (all_pass part_holds with_sorted xs (λ k x e. sorted_out x ∙ sorted_kinds (out-Value x) (out-Ty t) (each k x e)))
        (ap is_set_list (itselves sorted xs)
        ∙ and_from _ _ (each_passes is_plain xs (λ k x e. plain_of w x (out-Ty t) (kind_of_plain t plain) (each k x e))) ascending)
    sorted_kinds _ _ (of_dictionary xs key has short plain ascending each) =
        and_from _ _ (all_pass part_holds with_sorted xs (λ k x e. sorted_out x ∙ sorted_kinds (out-Value x) (entry_of key has) (each k x e)))
        (ap is_dictionary_list (itselves sorted xs)
        ∙ and_from _ _ (and_from _ _ (entries_stand w key has xs each) (keys_plain w key has plain xs each)) ascending)
    sorted_kinds _ _ (of_channel n t e) = refl
    sorted_kinds _ _ (of_dist d t yields) = refl
    sorted_kinds _ _ (of_timer due) = refl
    sorted_kinds _ _ of_no_instance = refl
    sorted_kinds _ _ (of_instance n l) = refl

    sorted_parts : (xs : List Value) (parts : List (List ℕ × Ty)) → PartsOf w xs parts → list_all part_holds (map with_sorted xs) ≡ true
    sorted_parts _ _ no_part = refl
    sorted_parts _ _ (one_part x xs part parts is are) = and_from _ _ (sorted_out x ∙ sorted_kinds (out-Value x) (out-Ty part.1) is) (sorted_parts xs parts are)

  pub tidy_of : (a : Value) (T : Kind) → IsOf w T a → tidy a ≡ true
  tidy_of a T is = and_from _ _ (uniform_of w a T is) (sorted_out a ∙ sorted_kinds (out-Value a) T is)

-- enumeration values have names

within_out : (names : List (List (List ℕ))) (a : Value) → within names a ≡ within_step names (map-Value Value Bool (within names) (out-Value a))
within_out names a = fold_out-Value Bool (within_step names) a

module _ (w : World) where
  mutual
    within_kinds : (x : Value-F Value) (T : Kind) → Of w x T → within_step w.names (map-Value Value Bool (within w.names) x) ≡ true
    within_kinds _ _ (of_bool b) = refl
    within_kinds _ _ (of_int n) = refl
    within_kinds _ _ (of_real n) = refl
    within_kinds _ _ (of_text bytes short) = refl
    within_kinds _ _ (of_choice enumeration position name e) = ap is_some e
    within_kinds _ _ (of_tuple xs parts are) = within_parts xs parts are
    within_kinds _ _ (of_list xs t short each) = all_pass itself (within w.names) xs (λ k x e. within_out w.names x ∙ within_kinds (out-Value x) (out-Ty t) (each k x e))
    within_kinds _ _ (of_set xs t short plain ascending each) = all_pass itself (within w.names) xs (λ k x e. within_out w.names x ∙ within_kinds (out-Value x) (out-Ty t) (each k x e))
    within_kinds _ _ (of_dictionary xs key has short plain ascending each) =
        all_pass itself (within w.names) xs (λ k x e. within_out w.names x ∙ within_kinds (out-Value x) (entry_of key has) (each k x e))
    within_kinds _ _ (of_channel n t e) = refl
    within_kinds _ _ (of_dist d t yields) = refl
    within_kinds _ _ (of_timer due) = refl
    within_kinds _ _ of_no_instance = refl
    within_kinds _ _ (of_instance n l) = refl

    within_parts : (xs : List Value) (parts : List (List ℕ × Ty)) → PartsOf w xs parts → list_all itself (map (within w.names) xs) ≡ true
    within_parts _ _ no_part = refl
    within_parts _ _ (one_part x xs part parts is are) = and_from _ _ (within_out w.names x ∙ within_kinds (out-Value x) (out-Ty part.1) is) (within_parts xs parts are)

  pub within_of : (a : Value) (T : Kind) → IsOf w T a → within w.names a ≡ true
  within_of a T is = within_out w.names a ∙ within_kinds (out-Value a) T is
