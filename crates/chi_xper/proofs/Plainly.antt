-- A value of a plain kind names no channel and no instance.
use Rattle.std.proofs.Common.{◌≡◌, ℕ, true, ◌&&◌, List, map, refl, sym, ◌∙◌}
use Rattle.std.proofs.lemmas.Bool.{and_from, and_parts}
use Rattle.std.specs.List.{list_all}
use Rattle.chi_types.specs.declared.ty.Ty.{Ty, out-Ty}
use Rattle.chi_types.specs.Plain.{holds}
use Rattle.chi_types.specs.Plain as types
use Rattle.chi_types.specs.Same.{beside}
use Rattle.chi_value.specs.declared.value.Value.{Value, Value-F, out-Value}
use Rattle.chi_core.specs.Kinds.{Kind, entry_of, is_plain_kind}
use Rattle.chi_core.specs.Of.{World, nowhere, AreOf, none_of, one_of, Of, of_bool, of_int, of_real, of_text, of_choice, of_tuple, of_list, of_set, of_dictionary, of_channel, of_dist, of_timer, of_no_instance, of_instance, PartsOf, no_part, one_part}
use Rattle.chi_core.proofs.Erased.{plain_at}

kind_of_plain : (t : Ty) → types.is_plain t ≡ true → is_plain_kind (out-Ty t) ≡ true
kind_of_plain t h = sym (plain_at t (out-Ty t) refl) ∙ h

entry_is_plain : (key has : Ty) → (types.is_plain key && types.is_plain has) ≡ true → is_plain_kind (entry_of key has) ≡ true
entry_is_plain key has h = and_from _ _ (and_parts _ _ h).0 (and_from _ _ (and_parts _ _ h).1 refl)

module _ (w : World) where
  mutual
    plainly : (x : Value-F Value) (T : Kind) → Of w x T → is_plain_kind T ≡ true → Of (nowhere w.names) x T
    plainly _ _ (of_bool b) h = of_bool b
    plainly _ _ (of_int n) h = of_int n
    plainly _ _ (of_real n) h = of_real n
    plainly _ _ (of_text bytes short) h = of_text bytes short
    plainly _ _ (of_choice enumeration position name e) h = of_choice enumeration position name e
    plainly _ _ (of_tuple xs parts are) h = of_tuple xs parts (parts_plainly xs parts are h)
    plainly _ _ (of_list xs t short each) h = of_list xs t short (λ k x e. plainly (out-Value x) (out-Ty t) (each k x e) (kind_of_plain t h))
    plainly _ _ (of_set xs t short plain ascending each) h =
        of_set xs t short plain ascending (λ k x e. plainly (out-Value x) (out-Ty t) (each k x e) (kind_of_plain t h))
    plainly _ _ (of_dictionary xs key has short plain ascending each) h =
        of_dictionary xs key has short plain ascending (λ k x e. plainly (out-Value x) (entry_of key has) (each k x e) (entry_is_plain key has h))
    plainly _ _ (of_channel n t e) h = absurd (cc)
    plainly _ _ (of_dist d t yields) h = absurd (cc)
    plainly _ _ (of_timer due) h = absurd (cc)
    plainly _ _ of_no_instance h = absurd (cc)
    plainly _ _ (of_instance n l) h = absurd (cc)

    parts_plainly : (xs : List Value) (parts : List (List ℕ × Ty)) → PartsOf w xs parts → list_all holds (map (beside types.is_plain) parts) ≡ true → PartsOf (nowhere w.names) xs parts
    parts_plainly _ _ no_part h = no_part
    parts_plainly _ _ (one_part x xs part parts is are) h =
        one_part x xs part parts (plainly (out-Value x) (out-Ty part.1) is (kind_of_plain part.1 (and_parts _ _ h).0)) (parts_plainly xs parts are (and_parts _ _ h).1)

  pub all_plainly : (xs : List Value) (Ts : List Kind) → AreOf w xs Ts → list_all is_plain_kind Ts ≡ true → AreOf (nowhere w.names) xs Ts
  all_plainly _ _ none_of h = none_of
  all_plainly _ _ (one_of x xs T Ts is are) h = one_of x xs T Ts (plainly (out-Value x) T is (and_parts _ _ h).0) (all_plainly xs Ts are (and_parts _ _ h).1)
