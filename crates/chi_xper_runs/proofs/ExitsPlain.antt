-- A value of a plain kind names no channel and no instance.
use Rattle.std.proofs.Common.{◌≡◌, true, ◌&&◌, List, ℕ, map, refl, sym, ◌∙◌}
use Rattle.std.proofs.lemmas.Bool.{and_from, and_parts}
use Rattle.std.specs.List.{list_all}
use Rattle.chi_types.specs.declared.ty.Ty.{Ty, out-Ty}
use Rattle.chi_types.specs.Plain.{is_plain, holds}
use Rattle.chi_types.specs.Same.{beside}
use Rattle.chi_value.specs.declared.value.Value.{Value, Value-F, out-Value}
use Rattle.chi_core.specs.Kinds.{Kind, entry_of, is_plain_kind}
use Rattle.chi_core.specs.Of.{World, nowhere, Of, of_bool, of_int, of_real, of_text, of_choice, of_tuple, of_list, of_set, of_dictionary, of_channel, of_dist, of_timer, of_no_instance, of_instance, PartsOf, no_part, one_part, IsOf}
use Rattle.chi_core.proofs.Erased.{plain_at}

kind_of_plain : (t : Ty) → is_plain t ≡ true → is_plain_kind (out-Ty t) ≡ true
kind_of_plain t h = sym (plain_at t (out-Ty t) refl) ∙ h

entry_is_plain : (key has : Ty) → (is_plain key && is_plain has) ≡ true → is_plain_kind (entry_of key has) ≡ true
entry_is_plain key has h = and_from _ _ (and_parts _ _ h).0 (and_from _ _ (and_parts _ _ h).1 refl)

module _ (w : World) where
  mutual
    plain_nowhere : (x : Value-F Value) (T : Kind) → Of w x T → is_plain_kind T ≡ true → Of (nowhere w.names) x T
    plain_nowhere _ _ (of_bool b) h = of_bool b
    plain_nowhere _ _ (of_int n) h = of_int n
    plain_nowhere _ _ (of_real n) h = of_real n
    plain_nowhere _ _ (of_text bytes short) h = of_text bytes short
    plain_nowhere _ _ (of_choice enumeration position name e) h = of_choice enumeration position name e
    plain_nowhere _ _ (of_tuple xs parts are) h = of_tuple xs parts (parts_nowhere xs parts are h)
    plain_nowhere _ _ (of_list xs t short each) h = of_list xs t short (λ k x e. plain_nowhere (out-Value x) (out-Ty t) (each k x e) (kind_of_plain t h))
    plain_nowhere _ _ (of_set xs t short plain ascending each) h =
        of_set xs t short plain ascending (λ k x e. plain_nowhere (out-Value x) (out-Ty t) (each k x e) (kind_of_plain t h))
    plain_nowhere _ _ (of_dictionary xs key has short plain ascending each) h =
        of_dictionary xs key has short plain ascending (λ k x e. plain_nowhere (out-Value x) (entry_of key has) (each k x e) (entry_is_plain key has h))
    plain_nowhere _ _ (of_channel n t e) h = absurd (cc)
    plain_nowhere _ _ (of_dist d t yields) h = absurd (cc)
    plain_nowhere _ _ (of_timer due) h = absurd (cc)
    plain_nowhere _ _ of_no_instance h = absurd (cc)
    plain_nowhere _ _ (of_instance n l) h = absurd (cc)

    parts_nowhere : (xs : List Value) (parts : List (List ℕ × Ty)) → PartsOf w xs parts → list_all holds (map (beside is_plain) parts) ≡ true → PartsOf (nowhere w.names) xs parts
    parts_nowhere _ _ no_part h = no_part
    parts_nowhere _ _ (one_part x xs part parts is are) h =
        one_part x xs part parts (plain_nowhere (out-Value x) (out-Ty part.1) is (kind_of_plain part.1 (and_parts _ _ h).0)) (parts_nowhere xs parts are (and_parts _ _ h).1)

  -- it is of its kind where nothing may be named
  pub plain_value : (v : Value) (T : Kind) → is_plain_kind T ≡ true → IsOf w T v → IsOf (nowhere w.names) T v
  plain_value v T h is = plain_nowhere (out-Value v) T is h
