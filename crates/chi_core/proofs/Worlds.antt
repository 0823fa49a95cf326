-- What is of a kind stays so where more may be named.
use Rattle.std.proofs.Common.{◌≡◌, ℕ, zero, suc, Some, le_refl, le_trans, lt_of_lt_of_le, List, [], ◌∷◌, ◌++◌, arith, refl, sym, subst, ◌∙◌}
use Rattle.std.specs.Prelude.{slice_get}
use Rattle.chi_types.specs.declared.ty.Ty.{Ty, out-Ty}
use Rattle.chi_value.specs.declared.value.Value.{Value, Value-F, out-Value}
use Rattle.chi_value.specs.Names.{name_at}
use Rattle.chi_core.specs.Kinds.{Kind, entry_of}
use Rattle.chi_core.specs.Of.{World, Wider, nowhere, Of, of_bool, of_int, of_real, of_text, of_choice, of_tuple, of_list, of_set, of_dictionary, of_channel, of_dist, of_timer, of_no_instance, of_instance, PartsOf, no_part, one_part, IsOf, AreOf, none_of, one_of}

pub get_before : {A : Type 0} (xs ys : List A) (k : ℕ) (x : A) → slice_get xs k ≡ Some x → slice_get (xs ++ ys) k ≡ Some x
get_before [] ys k x e = absurd (cc)
get_before (z ∷ xs) ys zero x e = e
get_before (z ∷ xs) ys (suc k) x e = get_before xs ys k x e

pub same_world : (w : World) → Wider w w
same_world w = record { names = refl; carried = λ n t e. e; instances = le_refl w.instances }

pub wider_still : (u w v : World) → Wider u w → Wider w v → Wider u v
wider_still u w v a b = record {
  names = b.names ∙ a.names;
  carried = λ n t e. b.carried n t (a.carried n t e);
  instances = le_trans a.instances b.instances;
}

pub from_nowhere : (w : World) → Wider (nowhere w.names) w
from_nowhere w = record { names = refl; carried = λ n t e. absurd (cc); instances = omega arith }

-- one more channel
pub with_channel : (w : World) (t : Ty) → Wider w (record w { carried = w.carried ++ t ∷ [] })
with_channel w t = record { names = refl; carried = λ n u e. get_before w.carried (t ∷ []) n u e; instances = le_refl w.instances }

mutual
  pub grows : (w v : World) → Wider w v → (x : Value-F Value) (T : Kind) → Of w x T → Of v x T
  grows w v h _ _ (of_bool b) = of_bool b
  grows w v h _ _ (of_int n) = of_int n
  grows w v h _ _ (of_real n) = of_real n
  grows w v h _ _ (of_text bytes short) = of_text bytes short
  grows w v h _ _ (of_choice enumeration position name e) =
      of_choice enumeration position name (subst (λ names. name_at names enumeration position ≡ Some name) (sym h.names) e)
  grows w v h _ _ (of_tuple xs parts are) = of_tuple xs parts (parts_grow w v h xs parts are)
  grows w v h _ _ (of_list xs t short each) = of_list xs t short (λ k x e. grows w v h (out-Value x) (out-Ty t) (each k x e))
  grows w v h _ _ (of_set xs t short plain ascending each) = of_set xs t short plain ascending (λ k x e. grows w v h (out-Value x) (out-Ty t) (each k x e))
  grows w v h _ _ (of_dictionary xs key has short plain ascending each) =
      of_dictionary xs key has short plain ascending (λ k x e. grows w v h (out-Value x) (entry_of key has) (each k x e))
  grows w v h _ _ (of_channel n t e) = of_channel n t (h.carried n t e)
  grows w v h _ _ (of_dist d t e) = of_dist d t e
  grows w v h _ _ (of_timer due) = of_timer due
  grows w v h _ _ of_no_instance = of_no_instance
  grows w v h _ _ (of_instance n l) = of_instance n (lt_of_lt_of_le l h.instances)

  pub parts_grow : (w v : World) → Wider w v → (xs : List Value) (parts : List (List ℕ × Ty)) → PartsOf w xs parts → PartsOf v xs parts
  parts_grow w v h _ _ no_part = no_part
  parts_grow w v h _ _ (one_part x xs part parts is are) = one_part x xs part parts (grows w v h (out-Value x) (out-Ty part.1) is) (parts_grow w v h xs parts are)

pub are_grow : (w v : World) → Wider w v → (xs : List Value) (Ts : List Kind) → AreOf w xs Ts → AreOf v xs Ts
are_grow w v h _ _ none_of = none_of
are_grow w v h _ _ (one_of x xs T Ts is are) = one_of x xs T Ts (grows w v h (out-Value x) T is) (are_grow w v h xs Ts are)

pub value_grows : (w v : World) → Wider w v → (a : Value) (T : Kind) → IsOf w T a → IsOf v T a
value_grows w v h a T is = grows w v h (out-Value a) T is
