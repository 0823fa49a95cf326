-- Two values of one kind are alike.
use Rattle.std.proofs.Common.{◌≡◌, ℕ, zero, suc, Bool, true, List, [], ◌∷◌, map, refl, sym, ap, ◌∙◌}
use Rattle.std.proofs.lemmas.Bool.{eq-eqb, and_from}
use Rattle.std.specs.List.{list_all}
use Rattle.chi_num.specs.declared.dist.Dist.{Dist}
use Rattle.chi_types.specs.declared.ty.Ty.{Ty, Ty-F, out-Ty}
use Rattle.chi_value.specs.declared.value.Value.{Value, Value-F, out-Value, fold_out-Value, map-Value}
use Rattle.chi_value.specs.Alike.{drawn_kind, parts_alike, is_alike_to, elements_alike, alike_step, alike}
use Rattle.chi_core.specs.Kinds.{Kind, Every, entry_of}
use Rattle.chi_core.specs.Of.{World, Of, of_bool, of_int, of_real, of_text, of_choice, of_tuple, of_list, of_set, of_dictionary, of_channel, of_dist, of_timer, of_no_instance, of_instance, PartsOf, no_part, one_part, IsOf, Yields, always_bool, always_int, always_real, some_int, some_real, some_bool, some_count, some_wait}

-- a test that each element passes, which is made of the element
pub all_pass : {A B : Type 0} (test : B → Bool) (f : A → B) (xs : List A) → Every (λ x. test (f x) ≡ true) xs → list_all test (map f xs) ≡ true
all_pass test f [] each = refl
all_pass test f (x ∷ xs) each = and_from _ _ (each zero x refl) (all_pass test f xs (λ k y e. each (suc k) y e))

pub each_passes : {A : Type 0} (test : A → Bool) (xs : List A) → Every (λ x. test x ≡ true) xs → list_all test xs ≡ true
each_passes test [] each = refl
each_passes test (x ∷ xs) each = and_from _ _ (each zero x refl) (each_passes test xs (λ k y e. each (suc k) y e))

alike_out : (a b : Value) → alike a b ≡ alike_step (map-Value Value (Value → Bool) alike (out-Value a)) (out-Value b)
alike_out a b = ap (λ f. f b) (fold_out-Value (Value → Bool) (λ layer other. alike_step layer (out-Value other)) a)

drawn_of : Kind → ℕ
drawn_of Ty-F.Bool = 0
drawn_of Ty-F.Int = 1
drawn_of _ = 2

drawn : (d : Dist) (T : Kind) → Yields d T → drawn_kind d ≡ drawn_of T
unfolding drawn_of
drawn _ _ (always_bool b) = refl
drawn _ _ (always_int n) = refl
drawn _ _ (always_real n) = refl
drawn _ _ (some_int a b stream l) = refl
drawn _ _ (some_real a b stream l) = refl
drawn _ _ (some_bool chance stream l) = refl
drawn _ _ (some_count trials chance stream l) = refl
drawn _ _ (some_wait mean stream l) = refl

module _ (w : World) where
  -- the elements of one container and of another, where each is alike to each
  elements : (xs ys : List Value) → Every (λ x. Every (λ y. alike x y ≡ true) ys) xs → elements_alike (map alike xs) ys ≡ true
  elements xs ys each = all_pass (is_alike_to ys) alike xs (λ k x e. each_passes (alike x) ys (each k x e))

  mutual
    pub kinds_alike : (x y : Value-F Value) (T : Kind) → Of w x T → Of w y T → alike_step (map-Value Value (Value → Bool) alike x) y ≡ true
    kinds_alike _ _ _ (of_bool b) (of_bool c) = refl
    kinds_alike _ _ _ (of_int n) (of_int m) = refl
    kinds_alike _ _ _ (of_real n) (of_real m) = refl
    kinds_alike _ _ _ (of_text bytes short) (of_text others short') = refl
    kinds_alike _ _ _ (of_choice enumeration position name e) (of_choice _ other name' e') = eq-eqb enumeration enumeration refl
    kinds_alike _ _ _ (of_tuple xs parts are) (of_tuple ys _ are') = parts_of_kinds xs ys parts are are'
    kinds_alike _ _ _ (of_list xs t short each) (of_list ys _ short' each') =
        elements xs ys (λ k x e j y e'. alike_out x y ∙ kinds_alike (out-Value x) (out-Value y) (out-Ty t) (each k x e) (each' j y e'))
    kinds_alike _ _ _ (of_set xs t short plain ascending each) (of_set ys _ short' plain' ascending' each') =
        elements xs ys (λ k x e j y e'. alike_out x y ∙ kinds_alike (out-Value x) (out-Value y) (out-Ty t) (each k x e) (each' j y e'))
    kinds_alike _ _ _ (of_dictionary xs key has short plain ascending each) (of_dictionary ys _ _ short' plain' ascending' each') =
        elements xs ys (λ k x e j y e'. alike_out x y ∙ kinds_alike (out-Value x) (out-Value y) (entry_of key has) (each k x e) (each' j y e'))
    kinds_alike _ _ _ (of_channel n t e) (of_channel m _ e') = refl
    kinds_alike _ _ _ (of_dist d t yields) (of_dist c _ yields') = eq-eqb (drawn_kind d) (drawn_kind c) (drawn d (out-Ty t) yields ∙ sym (drawn c (out-Ty t) yields'))
    kinds_alike _ _ _ (of_timer due) (of_timer due') = refl
    kinds_alike _ _ _ of_no_instance of_no_instance = refl
    kinds_alike _ _ _ of_no_instance (of_instance n l) = refl
    kinds_alike _ _ _ (of_instance n l) of_no_instance = refl
    kinds_alike _ _ _ (of_instance n l) (of_instance m l') = refl

    parts_of_kinds : (xs ys : List Value) (parts : List (List ℕ × Ty)) → PartsOf w xs parts → PartsOf w ys parts → parts_alike (map alike xs) ys ≡ true
    parts_of_kinds _ _ _ no_part no_part = refl
    parts_of_kinds _ _ _ (one_part x xs part parts is are) (one_part y ys _ _ is' are') =
        and_from _ _ (alike_out x y ∙ kinds_alike (out-Value x) (out-Value y) (out-Ty part.1) is is') (parts_of_kinds xs ys parts are are')

  pub alike_of : (a b : Value) (T : Kind) → IsOf w T a → IsOf w T b → alike a b ≡ true
  alike_of a b T h l = alike_out a b ∙ kinds_alike (out-Value a) (out-Value b) T h l
