-- A stable sort without its repeats is the list in order: both ascend, and have the same of each element's ties.
use Rattle.std.proofs.Common.{◌≡◌, ℕ, zero, suc, ◌<◌, ◌≤◌, Bool, true, false, cond, not, ◌&&◌, List, [], ◌∷◌, ◌++◌, reverse, filter, fold, length, get_or, Ordering, Less, Equal, Greater, is_eq, is_lt, refl, sym, ap, subst, ◌∙◌, arith, append-nil}
use mathlib.Core.List.{reverse-cons}
use Rattle.std.proofs.lemmas.Bool.{false≢true, and_parts, and_from, cases_Bool}
use Rattle.std.proofs.lemmas.Cmp.{tied_itself, tied_back, alike_right}
use Rattle.std.proofs.lemmas.List.Elements.{filter-append}
use Rattle.std.proofs.lemmas.List.Sorted.{sorted_far, ranks_by}
use Rattle.std.specs.Cmp.{IsTotalOrder}
use Rattle.std.specs.List.{list_all, dedup, dedup_from}
use Rattle.std.specs.List.Sorted.{IsSortedBy, IsStableBy, ties as level}
use Rattle.chi_sets.specs.Ascending.{below_by, ties_by, ascends, placed, in_order}
use Rattle.chi_sets.proofs.Ascending.{less, equal, back, filter_none, head_below, head_ascends, tail_ascends, ascends_in_order, tied_above, all_above, all_weaker}

-- the first of some elements, or else others
abbrev pub first_or : {A : Type 0} → List A → List A → List A
first_or [] ws = ws
first_or (v ∷ vs) ws = v ∷ []

filter_within : {A : Type 0} (p q : A → Bool) (within : (y : A) → p y ≡ true → q y ≡ true) (xs : List A) → filter p (filter q xs) ≡ filter p xs
filter_within p q within [] = refl
filter_within p q within (x ∷ xs) = split (q x) (p x) refl refl (filter_within p q within xs)
  where
    split : (b c : Bool) → q x ≡ b → p x ≡ c → filter p (filter q xs) ≡ filter p xs →
        filter p (cond b (x ∷ filter q xs) (filter q xs)) ≡ cond (p x) (x ∷ filter p xs) (filter p xs)
    split true c e f rest = ap (λ ys. cond (p x) (x ∷ ys) ys) rest
    split false true e f rest = absurd (false≢true (sym e ∙ within x f))
    split false false e f rest = rw f rest

filter_apart : {A : Type 0} (p q : A → Bool) (apart : (y : A) → p y ≡ true → q y ≡ false) (xs : List A) → filter p (filter q xs) ≡ []
filter_apart p q apart [] = refl
filter_apart p q apart (x ∷ xs) = split (q x) (p x) refl refl (filter_apart p q apart xs)
  where
    split : (b c : Bool) → q x ≡ b → p x ≡ c → filter p (filter q xs) ≡ [] → filter p (cond b (x ∷ filter q xs) (filter q xs)) ≡ []
    split true true e f rest = absurd (false≢true (sym (apart x f) ∙ e))
    split true false e f rest = rw f rest
    split false c e f rest = rest

first_or_push : {A : Type 0} (us : List A) (b : Bool) (x : A) (ws : List A) → first_or (us ++ cond b (x ∷ []) []) ws ≡ first_or us (cond b (x ∷ []) ws)
first_or_push [] true x ws = refl
first_or_push [] false x ws = refl
first_or_push (u ∷ us) b x ws = refl

abbrev is_nil : {A : Type 0} → List A → Bool
is_nil [] = true
is_nil (x ∷ xs) = false

abbrev head_or : {A : Type 0} → A → List A → A
head_or d [] = d
head_or d (x ∷ xs) = x

module _ {A : Type 0} (R : A → A → Ordering) (o : IsTotalOrder R) where
  abbrev below : A → A → Bool
  below = below_by R

  -- those that tie with z
  abbrev class : A → List A → List A
  class z = filter (ties_by R z)

  pub class_placed : (z x : A) (ws : List A) → class z (placed R ws x) ≡ cond (ties_by R z x) (x ∷ []) (class z ws)
  class_placed z x ws = filter-append (ties_by R z) (filter (λ y. below y x) ws) (x ∷ filter (below x) ws) ∙ split (R z x) refl
    where
      -- of those that tie with z, how one stands to x
      stands : (y : A) → ties_by R z y ≡ true → R y x ≡ R z x
      stands y h = sym (o.congr z y x (equal _ h))

      stood : (y : A) → ties_by R z y ≡ true → R x y ≡ R x z
      stood y h = sym (alike_right o z y x (equal _ h))

      split : (r : Ordering) → R z x ≡ r →
          class z (filter (λ y. below y x) ws) ++ cond (ties_by R z x) (x ∷ class z (filter (below x) ws)) (class z (filter (below x) ws)) ≡ cond (ties_by R z x) (x ∷ []) (class z ws)
      split Less e =
          rw (e, filter_within (ties_by R z) (λ y. below y x) (λ y h. ap is_lt (stands y h ∙ e)) ws, filter_apart (ties_by R z) (below x) (λ y h. ap is_lt (stood y h ∙ back R o z x Less e)) ws)
          (append-nil (class z ws))
      split Equal e =
          rw (e, filter_apart (ties_by R z) (λ y. below y x) (λ y h. ap is_lt (stands y h ∙ e)) ws, filter_apart (ties_by R z) (below x) (λ y h. ap is_lt (stood y h ∙ back R o z x Equal e)) ws)
          refl
      split Greater e =
          rw (e, filter_apart (ties_by R z) (λ y. below y x) (λ y h. ap is_lt (stands y h ∙ e)) ws, filter_within (ties_by R z) (below x) (λ y h. ap is_lt (stood y h ∙ back R o z x Greater e)) ws)
          refl

  class_gathered : (z : A) (ws xs : List A) → class z (fold (placed R) ws xs) ≡ first_or (class z (reverse xs)) (class z ws)
  class_gathered z ws [] = refl
  class_gathered z ws (x ∷ xs) =
      class_gathered z (placed R ws x) xs ∙
      ap (first_or (class z (reverse xs))) (class_placed z x ws) ∙
      sym (first_or_push (class z (reverse xs)) (ties_by R z x) x (class z ws)) ∙
      ap (λ us. first_or us (class z ws)) (sym (filter-append (ties_by R z) (reverse xs) (x ∷ [])) ∙ ap (class z) (sym (reverse-cons x xs)))

  -- of an element's ties, the last that is given stays
  pub class_in_order : (z : A) (xs : List A) → class z (in_order R xs) ≡ first_or (class z (reverse xs)) []
  class_in_order z xs = class_gathered z [] xs

  -- ascending lists that have the same of each element's ties are one

  untied : (z : A) (x : A) (xs : List A) → R z x ≡ Equal → list_all (below x) xs ≡ true → class z xs ≡ []
  untied z x xs e all = filter_none (below z) (ties_by R z) (λ y h. ap is_eq (less _ h)) xs (tied_above R o z x xs e all)

  pub one_list : (us vs : List A) → ascends R us ≡ true → ascends R vs ≡ true → ((z : A) → class z us ≡ class z vs) → us ≡ vs
  one_list [] [] up up' same = refl
  one_list [] (v ∷ vs) up up' same = absurd (false≢true (sym (ap is_nil (same v ∙ ap (λ r. cond (is_eq r) (v ∷ class v vs) (class v vs)) (tied_itself o v)))))
  one_list (u ∷ us) [] up up' same = absurd (false≢true (ap is_nil (sym (ap (λ r. cond (is_eq r) (u ∷ class u us) (class u us)) (tied_itself o u)) ∙ same u)))
  one_list (u ∷ us) (v ∷ vs) up up' same = split (R u v) refl (one_list us vs (tail_ascends R o u us up) (tail_ascends R o v vs up'))
    where
      own : (x : A) (xs : List A) → class x (x ∷ xs) ≡ x ∷ class x xs
      own x xs = ap (λ r. cond (is_eq r) (x ∷ class x xs) (class x xs)) (tied_itself o x)

      -- an element that is below all of a list is not in it
      missing : {B : Type 0} (x : A) (xs ys : List A) → list_all (below x) ys ≡ true → class x (x ∷ xs) ≡ class x ys → B
      missing x xs ys all e = absurd (false≢true (ap is_nil (sym (own x xs) ∙ e ∙ untied x x ys (tied_itself o x) all)))

      below_all : (x y : A) (ys : List A) → R x y ≡ Less → ascends R (y ∷ ys) ≡ true → list_all (below x) (y ∷ ys) ≡ true
      below_all x y ys e up = and_from _ _ (ap is_lt e) (all_above R o x y ys (ap is_lt e) (head_below R o y ys up))

      -- without the first of both
      same_rest : R u v ≡ Equal → (z : A) (r : Ordering) → R z u ≡ r → R z v ≡ r → class z us ≡ class z vs
      same_rest e z Less f g = sym (ap (λ r. cond (is_eq r) (u ∷ class z us) (class z us)) f) ∙ same z ∙ ap (λ r. cond (is_eq r) (v ∷ class z vs) (class z vs)) g
      same_rest e z Equal f g = untied z u us f (head_below R o u us up) ∙ sym (untied z v vs g (head_below R o v vs up'))
      same_rest e z Greater f g = sym (ap (λ r. cond (is_eq r) (u ∷ class z us) (class z us)) f) ∙ same z ∙ ap (λ r. cond (is_eq r) (v ∷ class z vs) (class z vs)) g

      split : (r : Ordering) → R u v ≡ r → (((z : A) → class z us ≡ class z vs) → us ≡ vs) → u ∷ us ≡ v ∷ vs
      split Less e rest = missing u us (v ∷ vs) (below_all u v vs e up') (same u)
      split Equal e rest =
          let first : u ≡ v = ap (head_or u) (sym (own u us) ∙ same u ∙ ap (λ r. cond (is_eq r) (v ∷ class u vs) (class u vs)) e) in
          let others = rest (λ z. same_rest e z (R z u) refl (sym (alike_right o u v z e))) in
          λ i. first i ∷ others i
      split Greater e rest = missing v vs (u ∷ us) (below_all v u us (back R o u v Greater e) up) (sym (same v))

  -- a sorted list: none is below one before it

  abbrev not_below : A → A → Bool
  not_below x y = not (below y x)

  abbrev sorted : List A → Bool
  sorted [] = true
  sorted (x ∷ xs) = list_all (not_below x) xs && sorted xs

  none_below : (x : A) (ys : List A) → ((j : ℕ) (d : A) → j < length ys → below (get_or ys j d) x ≡ false) → list_all (not_below x) ys ≡ true
  none_below x [] h = refl
  none_below x (y ∷ ys) h = and_from _ _ (ap not (h 0 y (omega arith))) (none_below x ys (λ j d within. h (suc j) d (omega (arith, within))))

  sorted_from_far : (xs : List A) → ((i j : ℕ) (d : A) → i ≤ j → j < length xs → below (get_or xs j d) (get_or xs i d) ≡ false) → sorted xs ≡ true
  sorted_from_far [] h = refl
  sorted_from_far (x ∷ xs) h =
      and_from _ _ (none_below x xs (λ j d within. h 0 (suc j) d (omega arith) (omega (arith, within))))
      (sorted_from_far xs (λ i j d le within. h (suc i) (suc j) d (omega (arith, le)) (omega (arith, within))))

  -- what comes after one that is above k is above k
  above_k : (k x y : A) → R x k ≡ Greater → not_below x y ≡ true → below k y ≡ true
  above_k k x y e h = split (R y x) refl
    where
      up : R k x ≡ Less
      up = back R o x k Greater e

      split : (r : Ordering) → R y x ≡ r → below k y ≡ true
      split Less f = absurd (false≢true (sym (ap (λ r. not (is_lt r)) f) ∙ h))
      split Equal f = ap is_lt (alike_right o y x k f ∙ up)
      split Greater f = ap is_lt (o.trans k x y up (back R o y x Greater f))

  all_above_k : (k x : A) (xs : List A) → R x k ≡ Greater → list_all (not_below x) xs ≡ true → list_all (below k) (x ∷ xs) ≡ true
  all_above_k k x xs e all = and_from _ _ (ap is_lt (back R o x k Greater e)) (all_weaker (not_below x) (below k) (λ y. above_k k x y e) xs all)

  -- a sorted list without its repeats

  abbrev same : A → A → Bool
  same x k = is_eq (R x k)

  all_left : (p : A → Bool) (k : A) (xs : List A) → list_all p (k ∷ xs) ≡ true → list_all p (dedup_from same k xs) ≡ true
  all_left p k [] all = all
  all_left p k (x ∷ xs) all =
      let first = and_parts (p k) (list_all p (x ∷ xs)) all in
      let second = and_parts (p x) (list_all p xs) first.1 in
      split (same x k) first.0 (all_left p k xs (and_from _ _ first.0 second.1)) (all_left p x xs first.1)
    where
      split : (b : Bool) → p k ≡ true → list_all p (dedup_from same k xs) ≡ true → list_all p (dedup_from same x xs) ≡ true →
          list_all p (cond b (dedup_from same k xs) (k ∷ dedup_from same x xs)) ≡ true
      split true one without after = without
      split false one without after = and_from _ _ one after

  not_less : {B : Type 0} (x k : A) → R x k ≡ Less → not_below k x ≡ true → B
  not_less x k e h = absurd (false≢true (sym (ap (λ r. not (is_lt r)) e) ∙ h))

  -- a sorted list, and the same without its second element
  record Sorts (k x : A) (xs : List A) : Type 0 where
    first_up : not_below k x ≡ true
    without : sorted (k ∷ xs) ≡ true
    after : sorted (x ∷ xs) ≡ true
    above : list_all (not_below x) xs ≡ true

  sorts : (k x : A) (xs : List A) → sorted (k ∷ (x ∷ xs)) ≡ true → Sorts k x xs
  sorts k x xs up =
      let both = and_parts (list_all (not_below k) (x ∷ xs)) (sorted (x ∷ xs)) up in
      let low = and_parts (not_below k x) (list_all (not_below k) xs) both.0 in
      let rest = and_parts (list_all (not_below x) xs) (sorted xs) both.1 in
      record { first_up = low.0; without = and_from _ _ low.1 rest.1; after = both.1; above = rest.0 }

  ascends_left : (k : A) (xs : List A) → sorted (k ∷ xs) ≡ true → ascends R (dedup_from same k xs) ≡ true
  ascends_left k [] up = refl
  ascends_left k (x ∷ xs) up =
      let parts = sorts k x xs up in
      split (R x k) refl parts (ascends_left k xs parts.without) (ascends_left x xs parts.after)
    where
      split : (r : Ordering) → R x k ≡ r → Sorts k x xs → ascends R (dedup_from same k xs) ≡ true → ascends R (dedup_from same x xs) ≡ true →
          ascends R (cond (same x k) (dedup_from same k xs) (k ∷ dedup_from same x xs)) ≡ true
      split Less e parts without after = not_less x k e parts.first_up
      split Equal e parts without after = rw e without
      split Greater e parts without after =
          rw e (head_ascends R o k (dedup_from same x xs) (all_left (below k) x xs (all_above_k k x xs e parts.above)) after)

  one_or_none : (b : Bool) (k : A) → cond b (k ∷ []) [] ≡ first_or (cond b (k ∷ []) []) []
  one_or_none true k = refl
  one_or_none false k = refl

  first_of_tied : (b : Bool) (k x : A) (xs : List A) →
      first_or (cond b (k ∷ xs) xs) [] ≡ first_or (cond b (k ∷ cond b (x ∷ xs) xs) (cond b (x ∷ xs) xs)) []
  first_of_tied true k x xs = refl
  first_of_tied false k x xs = refl

  class_left : (z k : A) (xs : List A) → sorted (k ∷ xs) ≡ true → class z (dedup_from same k xs) ≡ first_or (class z (k ∷ xs)) []
  class_left z k [] up = one_or_none (ties_by R z k) k
  class_left z k (x ∷ xs) up =
      let parts = sorts k x xs up in
      split (R x k) refl parts (class_left z k xs parts.without) (class_left z x xs parts.after)
    where
      above : (r : Ordering) → R z k ≡ r → R x k ≡ Greater → list_all (not_below x) xs ≡ true →
          class z (dedup_from same x xs) ≡ first_or (class z (x ∷ xs)) [] →
          class z (k ∷ dedup_from same x xs) ≡ first_or (class z (k ∷ (x ∷ xs))) []
      above Less f e all after = rw f after
      above Equal f e all after =
          rw f (ap (λ ys. k ∷ ys) (untied z k (dedup_from same x xs) f (all_left (below k) x xs (all_above_k k x xs e all))))
      above Greater f e all after = rw f after

      split : (r : Ordering) → R x k ≡ r → Sorts k x xs →
          class z (dedup_from same k xs) ≡ first_or (class z (k ∷ xs)) [] → class z (dedup_from same x xs) ≡ first_or (class z (x ∷ xs)) [] →
          class z (cond (same x k) (dedup_from same k xs) (k ∷ dedup_from same x xs)) ≡ first_or (class z (k ∷ (x ∷ xs))) []
      split Less e parts without after = not_less x k e parts.first_up
      split Equal e parts without after =
          ap (λ r. class z (cond (is_eq r) (dedup_from same k xs) (k ∷ dedup_from same x xs))) e ∙ without ∙
          first_of_tied (ties_by R z k) k x (class z xs) ∙
          ap (λ r. first_or (cond (ties_by R z k) (k ∷ cond (is_eq r) (x ∷ class z xs) (class z xs)) (cond (is_eq r) (x ∷ class z xs) (class z xs))) []) (sym (alike_right o x k z e))
      split Greater e parts without after =
          ap (λ r. class z (cond (is_eq r) (dedup_from same k xs) (k ∷ dedup_from same x xs))) e ∙ above (R z k) refl e parts.above after

  level_is : (z y : A) → (not (below z y) && not (below y z)) ≡ ties_by R z y
  level_is z y = split (R z y) refl
    where
      split : (r : Ordering) → R z y ≡ r → (not (below z y) && not (below y z)) ≡ ties_by R z y
      split Less e = rw e refl
      split Equal e = rw (e, back R o z y Equal e) refl
      split Greater e = rw (e, back R o z y Greater e) refl

  left_in_order : (xs ys : List A) → sorted ys ≡ true → ((z : A) → class z ys ≡ class z (reverse xs)) → dedup same ys ≡ in_order R xs
  left_in_order xs [] up same_class =
      one_list [] (in_order R xs) refl (ascends_in_order R o xs) (λ z. ap (λ us. first_or us []) (same_class z) ∙ sym (class_in_order z xs))
  left_in_order xs (k ∷ ys) up same_class =
      one_list (dedup_from same k ys) (in_order R xs) (ascends_left k ys up) (ascends_in_order R o xs)
      (λ z. class_left z k ys up ∙ ap (λ us. first_or us []) (same_class z) ∙ sym (class_in_order z xs))

  -- a stable sort of a list that was turned round, without its repeats
  pub sorted_in_order : (xs ys : List A) → IsSortedBy below ys → IsStableBy below (reverse xs) ys → dedup same ys ≡ in_order R xs
  sorted_in_order xs ys up stable =
      left_in_order xs ys (sorted_from_far ys (sorted_far below (ranks_by o (λ y. y)) ys up))
      (λ z. (λ i. filter (λ y. sym (level_is z y) i) ys) ∙ stable z ∙ (λ i. filter (λ y. level_is z y i) (reverse xs)))
