-- Ascending lists by a total order: what placing an element does, and when two of them are one.
use Rattle.std.proofs.Common.{◌≡◌, Bool, true, false, cond, not, ◌&&◌, ◌||◌, List, [], ◌∷◌, ◌++◌, filter, fold, Ordering, Less, Equal, Greater, is_eq, is_lt, refl, sym, ap, ◌∙◌, append-nil}
use Rattle.std.proofs.lemmas.Bool.{false≢true, and_parts, and_from, cases_Bool}
use Rattle.std.proofs.lemmas.Cmp.{tied_itself, tied_back, alike_right}
use Rattle.std.proofs.lemmas.List.Elements.{filter-append}
use Rattle.std.proofs.lemmas.List.Folds.{list_any-append, list_all-append}
use Rattle.std.proofs.lemmas.List.Sums.{fold-append}
use Rattle.std.specs.Cmp.{IsTotalOrder}
use Rattle.std.specs.List.{list_any, list_all}
use Rattle.std.specs.Ordering.{ordering_reverse}
use Rattle.chi_sets.specs.Ascending.{below_by, ties_by, ascends, placed, in_order}

-- filters

pub filter_all : {A : Type 0} (p : A → Bool) (xs : List A) → list_all p xs ≡ true → filter p xs ≡ xs
filter_all p [] all = refl
filter_all p (x ∷ xs) all =
    let both = and_parts (p x) (list_all p xs) all in
    rw both.0 (ap (λ ys. x ∷ ys) (filter_all p xs both.1))

pub filter_none : {A : Type 0} (p q : A → Bool) (apart : (y : A) → p y ≡ true → q y ≡ false) (xs : List A) → list_all p xs ≡ true → filter q xs ≡ []
filter_none p q apart [] all = refl
filter_none p q apart (x ∷ xs) all =
    let both = and_parts (p x) (list_all p xs) all in
    rw (apart x both.0) (filter_none p q apart xs both.1)

pub all_weaker : {A : Type 0} (p q : A → Bool) (weaker : (y : A) → p y ≡ true → q y ≡ true) (xs : List A) → list_all p xs ≡ true → list_all q xs ≡ true
all_weaker p q weaker [] all = refl
all_weaker p q weaker (x ∷ xs) all =
    let both = and_parts (p x) (list_all p xs) all in
    and_from _ _ (weaker x both.0) (all_weaker p q weaker xs both.1)

pub all_filter : {A : Type 0} (p q : A → Bool) (xs : List A) → list_all p xs ≡ true → list_all p (filter q xs) ≡ true
all_filter p q [] all = refl
all_filter p q (x ∷ xs) all =
    let both = and_parts (p x) (list_all p xs) all in
    let rest = all_filter p q xs both.1 in
    kept (q x) both.0 rest
  where
    kept : (b : Bool) → p x ≡ true → list_all p (filter q xs) ≡ true → list_all p (cond b (x ∷ filter q xs) (filter q xs)) ≡ true
    kept true first rest = and_from _ _ first rest
    kept false first rest = rest

pub filter_where : {A : Type 0} (given p q : A → Bool) (same : (x : A) → given x ≡ true → p x ≡ q x) (xs : List A) → list_all given xs ≡ true →
    filter p xs ≡ filter q xs
filter_where given p q same [] all = refl
filter_where given p q same (x ∷ xs) all =
    let both = and_parts (given x) (list_all given xs) all in
    let first = same x both.0 in
    let rest = filter_where given p q same xs both.1 in
    λ i. cond (first i) (x ∷ rest i) (rest i)

pub all_where : {A : Type 0} (given p q : A → Bool) (same : (x : A) → given x ≡ true → p x ≡ q x) (xs : List A) → list_all given xs ≡ true →
    list_all p xs ≡ list_all q xs
all_where given p q same [] all = refl
all_where given p q same (x ∷ xs) all =
    let both = and_parts (given x) (list_all given xs) all in
    let first = same x both.0 in
    let rest = all_where given p q same xs both.1 in
    λ i. first i && rest i

pub filter_by : {A : Type 0} (b : Bool) (xs : List A) → filter (λ x. b) xs ≡ cond b xs []
filter_by true [] = refl
filter_by true (x ∷ xs) = ap (λ ys. x ∷ ys) (filter_by true xs)
filter_by false [] = refl
filter_by false (x ∷ xs) = filter_by false xs

pub never : {A : Type 0} (xs : List A) → list_any (λ x. false) xs ≡ false
never [] = refl
never (x ∷ xs) = never xs

-- what an answer of the order says of the other tests

pub less : (r : Ordering) → is_lt r ≡ true → r ≡ Less
less Less e = refl
less Equal e = absurd (false≢true e)
less Greater e = absurd (false≢true e)

pub equal : (r : Ordering) → is_eq r ≡ true → r ≡ Equal
equal Less e = absurd (false≢true e)
equal Equal e = refl
equal Greater e = absurd (false≢true e)

module _ {A : Type 0} (R : A → A → Ordering) (o : IsTotalOrder R) where
  abbrev below : A → A → Bool
  below = below_by R

  abbrev ties : A → A → Bool
  ties = ties_by R

  abbrev place : List A → A → List A
  place = placed R

  pub back : (x y : A) (r : Ordering) → R x y ≡ r → R y x ≡ ordering_reverse r
  back x y r e = o.antisymm y x ∙ ap ordering_reverse e

  pub below_steps : (x y z : A) → below x y ≡ true → below y z ≡ true → below x z ≡ true
  below_steps x y z h k = ap is_lt (o.trans x y z (less _ h) (less _ k))

  not_back : (x y : A) → below x y ≡ true → below y x ≡ false
  not_back x y h = ap is_lt (back x y Less (less _ h))

  tie_below : (x y z : A) → R x y ≡ Equal → below y z ≡ true → below x z ≡ true
  tie_below x y z e h = ap is_lt (o.congr x y z e) ∙ h

  below_tie : (x y z : A) → R x y ≡ Equal → below z y ≡ true → below z x ≡ true
  below_tie x y z e h = ap is_lt (alike_right o x y z e) ∙ h

  -- an element that is below the first of ascending ones is below all

  pub all_above : (x y : A) (zs : List A) → below x y ≡ true → list_all (below y) zs ≡ true → list_all (below x) zs ≡ true
  all_above x y zs h all = all_weaker (below y) (below x) (λ z. below_steps x y z h) zs all

  pub tied_above : (x y : A) (zs : List A) → R x y ≡ Equal → list_all (below y) zs ≡ true → list_all (below x) zs ≡ true
  tied_above x y zs e all = all_weaker (below y) (below x) (λ z. tie_below x y z e) zs all

  pub tail_ascends : (x : A) (xs : List A) → ascends R (x ∷ xs) ≡ true → ascends R xs ≡ true
  tail_ascends x [] up = refl
  tail_ascends x (y ∷ ys) up = (and_parts (below x y) (ascends R (y ∷ ys)) up).1

  pub head_below : (x : A) (xs : List A) → ascends R (x ∷ xs) ≡ true → list_all (below x) xs ≡ true
  head_below x [] up = refl
  head_below x (y ∷ ys) up =
      let both = and_parts (below x y) (ascends R (y ∷ ys)) up in
      and_from _ _ both.0 (all_above x y ys both.0 (head_below y ys both.1))

  pub head_ascends : (x : A) (xs : List A) → list_all (below x) xs ≡ true → ascends R xs ≡ true → ascends R (x ∷ xs) ≡ true
  head_ascends x [] all up = refl
  head_ascends x (y ∷ ys) all up = and_from _ _ (and_parts (below x y) (list_all (below x) ys) all).0 up

  pub ascends_filter : (p : A → Bool) (xs : List A) → ascends R xs ≡ true → ascends R (filter p xs) ≡ true
  ascends_filter p [] up = refl
  ascends_filter p (x ∷ xs) up = kept (p x) (ascends_filter p xs (tail_ascends x xs up))
    where
      kept : (b : Bool) → ascends R (filter p xs) ≡ true → ascends R (cond b (x ∷ filter p xs) (filter p xs)) ≡ true
      kept true rest = head_ascends x (filter p xs) (all_filter (below x) p xs (head_below x xs up)) rest
      kept false rest = rest

  -- an element is placed before what it is below, after what is below it, and in the place of what ties

  pub placed_first : (x : A) (ws : List A) → list_all (below x) ws ≡ true → place ws x ≡ x ∷ ws
  placed_first x ws all = λ i. filter_none (below x) (λ y. below y x) (λ y. not_back x y) ws all i ++ x ∷ filter_all (below x) ws all i

  pub placed_after : (w x : A) (ws : List A) → below w x ≡ true → place (w ∷ ws) x ≡ w ∷ place ws x
  placed_after w x ws h = rw (h, not_back w x h)

  pub placed_at : (w x : A) (ws : List A) → R w x ≡ Equal → list_all (below w) ws ≡ true → place (w ∷ ws) x ≡ x ∷ ws
  placed_at w x ws e all =
      rw (e, back w x Equal e) (placed_first x ws (tied_above x w ws (back w x Equal e) all))

  -- what holds of the elements and of one more holds of all after it is placed
  pub all_placed : (p : A → Bool) (ws : List A) (x : A) → list_all p ws ≡ true → p x ≡ true → list_all p (place ws x) ≡ true
  all_placed p ws x all one =
      list_all-append p (filter (λ y. below y x) ws) (x ∷ filter (below x) ws) ∙
      and_from _ _ (all_filter p _ ws all) (and_from _ _ one (all_filter p _ ws all))

  pub all_gathered : (p : A → Bool) (ws xs : List A) → list_all p ws ≡ true → list_all p xs ≡ true → list_all p (fold place ws xs) ≡ true
  all_gathered p ws [] all more = all
  all_gathered p ws (x ∷ xs) all more =
      let both = and_parts (p x) (list_all p xs) more in
      all_gathered p (place ws x) xs (all_placed p ws x all both.0) both.1

  pub ascends_placed : (ws : List A) (x : A) → ascends R ws ≡ true → ascends R (place ws x) ≡ true
  ascends_placed [] x up = refl
  ascends_placed (w ∷ ws) x up = split (R w x) refl (ascends_placed ws x (tail_ascends w ws up))
    where
      split : (r : Ordering) → R w x ≡ r → ascends R (place ws x) ≡ true → ascends R (place (w ∷ ws) x) ≡ true
      split Less e rest =
          let h = ap is_lt e in
          rw (placed_after w x ws h)
          (head_ascends w (place ws x) (all_placed (below w) ws x (head_below w ws up) h) rest)
      split Equal e rest =
          rw (placed_at w x ws e (head_below w ws up))
          (head_ascends x ws (tied_above x w ws (back w x Equal e) (head_below w ws up)) (tail_ascends w ws up))
      split Greater e rest =
          let h : below x w ≡ true = ap is_lt (back w x Greater e) in
          let above : list_all (below x) (w ∷ ws) ≡ true = and_from _ _ h (all_above x w ws h (head_below w ws up)) in
          rw (placed_first x (w ∷ ws) above) (head_ascends x (w ∷ ws) above up)

  ascends_gathered : (ws xs : List A) → ascends R ws ≡ true → ascends R (fold place ws xs) ≡ true
  ascends_gathered ws [] up = up
  ascends_gathered ws (x ∷ xs) up = ascends_gathered (place ws x) xs (ascends_placed ws x up)

  pub ascends_in_order : (xs : List A) → ascends R (in_order R xs) ≡ true
  ascends_in_order xs = ascends_gathered [] xs refl

  -- the least stands first

  gathered_first : (x : A) (ws zs : List A) → list_all (below x) zs ≡ true → fold place (x ∷ ws) zs ≡ x ∷ fold place ws zs
  gathered_first x ws [] all = refl
  gathered_first x ws (z ∷ zs) all =
      let both = and_parts (below x z) (list_all (below x) zs) all in
      ap (λ us. fold place us zs) (placed_after x z ws both.0) ∙ gathered_first x (place ws z) zs both.1

  pub in_order_ascending : (xs : List A) → ascends R xs ≡ true → in_order R xs ≡ xs
  in_order_ascending [] up = refl
  in_order_ascending (x ∷ xs) up =
      gathered_first x [] xs (head_below x xs up) ∙ ap (λ ys. x ∷ ys) (in_order_ascending xs (tail_ascends x xs up))

  -- the order of the elements of two ascending lists, by the first of each

  pub merge_less : (x y : A) (xs ys : List A) → ascends R (x ∷ xs) ≡ true → ascends R (y ∷ ys) ≡ true → R x y ≡ Less →
      in_order R ((x ∷ xs) ++ y ∷ ys) ≡ x ∷ in_order R (xs ++ y ∷ ys)
  merge_less x y xs ys up up' e =
      let h = ap is_lt e in
      gathered_first x [] (xs ++ y ∷ ys)
      (list_all-append (below x) xs (y ∷ ys) ∙ and_from _ _ (head_below x xs up) (and_from _ _ h (all_above x y ys h (head_below y ys up'))))

  placed_between : (us ys : List A) (y : A) → list_all (below y) us ≡ true → list_all (below y) ys ≡ true →
      in_order R (us ++ y ∷ ys) ≡ y ∷ in_order R (us ++ ys)
  placed_between us ys y all all' =
      fold-append place [] us (y ∷ ys) ∙
      ap (λ ws. fold place ws ys) (placed_first y (in_order R us) (all_gathered (below y) [] us refl all)) ∙
      gathered_first y (in_order R us) ys all' ∙
      ap (λ ws. y ∷ ws) (sym (fold-append place [] us ys))

  pub merge_greater : (x y : A) (xs ys : List A) → ascends R (x ∷ xs) ≡ true → ascends R (y ∷ ys) ≡ true → R x y ≡ Greater →
      in_order R ((x ∷ xs) ++ y ∷ ys) ≡ y ∷ in_order R ((x ∷ xs) ++ ys)
  merge_greater x y xs ys up up' e =
      let h : below y x ≡ true = ap is_lt (back x y Greater e) in
      placed_between (x ∷ xs) ys y (and_from _ _ h (all_above y x xs h (head_below x xs up))) (head_below y ys up')

  pub merge_equal : (x y : A) (xs ys : List A) → ascends R (x ∷ xs) ≡ true → ascends R (y ∷ ys) ≡ true → R x y ≡ Equal →
      in_order R ((x ∷ xs) ++ y ∷ ys) ≡ y ∷ in_order R (xs ++ ys)
  merge_equal x y xs ys up up' e =
      let all = tied_above y x xs (back x y Equal e) (head_below x xs up) in
      let ws = in_order R xs in
      fold-append place [] (x ∷ xs) (y ∷ ys) ∙
      ap (λ us. fold place us (y ∷ ys)) (gathered_first x [] xs (head_below x xs up)) ∙
      ap (λ us. fold place us ys) (placed_at x y ws e (all_gathered (below x) [] xs refl (head_below x xs up))) ∙
      gathered_first y ws ys (head_below y ys up') ∙
      ap (λ us. y ∷ us) (sym (fold-append place [] xs ys))

  -- what is among others, by the first of both

  abbrev among : List A → A → Bool
  among ys x = list_any (ties x) ys

  pub not_among : (x : A) (ys : List A) → list_all (below x) ys ≡ true → among ys x ≡ false
  not_among x [] all = refl
  not_among x (y ∷ ys) all =
      let both = and_parts (below x y) (list_all (below x) ys) all in
      rw (ap is_eq (less _ both.0)) (not_among x ys both.1)

  past_least : (y : A) (ys : List A) (x : A) → below y x ≡ true → among (y ∷ ys) x ≡ among ys x
  past_least y ys x h = rw (ap is_eq (back y x Less (less _ h))) refl

  -- of two ascending lists, which elements of the first are among the second, by the first of each

  module _ (test : Bool → Bool) where
    abbrev kept : List A → List A → List A
    kept ys xs = filter (λ x. test (among ys x)) xs

    past_least_all : (y : A) (xs ys : List A) → list_all (below y) xs ≡ true → kept (y ∷ ys) xs ≡ kept ys xs
    past_least_all y xs ys all =
        filter_where (below y) (λ x. test (among (y ∷ ys) x)) (λ x. test (among ys x)) (λ x h. ap test (past_least y ys x h)) xs all

    pub kept_less : (x y : A) (xs ys : List A) → ascends R (y ∷ ys) ≡ true → R x y ≡ Less →
        kept (y ∷ ys) (x ∷ xs) ≡ cond (test false) (x ∷ kept (y ∷ ys) xs) (kept (y ∷ ys) xs)
    kept_less x y xs ys up' e =
        let h = ap is_lt e in
        ap (λ b. cond (test b) (x ∷ kept (y ∷ ys) xs) (kept (y ∷ ys) xs))
        (not_among x (y ∷ ys) (and_from _ _ h (all_above x y ys h (head_below y ys up'))))

    pub kept_equal : (x y : A) (xs ys : List A) → ascends R (x ∷ xs) ≡ true → R x y ≡ Equal →
        kept (y ∷ ys) (x ∷ xs) ≡ cond (test true) (x ∷ kept ys xs) (kept ys xs)
    kept_equal x y xs ys up e =
        ap (λ b. cond (test b) (x ∷ kept (y ∷ ys) xs) (kept (y ∷ ys) xs)) (ap (λ r. is_eq r || among ys x) e) ∙
        ap (λ zs. cond (test true) (x ∷ zs) zs) (past_least_all y xs ys (tied_above y x xs (back x y Equal e) (head_below x xs up)))

    pub kept_greater : (x y : A) (xs ys : List A) → ascends R (x ∷ xs) ≡ true → R x y ≡ Greater →
        kept (y ∷ ys) (x ∷ xs) ≡ kept ys (x ∷ xs)
    kept_greater x y xs ys up e =
        let h : below y x ≡ true = ap is_lt (back x y Greater e) in
        past_least_all y (x ∷ xs) ys (and_from _ _ h (all_above y x xs h (head_below x xs up)))

    pub kept_none : (xs : List A) → kept [] xs ≡ cond (test false) xs []
    kept_none xs = filter_by (test false) xs

  -- the same of a subset

  pub subset_less : (x y : A) (xs ys : List A) → ascends R (y ∷ ys) ≡ true → R x y ≡ Less → list_all (among (y ∷ ys)) (x ∷ xs) ≡ false
  subset_less x y xs ys up' e =
      let h = ap is_lt e in
      rw (not_among x (y ∷ ys) (and_from _ _ h (all_above x y ys h (head_below y ys up')))) refl

  pub subset_equal : (x y : A) (xs ys : List A) → ascends R (x ∷ xs) ≡ true → R x y ≡ Equal →
      list_all (among (y ∷ ys)) (x ∷ xs) ≡ list_all (among ys) xs
  subset_equal x y xs ys up e =
      rw e (all_where (below y) (among (y ∷ ys)) (among ys) (λ x. past_least y ys x) xs (tied_above y x xs (back x y Equal e) (head_below x xs up)))

  pub subset_greater : (x y : A) (xs ys : List A) → ascends R (x ∷ xs) ≡ true → R x y ≡ Greater →
      list_all (among (y ∷ ys)) (x ∷ xs) ≡ list_all (among ys) (x ∷ xs)
  subset_greater x y xs ys up e =
      let h : below y x ≡ true = ap is_lt (back x y Greater e) in
      all_where (below y) (among (y ∷ ys)) (among ys) (λ x. past_least y ys x) (x ∷ xs) (and_from _ _ h (all_above y x xs h (head_below x xs up)))
