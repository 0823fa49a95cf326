-- One turn of a loop that goes along two ascending lists: what is done, and then the definition of the rest, is the whole.
use Rattle.std.proofs.Common.{◌≡◌, Bool, true, false, cond, not, List, [], ◌∷◌, ◌++◌, Ordering, Less, Equal, Greater, filter, refl, sym, ap, ap₂, ◌∙◌, append_assoc, append-nil}
use Rattle.std.proofs.lemmas.Bool.{false≢true}
use Rattle.std.specs.Cmp.{IsTotalOrder}
use Rattle.std.specs.List.{list_all, list_any}
use Rattle.chi_sets.specs.Ascending.{ascends, in_order, ties_by}
use Rattle.chi_sets.specs.Chosen.{wanted, chosen}
use Rattle.chi_sets.proofs.Ascending.{merge_less, merge_equal, merge_greater, tail_ascends, in_order_ascending, kept_less, kept_equal, kept_greater, kept_none, subset_less, subset_equal, subset_greater}

lacking : (common : Bool) → not common ≡ wanted common false
lacking true = refl
lacking false = refl

having : (common : Bool) → common ≡ wanted common true
having true = refl
having false = refl

-- one more is done
grown : {A : Type 0} (done more : List A) (x : A) (rest whole : List A) → done ++ (x ∷ rest) ≡ whole → more ≡ done ++ x ∷ [] → more ++ rest ≡ whole
grown done more x rest whole is pushed = ap (λ d. d ++ rest) pushed ∙ append_assoc done (x ∷ []) rest ∙ is

module _ {A : Type 0} {R : A → A → Ordering} (o : IsTotalOrder R) (left right : List A) where
  -- nothing is left of one of the lists
  pub merged_left : (done all whole : List A) → right ≡ [] → ascends R left ≡ true →
      done ++ in_order R (left ++ right) ≡ whole → all ≡ done ++ left → all ≡ whole
  merged_left done all whole none up is pushed =
      pushed ∙ ap (λ l. done ++ l) (sym (in_order_ascending R o left up) ∙ ap (in_order R) (sym (append-nil left) ∙ ap (λ r. left ++ r) (sym none))) ∙ is

  pub merged_right : (done all whole : List A) → left ≡ [] → ascends R right ≡ true →
      done ++ in_order R (left ++ right) ≡ whole → all ≡ done ++ right → all ≡ whole
  merged_right done all whole none up is pushed =
      pushed ∙ ap (λ l. done ++ l) (sym (in_order_ascending R o right up) ∙ ap (λ l. in_order R (l ++ right)) (sym none)) ∙ is

  pub chosen_left : (common : Bool) (done all whole : List A) → right ≡ [] → done ++ chosen R common left right ≡ whole →
      all ≡ cond (not common) (done ++ left) done → all ≡ whole
  chosen_left true done all whole none is given = given ∙ sym (append-nil done) ∙ ap (λ l. done ++ l) (sym (kept_none R o (wanted true) left) ∙ ap (chosen R true left) (sym none)) ∙ is
  chosen_left false done all whole none is given = given ∙ ap (λ l. done ++ l) (sym (kept_none R o (wanted false) left) ∙ ap (chosen R false left) (sym none)) ∙ is

  module _ (x y : A) (xs ys : List A) (l : left ≡ x ∷ xs) (r : right ≡ y ∷ ys) (up : ascends R left ≡ true) (up' : ascends R right ≡ true) where
    left_up : ascends R (x ∷ xs) ≡ true
    left_up = sym (ap (ascends R) l) ∙ up

    right_up : ascends R (y ∷ ys) ≡ true
    right_up = sym (ap (ascends R) r) ∙ up'

    pub left_rest : ascends R xs ≡ true
    left_rest = tail_ascends R o x xs left_up

    pub right_rest : ascends R ys ≡ true
    right_rest = tail_ascends R o y ys right_up

    -- of the union

    pub merged_less : (done more whole : List A) → Less ≡ R x y → done ++ in_order R (left ++ right) ≡ whole → more ≡ done ++ x ∷ [] →
        more ++ in_order R (xs ++ right) ≡ whole
    merged_less done more whole e is pushed =
        let step = ap₂ (λ l r. in_order R (l ++ r)) l r ∙ merge_less R o x y xs ys left_up right_up (sym e) in
        ap (λ r. more ++ in_order R (xs ++ r)) r ∙
        grown done more x (in_order R (xs ++ y ∷ ys)) whole (ap (λ l. done ++ l) (sym step) ∙ is) pushed

    pub merged_equal : (done more whole : List A) → Equal ≡ R x y → done ++ in_order R (left ++ right) ≡ whole → more ≡ done ++ y ∷ [] →
        more ++ in_order R (xs ++ ys) ≡ whole
    merged_equal done more whole e is pushed =
        let step = ap₂ (λ l r. in_order R (l ++ r)) l r ∙ merge_equal R o x y xs ys left_up right_up (sym e) in
        grown done more y (in_order R (xs ++ ys)) whole (ap (λ l. done ++ l) (sym step) ∙ is) pushed

    pub merged_greater : (done more whole : List A) → Greater ≡ R x y → done ++ in_order R (left ++ right) ≡ whole → more ≡ done ++ y ∷ [] →
        more ++ in_order R (left ++ ys) ≡ whole
    merged_greater done more whole e is pushed =
        let step = ap₂ (λ l r. in_order R (l ++ r)) l r ∙ merge_greater R o x y xs ys left_up right_up (sym e) in
        ap (λ l. more ++ in_order R (l ++ ys)) l ∙
        grown done more y (in_order R ((x ∷ xs) ++ ys)) whole (ap (λ l. done ++ l) (sym step) ∙ is) pushed

    -- of the choice

    chose : (b : Bool) (done more rest whole : List A) → done ++ cond b (x ∷ rest) rest ≡ whole → more ≡ cond b (done ++ x ∷ []) done →
        more ++ rest ≡ whole
    chose true done more rest whole is given = grown done more x rest whole is given
    chose false done more rest whole is given = ap (λ d. d ++ rest) given ∙ is

    pub chosen_less : (common : Bool) (done more whole : List A) → Less ≡ R x y → done ++ chosen R common left right ≡ whole →
        more ≡ cond (not common) (done ++ x ∷ []) done → more ++ chosen R common xs right ≡ whole
    chosen_less common done more whole e is given =
        let step = ap₂ (chosen R common) l r ∙ kept_less R o (wanted common) x y xs ys right_up (sym e) in
        ap (λ r. more ++ chosen R common xs r) r ∙ chose (wanted common false) done more (chosen R common xs (y ∷ ys)) whole (ap (λ l. done ++ l) (sym step) ∙ is)
        (given ∙ ap (λ b. cond b (done ++ x ∷ []) done) (lacking common))

    pub chosen_equal : (common : Bool) (done more whole : List A) → Equal ≡ R x y → done ++ chosen R common left right ≡ whole →
        more ≡ cond common (done ++ x ∷ []) done → more ++ chosen R common xs ys ≡ whole
    chosen_equal common done more whole e is given =
        let step = ap₂ (chosen R common) l r ∙ kept_equal R o (wanted common) x y xs ys left_up (sym e) in
        chose (wanted common true) done more (chosen R common xs ys) whole (ap (λ l. done ++ l) (sym step) ∙ is)
        (given ∙ ap (λ b. cond b (done ++ x ∷ []) done) (having common))

    pub chosen_greater : (common : Bool) (done whole : List A) → Greater ≡ R x y → done ++ chosen R common left right ≡ whole →
        done ++ chosen R common left ys ≡ whole
    chosen_greater common done whole e is =
        let step = ap₂ (chosen R common) l r ∙ kept_greater R o (wanted common) x y xs ys left_up (sym e) in
        ap (λ l. done ++ chosen R common l ys) l ∙ ap (λ l. done ++ l) (sym step) ∙ is

    -- of the subset

    abbrev within : List A → List A → Bool
    within us vs = list_all (λ u. list_any (ties_by R u) vs) us

    pub within_less : (whole : Bool) → Less ≡ R x y → within left right ≡ whole → false ≡ whole
    within_less whole e is = sym (ap₂ within l r ∙ subset_less R o x y xs ys right_up (sym e)) ∙ is

    pub within_equal : (whole : Bool) → Equal ≡ R x y → within left right ≡ whole → within xs ys ≡ whole
    within_equal whole e is = sym (ap₂ within l r ∙ subset_equal R o x y xs ys left_up (sym e)) ∙ is

    pub within_greater : (whole : Bool) → Greater ≡ R x y → within left right ≡ whole → within left ys ≡ whole
    within_greater whole e is = ap (λ l. within l ys) l ∙ sym (ap₂ within l r ∙ subset_greater R o x y xs ys left_up (sym e)) ∙ is
