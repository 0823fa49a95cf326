-- Private to proofs. A node over parts of which a fact holds.
use Rattle.std.proofs.Common.{ℕ, ◌≡◌, Bool, true, false, List, [], ◌∷◌, ◌++◌, map, Option, Some, None, refl, sym, ap, subst, ◌∙◌}
use Rattle.std.specs.Prelude.{option_map}
use Rattle.std.specs.Option.{option_and_then}
use Rattle.chi_token.specs.declared.place.Place.{Place}
use Rattle.chi_check_types.specs.declared.fault.Fault.{Fault}
use Rattle.chi_check_types.specs.declared.meant.Made.{Made}
use Rattle.chi_check_types.specs.Typed.{Typed, unless, refused, after}
use Rattle.chi_check_expr_rules.specs.Nodes.{settled, of_all, barred, all_made}
use Rattle.chi_check_expr.specs.Reads.{made_of, all_faults}
use Rattle.chi_check_expr.proofs.Kept.{Good, GoodTyped, Each, typed_parts}

pub left_nil : {A : Type 0} (xs ys : List A) → xs ++ ys ≡ [] → xs ≡ []
left_nil [] ys e = refl
left_nil (x ∷ xs) ys e = absurd (cc)

pub right_nil : {A : Type 0} (xs ys : List A) → xs ++ ys ≡ [] → ys ≡ []
right_nil [] ys e = e
right_nil (x ∷ xs) ys e = absurd (cc)

pub both_nil : {A : Type 0} (xs ys : List A) → xs ≡ [] → ys ≡ [] → xs ++ ys ≡ []
both_nil xs ys p q = (λ i. p i ++ q i)

pub cons_nil : {A : Type 0} (x : A) (xs : List A) → x ∷ xs ≡ [] → ⊥
cons_nil x xs e = cc

-- ---- nothing is made only where a rule is broken

abbrev pub Exact : {A : Type 0} → List Fault → Option A → Type 0
Exact faults None = faults ≡ [] → ⊥
Exact faults (Some a) = faults ≡ []

abbrev pub ExactTyped : {A : Type 0} → Typed A → Type 0
ExactTyped t = Exact t.faults t.made

pub refused_exact : (A : Type 0) (rule : ℕ) (place : Place) → ExactTyped (refused {A = A} rule place)
refused_exact A rule place = cons_nil _ _

module _ {A : Type 0} where
  pub unless_exact : (fs : List Fault) (a : A) → ExactTyped (unless fs a)
  unless_exact [] a = refl
  unless_exact (f ∷ fs) a = cons_nil f fs

  pub settled_exact : (rule : ℕ) (place : Place) (a : Option A) → ExactTyped (settled rule place a)
  settled_exact rule place None = cons_nil _ _
  settled_exact rule place (Some a) = refl

  pub barred_exact : (fs : List Fault) (t : Typed A) → ExactTyped t → ExactTyped (barred fs t)
  barred_exact [] t e = e
  barred_exact (f ∷ fs) t e = cons_nil _ _

  pub barred_none : (fs : List Fault) (t : Typed A) → t.made ≡ None → (barred fs t).made ≡ None
  barred_none [] t e = e
  barred_none (f ∷ fs) t e = refl

  pub of_all_exact : (rule : ℕ) (place : Place) (right : Bool) (f : List Made → Option A) (ms : List Made) → ExactTyped (of_all rule place right f (Some ms))
  of_all_exact rule place false f ms = cons_nil _ _
  of_all_exact rule place true f ms = settled_exact rule place (f ms)

  pub of_all_none : (rule : ℕ) (place : Place) (right : Bool) (f : List Made → Option A) (ms : Option (List Made)) → ms ≡ None → (of_all rule place right f ms).made ≡ None
  of_all_none rule place false f ms e = refl
  of_all_none rule place true f None e = refl
  of_all_none rule place true f (Some ms) e = absurd (cc)

  -- what a rule made, and that the node was not barred
  pub settled_made : (rule : ℕ) (place : Place) (a : Option A) (b : A) → (settled rule place a).made ≡ Some b → a ≡ Some b
  settled_made rule place None b e = absurd (cc)
  settled_made rule place (Some a) b e = e

  pub barred_made : (fs : List Fault) (t : Typed A) (b : A) → (barred fs t).made ≡ Some b → (fs ≡ []) × (t.made ≡ Some b)
  barred_made [] t b e = (refl, e)
  barred_made (f ∷ fs) t b e = absurd (cc)

-- ---- a fact of what is made

module _ {A : Type 0} (T : A → Type 0) where
  good_of : (fs : List Fault) (m : Option A) → Exact fs m → ((a : A) → m ≡ Some a → T a) → Good T fs m
  good_of fs None e h = e
  good_of fs (Some a) e h = (e, h a refl)

  pub node_good : (t : Typed A) → ExactTyped t → ((a : A) → t.made ≡ Some a → T a) → GoodTyped T t
  node_good t = good_of t.faults t.made

  pub more_good : (fs gs : List Fault) (m : Option A) → fs ≡ [] → Good T gs m → Good T (fs ++ gs) m
  more_good fs gs None e g = λ h. g (right_nil fs gs h)
  more_good fs gs (Some m) e g = (both_nil fs gs e g.0, g.1)

  pub less_good : (fs gs : List Fault) (m : Option A) → (fs ≡ [] → ⊥) → m ≡ None → Good T (fs ++ gs) m
  less_good fs gs None e n = λ h. e (left_nil fs gs h)
  less_good fs gs (Some m) e n = absurd (cc)

-- ---- nodes of one part, of two, and of several

module _ {A C : Type 0} (S : A → Type 0) (T : C → Type 0) where
  pub one_good : (node : Option A → Typed C) → (node None).made ≡ None → ((a : A) → S a → GoodTyped T (node (Some a)))
      → (a : Typed A) → GoodTyped S a → GoodTyped T (after a.faults (node a.made))
  one_good node n h a g = on a.faults a.made g
    where
      on : (fs : List Fault) (m : Option A) → Good S fs m → Good T (fs ++ (node m).faults) (node m).made
      on fs None g = less_good T fs _ _ g n
      on fs (Some x) g = more_good T fs _ _ g.0 (h x g.1)

module _ {A B C : Type 0} (S : A → Type 0) (R : B → Type 0) (T : C → Type 0) where
  pub two_good : (node : Option A → Option B → Typed C) → ((b : Option B) → (node None b).made ≡ None) → ((a : A) → (node (Some a) None).made ≡ None)
      → ((a : A) (b : B) → S a → R b → GoodTyped T (node (Some a) (Some b)))
      → (a : Typed A) (b : Typed B) → GoodTyped S a → GoodTyped R b → GoodTyped T (after (a.faults ++ b.faults) (node a.made b.made))
  two_good node n1 n2 h a b g k = on a.faults b.faults a.made b.made g k
    where
      on : (fs gs : List Fault) (m : Option A) (o : Option B) → Good S fs m → Good R gs o → Good T ((fs ++ gs) ++ (node m o).faults) (node m o).made
      on fs gs None o g k = less_good T (fs ++ gs) _ _ (λ e. g (left_nil fs gs e)) (n1 o)
      on fs gs (Some x) None g k = less_good T (fs ++ gs) _ _ (λ e. k (right_nil fs gs e)) (n2 x)
      on fs gs (Some x) (Some y) g k = more_good T (fs ++ gs) _ _ (both_nil fs gs g.0 k.0) (h x y g.1 k.1)

module _ (T : Made → Type 0) where
  abbrev pub AllGood : List (Typed Made) → Type 0
  AllGood [] = Unit {0}
  AllGood (t ∷ ts) = GoodTyped T t × AllGood ts

  cons_good : (fs gs : List Fault) (m : Option Made) (ms : Option (List Made)) → Good T fs m → Good (Each T) gs ms → Good (Each T) (fs ++ gs) (option_and_then (λ m. option_map (λ ms. m ∷ ms) ms) m)
  cons_good fs gs None ms p q = λ e. p (left_nil fs gs e)
  cons_good fs gs (Some m) None p q = λ e. q (right_nil fs gs e)
  cons_good fs gs (Some m) (Some ms) p q = (both_nil fs gs p.0 q.0, (p.1, q.1))

  pub all_good : (ts : List (Typed Made)) → AllGood ts → Good (Each T) (all_faults ts) (all_made (map made_of ts))
  all_good [] h = (refl, tt)
  all_good (t ∷ ts) h = cons_good t.faults (all_faults ts) t.made (all_made (map made_of ts)) h.0 (all_good ts h.1)

rest_typed : (m : Made) (o : Option (List Made)) (ms : List (Option Made)) (xs : List Made) → option_map (λ more. m ∷ more) o ≡ Some xs → ((ys : List Made) → o ≡ Some ys → ms ≡ typed_parts ys) → Some m ∷ ms ≡ typed_parts xs
rest_typed m None ms xs e h = absurd (cc)
rest_typed m (Some ys) ms xs e h =
    let head : m ∷ ys ≡ xs = cc in
    ap (λ r. Some m ∷ r) (h ys refl) ∙ ap typed_parts head

pub all_typed : (ms : List (Option Made)) (xs : List Made) → all_made ms ≡ Some xs → ms ≡ typed_parts xs
all_typed [] xs e = ap typed_parts {x = []} {y = xs} (cc)
all_typed (None ∷ ms) xs e = absurd (cc)
all_typed (Some m ∷ ms) xs e = rest_typed m (all_made ms) ms xs e (all_typed ms)

pub typed_all : (xs : List Made) → all_made (typed_parts xs) ≡ Some xs
typed_all [] = refl
typed_all (x ∷ xs) = ap (option_map (λ more. x ∷ more)) (typed_all xs)

module _ {C : Type 0} (S : Made → Type 0) (T : C → Type 0) where
  pub list_good : (node : List (Option Made) → Typed C) → ((ms : List (Option Made)) → all_made ms ≡ None → (node ms).made ≡ None)
      → ((xs : List Made) → Each S xs → GoodTyped T (node (typed_parts xs)))
      → (fs : List Fault) (ms : List (Option Made)) → Good (Each S) fs (all_made ms) → Good T (fs ++ (node ms).faults) (node ms).made
  list_good node n h fs ms g = on (all_made ms) refl g
    where
      on : (o : Option (List Made)) → all_made ms ≡ o → Good (Each S) fs o → Good T (fs ++ (node ms).faults) (node ms).made
      on None e g = less_good T fs _ _ g (n ms e)
      on (Some xs) e g = more_good T fs _ _ g.0 (subst (λ ms. GoodTyped T (node ms)) (sym (all_typed ms xs e)) (h xs g.1))
