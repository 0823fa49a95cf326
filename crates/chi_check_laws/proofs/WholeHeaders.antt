-- Private to proofs. What comes to something where no rule is broken: nodes over parts that do.
use Rattle.std.proofs.Common.{ℕ, ◌≡◌, Bool, true, false, cond, List, [], ◌∷◌, ◌++◌, Option, Some, None, refl}
use Rattle.std.specs.Prelude.{option_map}
use Rattle.chi_token.specs.declared.place.Place.{Place}
use Rattle.chi_check_types.specs.declared.fault.Fault.{Fault}
use Rattle.chi_check_types.specs.Faults.{fault}
use Rattle.chi_check_types.specs.Typed.{Typed, unless}
use Rattle.chi_check_expr_rules.specs.Nodes.{settled, of_one, of_two, barred}
use Rattle.chi_check_expr.specs.Laws.{IsExact}
use Rattle.chi_check_expr.proofs.Nodes.{left_nil, right_nil, cons_nil}
use Rattle.chi_check.specs.Below.chi_check_stat_lines.specs.Stated.{both}

-- there is something
abbrev pub Comes : {A : Type 0} → Option A → Type 0
Comes None = ⊥
Comes (Some a) = Unit {0}

-- it comes to something where no rule is broken
abbrev pub Whole : {A : Type 0} → List Fault → Option A → Type 0
Whole faults made = faults ≡ [] → Comes made

abbrev pub WholeTyped : {A : Type 0} → Typed A → Type 0
WholeTyped t = Whole t.faults t.made

-- a rule that is broken
pub refused_whole : (rule : ℕ) (place : Place) → fault rule place ∷ [] ≡ [] → ⊥
refused_whole rule place e = cons_nil (fault rule place) [] e

module _ {A : Type 0} where
  pub comes_of : (m : Option A) → (a : A) × (m ≡ Some a) → Comes m
  comes_of None h = absurd (let e = h.1 in cc)
  comes_of (Some a) h = tt

  pub what_comes : (m : Option A) → Comes m → (a : A) × (m ≡ Some a)
  what_comes None c = absurd c
  what_comes (Some a) c = (a, refl)

  pub exact_whole : (t : Typed A) → IsExact t → WholeTyped t
  exact_whole t h e = comes_of t.made (h.0 e)

  pub unless_whole : (fs : List Fault) (a : A) → WholeTyped (unless fs a)
  unless_whole [] a e = tt
  unless_whole (f ∷ fs) a e = absurd (cons_nil _ _ e)

  pub settled_whole : (rule : ℕ) (place : Place) (m : Option A) → WholeTyped (settled rule place m)
  settled_whole rule place None e = absurd (cons_nil _ _ e)
  settled_whole rule place (Some a) e = tt

  pub barred_whole : (fs : List Fault) (t : Typed A) → WholeTyped t → WholeTyped (barred fs t)
  barred_whole [] t w e = w e
  barred_whole (f ∷ fs) t w e = absurd (cons_nil _ _ e)

  pub cond_whole : (b : Bool) (t u : Typed A) → WholeTyped t → WholeTyped u → WholeTyped (cond b t u)
  cond_whole true t u w v = w
  cond_whole false t u w v = v

  pub after_whole : (fs : List Fault) (t : Typed A) → WholeTyped t → Whole (fs ++ t.faults) t.made
  after_whole fs t w e = w (right_nil fs t.faults e)

module _ {A B : Type 0} where
  pub of_one_whole : (rule : ℕ) (place : Place) (f : A → Option B) (m : Option A) → Comes m → WholeTyped (of_one rule place f m)
  of_one_whole rule place f None c = absurd c
  of_one_whole rule place f (Some a) c = settled_whole rule place (f a)

  -- a node over one part
  pub then_whole : (fs : List Fault) (m : Option A) (node : Option A → Typed B) → Whole fs m → ((a : A) → WholeTyped (node (Some a))) → Whole (fs ++ (node m).faults) (node m).made
  then_whole fs None node w n e = absurd (w (left_nil fs _ e))
  then_whole fs (Some a) node w n e = n a (right_nil fs _ e)

  pub mapped_comes : (f : A → B) (m : Option A) → Comes m → Comes (option_map f m)
  mapped_comes f None c = absurd c
  mapped_comes f (Some a) c = tt

  pub unmapped_comes : (f : A → B) (m : Option A) → Comes (option_map f m) → Comes m
  unmapped_comes f None c = absurd c
  unmapped_comes f (Some a) c = tt

module _ {A B C : Type 0} where
  pub of_two_whole : (rule : ℕ) (place : Place) (f : A → B → Option C) (m : Option A) (n : Option B) → Comes m → Comes n → WholeTyped (of_two rule place f m n)
  of_two_whole rule place f None n c d = absurd c
  of_two_whole rule place f (Some a) None c d = absurd d
  of_two_whole rule place f (Some a) (Some b) c d = settled_whole rule place (f a b)

  pub both_comes : (f : A → B → C) (m : Option A) (n : Option B) → Comes m → Comes n → Comes (both f m n)
  both_comes f None n c d = absurd c
  both_comes f (Some a) None c d = absurd d
  both_comes f (Some a) (Some b) c d = tt

-- several parts
abbrev pub EachComes : {A : Type 0} → List (Option A) → Type 0
EachComes [] = Unit {0}
EachComes (m ∷ ms) = Comes m × EachComes ms
