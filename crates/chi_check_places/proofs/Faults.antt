-- What is made of places by the rules that all others use is made without them too.
use Rattle.std.proofs.Common.{◌≡◌, ℕ, Bool, true, false, List, [], ◌∷◌, ◌++◌, Option, Some, None, refl, sym, ◌∙◌}
use Rattle.std.specs.Prelude.{if◌then◌else◌}
use Rattle.std.proofs.lemmas.List.{map-append}
use Rattle.chi_token.specs.declared.place.Place.{Place}
use Rattle.chi_tree.specs.View.{nowhere}
use Rattle.chi_check_types.specs.declared.fault.Fault.{Fault}
use Rattle.chi_check_types.specs.declared.meant.Made.{Made}
use Rattle.chi_check_types.specs.Typed.{Typed, broken_if, unless, after}
use Rattle.chi_check_expr_rules.specs.Nodes.{settled, of_one, of_two, of_all, barred}
use Rattle.chi_check_places.specs.UnplacedTyped.{unplaced_fault, unplaced_faults, unplaced_typed}

pub faults-append : (fs gs : List Fault) → unplaced_faults fs ++ unplaced_faults gs ≡ unplaced_faults (fs ++ gs)
faults-append fs gs = sym (map-append unplaced_fault fs gs)

pub both-faults : (fs gs : List Fault) {fs' gs' : List Fault} → fs' ≡ unplaced_faults fs → gs' ≡ unplaced_faults gs → fs' ++ gs' ≡ unplaced_faults (fs ++ gs)
both-faults fs gs r s = (λ i. r i ++ s i) ∙ faults-append fs gs

pub broken-unplaced : (b : Bool) (rule : ℕ) (place : Place) → broken_if b rule nowhere ≡ unplaced_faults (broken_if b rule place)
broken-unplaced true rule place = refl
broken-unplaced false rule place = refl

-- a test that needs no place
pub tested : {A B : Type 0} (f : A → B) (b : Bool) {x y : A} {x' y' : B} → x' ≡ f x → y' ≡ f y → (if b then x' else y') ≡ f (if b then x else y)
tested f true r s = r
tested f false r s = s

module _ {A : Type 0} where
  pub unless-unplaced : (fs : List Fault) (a : A) → unless (unplaced_faults fs) a ≡ unplaced_typed (unless fs a)
  unless-unplaced [] a = refl
  unless-unplaced (f ∷ fs) a = refl

  pub after-unplaced : (fs : List Fault) (t : Typed A) → after (unplaced_faults fs) (unplaced_typed t) ≡ unplaced_typed (after fs t)
  after-unplaced fs t = λ i. record { faults = faults-append fs t.faults i; made = t.made }

  pub after-both : (fs : List Fault) (t : Typed A) {fs' : List Fault} {t' : Typed A} → fs' ≡ unplaced_faults fs → t' ≡ unplaced_typed t → after fs' t' ≡ unplaced_typed (after fs t)
  after-both fs t r s = (λ i. after (r i) (s i)) ∙ after-unplaced fs t

  pub barred-unplaced : (fs : List Fault) (t : Typed A) → barred (unplaced_faults fs) (unplaced_typed t) ≡ unplaced_typed (barred fs t)
  barred-unplaced [] t = refl
  barred-unplaced (f ∷ fs) t = λ i. record { faults = unplaced_fault f ∷ faults-append fs t.faults i; made = None }

  pub barred-both : (fs : List Fault) (t : Typed A) {fs' : List Fault} {t' : Typed A} → fs' ≡ unplaced_faults fs → t' ≡ unplaced_typed t → barred fs' t' ≡ unplaced_typed (barred fs t)
  barred-both fs t r s = (λ i. barred (r i) (s i)) ∙ barred-unplaced fs t

  pub settled-unplaced : (rule : ℕ) (place : Place) (o : Option A) → settled rule nowhere o ≡ unplaced_typed (settled rule place o)
  settled-unplaced rule place None = refl
  settled-unplaced rule place (Some a) = refl

  pub all-unplaced : (rule : ℕ) (place : Place) (count : Bool) (f : List Made → Option A) (parts : Option (List Made)) → of_all rule nowhere count f parts ≡ unplaced_typed (of_all rule place count f parts)
  all-unplaced rule place false f parts = refl
  all-unplaced rule place true f None = refl
  all-unplaced rule place true f (Some parts) = settled-unplaced rule place (f parts)

module _ {A B : Type 0} where
  pub one-unplaced : (rule : ℕ) (place : Place) (f : A → Option B) (o : Option A) → of_one rule nowhere f o ≡ unplaced_typed (of_one rule place f o)
  one-unplaced rule place f None = refl
  one-unplaced rule place f (Some a) = settled-unplaced rule place (f a)

module _ {A B C : Type 0} where
  pub two-unplaced : (rule : ℕ) (place : Place) (f : A → B → Option C) (a : Option A) (b : Option B) → of_two rule nowhere f a b ≡ unplaced_typed (of_two rule place f a b)
  two-unplaced rule place f None b = refl
  two-unplaced rule place f (Some a) None = refl
  two-unplaced rule place f (Some a) (Some b) = settled-unplaced rule place (f a b)
