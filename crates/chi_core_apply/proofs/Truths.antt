-- Truth values, and comparisons.
use Rattle.std.proofs.Common.{◌≡◌, ◌≢◌, Bool, true, false, IsTrue, Option, Some, None, refl, ap}
use Rattle.std.specs.Prelude.{if◌then◌else◌, option_map, not}
use Rattle.std.specs.declared.cmp.Ordering.{Ordering}
use Rattle.chi_value.specs.declared.value.Value.{Value}
use Rattle.chi_value.specs.declared.value.Value.TheVariants as value
use Rattle.chi_value.specs.Order.{order}
use Rattle.chi_ops.specs.Conditions.{may_has, may_sub, may_size}
use Rattle.chi_ops.specs.Operations.{has, sub, size}
use Rattle.chi_core.specs.declared.view.View.{View}
use Rattle.chi_core.specs.Answer.{Gives, Amiss}
use Rattle.chi_core.specs.Reading.{truth_of}
use Rattle.chi_core.specs.Comparisons.{tells, opposite, are_comparable, compared, compares}

where_some : {A : Type 0} (b : Bool) (o : Option A) → (if b then o else None) ≢ None → b ≡ true
where_some true o h = refl
where_some false o h = absurd (h refl)

pub has_may : (v x : Value) → has v x ≢ None → IsTrue (may_has v x)
has_may v x h = where_some (may_has v x) _ h

pub sub_may : (a b : Value) → sub a b ≢ None → IsTrue (may_sub a b)
sub_may a b h = where_some (may_sub a b) _ h

pub size_may : (v : Value) → size v ≢ None → IsTrue (may_size v)
size_may v h = where_some (may_size v) _ h

pub tells_there : (o : Option Bool) (view : View) → tells o view ≢ Amiss → o ≢ None
tells_there o view h e = h (ap (λ o. tells o view) e)

pub tells_is : (o : Option Bool) (b : Bool) (view : View) → o ≡ Some b → tells o view ≡ Gives (value.Bool b) view
tells_is o b view e = ap (λ o. tells o view) e

pub opposite_there : (a : Value) (view : View) → opposite a view ≢ Amiss → truth_of a ≢ None
opposite_there a view h e = h (ap (λ o. tells (option_map not o) view) e)

pub opposite_is : (a : Value) (b : Bool) (view : View) → truth_of a ≡ Some b → opposite a view ≡ Gives (value.Bool (not b)) view
opposite_is a b view e = ap (λ o. tells (option_map not o) view) e

compared_at : (b : Bool) (o : Ordering) → (if b then Some o else None) ≢ None → (if b then Some o else None) ≡ Some o
compared_at true o h = refl
compared_at false o h = absurd (h refl)

pub compared_is : (a b : Value) → compared a b ≢ None → compared a b ≡ Some (order a b)
compared_is a b h = compared_at (are_comparable a b) (order a b) h

pub compares_there : (holds : Ordering → Bool) (a b : Value) (view : View) → compares holds a b view ≢ Amiss → compared a b ≢ None
compares_there holds a b view h e = h (ap (λ o. tells (option_map holds o) view) e)

pub compares_is : (holds : Ordering → Bool) (a b : Value) (o : Ordering) (view : View) → compared a b ≡ Some o → compares holds a b view ≡ Gives (value.Bool (holds o)) view
compares_is holds a b o view e = ap (λ o. tells (option_map holds o) view) e

pub ruleset truths = (tells_there, tells_is, opposite_there, opposite_is, compared_is, compares_there, compares_is, has_may, sub_may, size_may)
