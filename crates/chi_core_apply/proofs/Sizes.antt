-- Sizes of containers and strings.
use Rattle.std.proofs.Common.{◌≡◌, ◌≢◌, ℕ, IsTrue, Some, pos, nat_eq, ap}
use Rattle.std.specs.Prelude.{option_map}
use Rattle.chi_value.specs.declared.value.Value.{Value}
use Rattle.chi_value.specs.declared.value.Value.TheVariants as value
use Rattle.chi_ops.specs.Conditions.{may_size}
use Rattle.chi_ops.specs.Operations.{size}
use Rattle.chi_core.specs.declared.view.View.{View}
use Rattle.chi_core.specs.Answer.{Gives, Amiss, wanted}
use Rattle.chi_core.specs.Containers.{size_of, is_empty}
use Rattle.chi_core_apply.proofs.Truths.{size_may}

pub size_there : (a : Value) (view : View) → size_of a view ≢ Amiss → IsTrue (may_size a)
size_there a view h = size_may a (λ e. h (ap (λ o. wanted (option_map (λ n. value.Int (pos n)) o) view) e))

pub empty_there : (a : Value) (view : View) → is_empty a view ≢ Amiss → IsTrue (may_size a)
empty_there a view h = size_may a (λ e. h (ap (λ o. wanted (option_map (λ n. value.Bool (nat_eq n 0)) o) view) e))

pub size_is : (a : Value) (n : ℕ) (view : View) → size a ≡ Some n → size_of a view ≡ Gives (value.Int (pos n)) view
size_is a n view e = ap (λ o. wanted (option_map (λ n. value.Int (pos n)) o) view) e

pub empty_is : (a : Value) (n : ℕ) (view : View) → size a ≡ Some n → is_empty a view ≡ Gives (value.Bool (nat_eq n 0)) view
empty_is a n view e = ap (λ o. wanted (option_map (λ n. value.Bool (nat_eq n 0)) o) view) e

pub ruleset sizes = (size_there, empty_there, size_is, empty_is)
