-- What operations on containers come to.
use Rattle.std.proofs.Common.{◌≡◌, ◌≢◌, Bool, true, false, IsTrue, refl, ap}
use Rattle.chi_value.specs.declared.value.Value.{Value}
use Rattle.chi_ops.specs.declared.fault.OpFault.{OpFault}
use Rattle.chi_ops.specs.declared.fault.OpFault.TheVariants as fault
use Rattle.chi_ops.specs.Outcome.{Outcome, gives, where_may}
use Rattle.chi_ops.specs.Refusal.{Refuses}
use Rattle.chi_core.specs.Answer.{Gives, Amiss}
use Rattle.chi_core.specs.declared.view.View.{View}
use Rattle.chi_core.specs.Containers.{done}
use Rattle.chi_core_apply.specs.declared.failure.Failure.{Failure}
use Rattle.chi_core_apply.specs.Failures.{IsFailure, failure_of_operation}

-- its condition holds where it isn't amiss
pub may : (b : Bool) (outcome : Outcome) (view : View) → done (where_may b outcome) view ≢ Amiss → IsTrue b
may true outcome view h = refl
may false outcome view h = absurd (h refl)

pub done_gives : (outcome : Outcome) (v : Value) (view : View) → outcome ≡ gives v → done outcome view ≡ Gives v view
done_gives outcome v view e = ap (λ o. done o view) e

pub done_fails : (f : OpFault) (failure : Failure) (outcome : Outcome) (view : View) → failure ≡ failure_of_operation f → Refuses f outcome → IsFailure failure (done outcome view)
done_fails fault.Index failure outcome view s e = rw (s, e) refl
done_fails fault.Key failure outcome view s e = rw (s, e) refl
done_fails fault.Empty failure outcome view s e = rw (s, e) refl
done_fails fault.Limit failure outcome view s e = rw (s, e) refl
done_fails fault.SliceStep failure outcome view s e = rw (s, e) refl
done_fails fault.NoMemory failure outcome view s e = rw s tt

pub ruleset operations = (may, done_gives, done_fails)
