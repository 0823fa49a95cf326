-- Where something is not done, what comes after it isn't either; and where the whole isn't amiss, nor is what comes first.
use Rattle.std.proofs.Common.{◌≡◌, ◌≢◌, ◌∙◌, Option, None, Some, ap}
use Rattle.chi_core.specs.Answer.{Answer, Does, Gives, Amiss, then_do, giving, wanted}
use Rattle.chi_core.specs.declared.view.View.{View}
use Rattle.chi_core_apply.specs.declared.failure.Failure.{Failure}
use Rattle.chi_core_apply.specs.declared.failure.Failure.TheVariants as failure
use Rattle.chi_core_apply.specs.Failures.{IsFailure}
use Rattle.chi_core_frame.specs.declared.stop.Stop.{Stop}
use Rattle.chi_core_frame.specs.declared.stop.Stop.TheVariants.{Fault, Spent, NoMemory}
use Rattle.chi_core_frame.specs.Stops.{Stops, stop_of_failure}

pub then_stops : {A B : Type 0} (stop : Stop) (it : Answer A) (next : A → Does B) → Stops stop it → Stops stop (then_do it next)
then_stops (Fault kind) it next e = ap (λ a. then_do a next) e
then_stops Spent it next e = ap (λ a. then_do a next) e
then_stops NoMemory it next e = tt

pub giving_stops : {A B : Type 0} (stop : Stop) (it : Answer A) (f : A → B) → Stops stop it → Stops stop (giving f it)
giving_stops (Fault kind) it f e = ap (giving f) e
giving_stops Spent it f e = ap (giving f) e
giving_stops NoMemory it f e = tt

pub then_there : {A B : Type 0} (it : Answer A) (next : A → Does B) → then_do it next ≢ Amiss → it ≢ Amiss
then_there it next h e = h (ap (λ a. then_do a next) e)

pub next_there : {A B : Type 0} (it : Answer A) (next : A → Does B) (x : A) (view : View) → then_do it next ≢ Amiss → it ≡ Gives x view → next x view ≢ Amiss
next_there it next x view h e a = h (ap (λ a. then_do a next) e ∙ a)

pub wanted_there : {A : Type 0} (o : Option A) (view : View) → wanted o view ≢ Amiss → o ≢ None
wanted_there o view h e = h (ap (λ o. wanted o view) e)

pub wanted_is : {A : Type 0} (o : Option A) (x : A) (view : View) → o ≡ Some x → wanted o view ≡ Gives x view
wanted_is o x view e = ap (λ o. wanted o view) e

-- why operands have no value is why what was asked for has none
pub failure_stops : {A : Type 0} (f : Failure) (stop : Stop) (it : Answer A) → stop ≡ stop_of_failure f → IsFailure f it → Stops stop it
failure_stops (failure.Fault kind) stop it s e = rw s e
failure_stops failure.NoMemory stop it s e = rw s tt

pub ruleset wanted_part = (wanted_there, wanted_is)

pub ruleset stopping = (then_stops, giving_stops, failure_stops)
