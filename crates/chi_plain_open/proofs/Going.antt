-- What isn't amiss, and what comes after it.
use Rattle.std.proofs.Common.{◌≡◌, ◌≢◌, Option, Some, None, sym, ◌∙◌, ap, subst}
use Rattle.std.specs.Prelude.{Result, Ok, Err, OnOk, IfOk, IfErr, IfSome}
use Rattle.chi_core.specs.declared.view.View.{View}
use Rattle.chi_core.specs.Answer.{Answer, Gives, Amiss, Does, then_do, giving, wanted}
use Rattle.chi_core_frame.specs.declared.stop.Stop.{Stop}
use Rattle.chi_core_frame.specs.declared.stop.Stop.TheVariants.{Fault, Spent, NoMemory}
use Rattle.chi_core_frame.specs.Stops.{Stops}

-- where two things in turn aren't amiss, neither is

pub well_first : {A B : Type 0} (it : Answer A) (next : A → Does B) → then_do it next ≢ Amiss → it ≢ Amiss
well_first it next well e = well (ap (λ a. then_do a next) e)

pub well_next : {A B : Type 0} (it : Answer A) (next : A → Does B) (x : A) (view : View) → it ≡ Gives x view → then_do it next ≢ Amiss → next x view ≢ Amiss
well_next it next x view e well f = well (ap (λ a. then_do a next) e ∙ f)

pub well_giving : {A B : Type 0} (f : A → B) (it : Answer A) → giving f it ≢ Amiss → it ≢ Amiss
well_giving f it well e = well (ap (giving f) e)

pub well_wanted : {A : Type 0} (o : Option A) (view : View) → wanted o view ≢ Amiss → o ≢ None
well_wanted o view well e = well (ap (λ o. wanted o view) e)

-- where the first is not done, what comes after it isn't either

pub then_stops : {A B : Type 0} (stop : Stop) (it : Answer A) (next : A → Does B) → Stops stop it → Stops stop (then_do it next)
then_stops (Fault kind) it next e = ap (λ a. then_do a next) e
then_stops Spent it next e = ap (λ a. then_do a next) e
then_stops NoMemory it next e = tt

pub giving_stops : {A B : Type 0} (stop : Stop) (it : Answer A) (f : A → B) → Stops stop it → Stops stop (giving f it)
giving_stops (Fault kind) it f e = ap (giving f) e
giving_stops Spent it f e = ap (giving f) e
giving_stops NoMemory it f e = tt

pub ruleset going = (then_stops, giving_stops)

-- on one variant

pub on_ok : {T E : Type 0} (r : Result T E) {P Q : Type 0} → OnOk r P → (P → Q) → OnOk r Q
on_ok (Ok x) p f = f p
on_ok (Err e) p f = tt

pub if_ok : {T E : Type 0} (r : Result T E) {P Q : T → Type 0} → IfOk r P → ((x : T) → P x → Q x) → IfOk r Q
if_ok (Ok x) p f = f x p
if_ok (Err e) p f = tt

pub if_err : {T E : Type 0} (r : Result T E) {P Q : E → Type 0} → IfErr r P → ((e : E) → P e → Q e) → IfErr r Q
if_err (Ok x) p f = tt
if_err (Err e) p f = f e p

-- of what is there
pub at_some : {A : Type 0} (o : Option A) (P : A → Type 0) (x : A) → o ≡ Some x → P x → IfSome o P
at_some {A} o P x at p = let Q : Option A → Type 0 = λ o. IfSome o P in subst Q (sym at) p

pub at_known : {A : Type 0} (o : Option A) (P : A → Type 0) (x : A) → o ≡ Some x → IfSome o P → P x
at_known {A} o P x at p = let Q : Option A → Type 0 = λ o. IfSome o P in subst Q at p
