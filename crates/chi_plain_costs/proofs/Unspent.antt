-- What costs nothing.
use Rattle.std.proofs.Common.{◌≢◌, ℕ, List, [], ◌∷◌, Option, Some, None, subst}
use Rattle.chi_value.specs.declared.value.Value.{Value}
use Rattle.chi_ops.specs.Store.{Step, put}
use Rattle.chi_ops.specs.Outcome as outcome
use Rattle.chi_core.specs.declared.view.View.{View}
use Rattle.chi_core.specs.Answer.{Answer, Does, Gives, Fails, Spent, Amiss, then_do, wanted, giving, through}
use Rattle.chi_core.specs.Containers.{done}
use Rattle.chi_core.specs.Spots.{Spot, store, store_into}
use Rattle.chi_core.specs.Variables.{Variables, value_at, with_slot}

-- it costs nothing, as it doesn't come to Spent
abbrev pub IsCheap : {A : Type 0} → Answer A → Type 0
IsCheap (Gives x view) = Unit {0}
IsCheap (Fails kind) = Unit {0}
IsCheap Spent = ⊥
IsCheap Amiss = Unit {0}

pub not_spent : {A : Type 0} (it : Answer A) → IsCheap it → it ≢ Spent
not_spent {A} it cheap e = let P : Answer A → Type 0 = IsCheap in subst P e cheap

pub cheap_wanted : {A : Type 0} (o : Option A) (view : View) → IsCheap (wanted o view)
cheap_wanted None view = tt
cheap_wanted (Some x) view = tt

pub cheap_giving : {A B : Type 0} (it : Answer A) (f : A → B) → IsCheap it → IsCheap (giving f it)
cheap_giving (Gives x view) f cheap = tt
cheap_giving (Fails kind) f cheap = tt
cheap_giving Spent f cheap = absurd cheap
cheap_giving Amiss f cheap = tt

pub cheap_then : {A B : Type 0} (it : Answer A) (next : A → Does B) → IsCheap it → ((x : A) (now : View) → IsCheap (next x now)) → IsCheap (then_do it next)
cheap_then (Gives x now) next cheap each = each x now
cheap_then (Fails kind) next cheap each = tt
cheap_then Spent next cheap each = absurd cheap
cheap_then Amiss next cheap each = tt

-- stores

cheap_done : (it : outcome.Outcome) (view : View) → IsCheap (done it view)
cheap_done (outcome.gives v) view = tt
cheap_done (outcome.faults fault) view = tt
cheap_done outcome.wrong view = tt

cheap_into : (slot : ℕ) (path : List Step) (x : Value) (variables : Variables) (view : View) → IsCheap (store_into slot path x variables view)
cheap_into slot [] x variables view = cheap_wanted (with_slot slot x variables) view
cheap_into slot (s ∷ path) x variables view =
    cheap_then (wanted (value_at variables slot) view) _ (cheap_wanted (value_at variables slot) view) (λ v now.
    cheap_then (done (put (s ∷ path) x v) now) _ (cheap_done (put (s ∷ path) x v) now) (λ changed last.
    cheap_wanted (with_slot slot changed variables) last))

pub cheap_stores : (stores : List (Spot × Value)) (variables : Variables) (view : View) → IsCheap (through store stores variables view)
cheap_stores [] variables view = tt
cheap_stores (entry ∷ stores) variables view =
    cheap_then (store entry variables view) (through store stores) (cheap_into entry.0.slot entry.0.path entry.1 variables view)
    (λ new now. cheap_stores stores new now)
