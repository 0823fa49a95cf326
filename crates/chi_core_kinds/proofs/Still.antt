-- What costs nothing and makes no channel: as much is left of the bound after it as before, and as many channels are there.
use Rattle.std.proofs.Common.{◌≡◌, ℕ, zero, suc, List, [], ◌∷◌, ◌++◌, Option, Some, None, Bool, true, false, cond, refl, ◌∙◌}
use Rattle.chi_core.specs.declared.view.View.{View}
use Rattle.chi_core.specs.Answer.{Answer, Gives, Fails, Spent, Amiss, Does, then_do, gives, wanted, gathered, gathered_times}

abbrev pub Stays : {A : Type 0} → View → Answer A → Type 0
Stays view (Gives x new) = (new.left ≡ view.left) × (new.channels ≡ view.channels)
Stays view (Fails kind) = Unit {0}
Stays view Spent = ⊥
Stays view Amiss = Unit {0}

abbrev pub Still : {A : Type 0} → Does A → Type 0
Still m = (view : View) → Stays view (m view)

stays_after : {A : Type 0} (old view : View) → (view.left ≡ old.left) × (view.channels ≡ old.channels) → (a : Answer A) → Stays view a → Stays old a
stays_after old view e (Gives x new) h = (h.0 ∙ e.0, h.1 ∙ e.1)
stays_after old view e (Fails kind) h = tt
stays_after old view e Spent h = h
stays_after old view e Amiss h = tt

pub stays_then : {A B : Type 0} (view : View) (a : Answer A) (f : A → Does B) → Stays view a → ((x : A) → Still (f x)) → Stays view (then_do a f)
stays_then view (Gives x new) f h g = stays_after view new h (f x new) (g x new)
stays_then view (Fails kind) f h g = tt
stays_then view Spent f h g = h
stays_then view Amiss f h g = tt

pub still_gives : {A : Type 0} (x : A) → Still (gives x)
still_gives x view = (refl, refl)

pub still_wanted : {A : Type 0} (o : Option A) → Still (wanted o)
still_wanted None view = tt
still_wanted (Some x) view = (refl, refl)

pub stays_if : {A : Type 0} (b : Bool) (view : View) (a c : Answer A) → Stays view a → Stays view c → Stays view (cond b a c)
stays_if true view a c h l = h
stays_if false view a c h l = l

abbrev pub EachStill : {A : Type 0} → List (Does A) → Type 0
EachStill [] = Unit {0}
EachStill (m ∷ ms) = Still m × EachStill ms

pub still_gathered : {A : Type 0} (xs : List A) (ms : List (Does A)) → EachStill ms → Still (gathered xs ms)
still_gathered xs [] h view = (refl, refl)
still_gathered xs (m ∷ ms) h view = stays_then view (m view) (λ x. gathered (xs ++ x ∷ []) ms) (h.0 view) (λ x. still_gathered (xs ++ x ∷ []) ms h.1)

pub still_times : {A : Type 0} (xs : List A) (count : ℕ) (m : Does A) → Still m → Still (gathered_times xs count m)
still_times xs zero m h view = (refl, refl)
still_times xs (suc count) m h view = stays_then view (m view) (λ x. gathered_times (xs ++ x ∷ []) count m) (h view) (λ x. still_times (xs ++ x ∷ []) count m h)
