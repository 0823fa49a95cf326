-- What follows of an answer.
use Rattle.std.specs.Prelude.{Result, Ok, Err, OnOk, IfOk}

pub on_ok : {T E : Type 0} (r : Result T E) {P Q : Type 0} → OnOk r P → (P → Q) → OnOk r Q
on_ok (Ok x) p f = f p
on_ok (Err e) p f = tt

pub if_ok : {T E : Type 0} (r : Result T E) {P Q : T → Type 0} → IfOk r P → ((x : T) → P x → Q x) → IfOk r Q
if_ok (Ok x) p f = f x p
if_ok (Err e) p f = tt

-- of both where there is an answer
pub if_both : {T E : Type 0} (r : Result T E) {P Q R : T → Type 0} → IfOk r P → IfOk r Q → ((x : T) → P x → Q x → R x) → IfOk r R
if_both (Ok x) p q f = f x p q
if_both (Err e) p q f = tt

pub if_and : {T E : Type 0} (r : Result T E) {P : T → Type 0} {Q : Type 0} {R : T → Type 0} → IfOk r P → OnOk r Q → ((x : T) → P x → Q → R x) → IfOk r R
if_and (Ok x) p q f = f x p q
if_and (Err e) p q f = tt
