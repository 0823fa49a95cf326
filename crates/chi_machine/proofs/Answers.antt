-- What follows of an answer.
use Rattle.std.proofs.Common.{◌≡◌, ℕ, ◌<◌, length, vec_len, Vec, Global, arith}
use Rattle.std.proofs.lemmas.Grind.{common_steps}
use Rattle.std.specs.Prelude.{Result, Ok, Err, OnOk, OnErr, IfOk}

pub on_ok : {T E : Type 0} (r : Result T E) {P Q : Type 0} → OnOk r P → (P → Q) → OnOk r Q
on_ok (Ok x) p f = f p
on_ok (Err e) p f = tt

pub if_ok : {T E : Type 0} (r : Result T E) {P Q : T → Type 0} → IfOk r P → ((x : T) → P x → Q x) → IfOk r Q
if_ok (Ok x) p f = f x p
if_ok (Err e) p f = tt

pub ok_so : {T E : Type 0} (r : Result T E) {P : Type 0} → P → OnOk r P
ok_so (Ok x) p = p
ok_so (Err e) p = tt

pub err_so : {T E : Type 0} (r : Result T E) {P : Type 0} → P → OnErr r P
err_so (Ok x) p = tt
err_so (Err e) p = p

-- of both where there is an answer
pub on_both : {T E : Type 0} (r : Result T E) {P Q R : Type 0} → OnOk r P → OnOk r Q → (P → Q → R) → OnOk r R
on_both (Ok x) p q f = f p q
on_both (Err e) p q f = tt

pub if_and : {T E : Type 0} (r : Result T E) {P : T → Type 0} {Q : Type 0} {R : T → Type 0} → IfOk r P → OnOk r Q → ((x : T) → P x → Q → R x) → IfOk r R
if_and (Ok x) p q f = f x p q
if_and (Err e) p q f = tt

-- how long a vector is

pub vec_length : {T : Type 0} (v : Vec T Global) → vec_len v ≡ length v.items
vec_length v = grind (arith, common_steps)

pub vec_within : {T : Type 0} (v : Vec T Global) (p : ℕ) → p < length v.items → p < vec_len v
vec_within v p h = let n = vec_length v in omega (arith, h, n)
