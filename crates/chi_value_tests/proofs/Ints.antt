-- What holds of containers of ints, which is tested in linear time.
use Rattle.std.proofs.Common.{◌≡◌, Bool, true, false, ◌&&◌, ℕ, ◌^◌, nat_lt, length, ℤ, List, [], ◌∷◌, map, refl, sym, ap, ◌∙◌}
use Rattle.std.proofs.lemmas.Bool.{false≢true, and_parts, and_from}
use Rattle.std.specs.List.{list_all}
use Rattle.chi_value.specs.declared.format.Kind.TheVariants as kind
use Rattle.chi_value.specs.declared.value.Value.{Value, Value-F, fold_out-Value, map-Value, out-Value}
use Rattle.chi_value.specs.declared.value.Value.TheVariants as value
use Rattle.chi_value.specs.Alike.{alike, alike_step, all_alike, elements_alike}
use Rattle.chi_value.specs.Plain.{is_plain, plain_step}
use Rattle.chi_sets.specs.Sets.{is_ascending}
use Rattle.chi_ops.specs.Conditions.{has_size, is_key, may_build, may_has, may_hold, may_join, may_size, may_union}
use Rattle.chi_ops.specs.Kinds.{is_int, is_sequence, is_sorted}
use Rattle.chi_ops.specs.Tidy.{tidy, all_tidy}
use Rattle.chi_value_tests.proofs.Layers.{tidy_at}

abbrev pub are_ints : List Value → Bool
are_ints xs = list_all is_int xs

int_at : (o : Value-F Value) → (x : Value) → out-Value x ≡ o → is_int x ≡ true → (n : ℤ) × (out-Value x ≡ Value-F.Int n)
int_at (Value-F.Int n) x out h = (n, out)
int_at _ x out h = absurd (false≢true (rw (out, is_int) at h))

int_of : (x : Value) → is_int x ≡ true → (n : ℤ) × (out-Value x ≡ Value-F.Int n)
int_of x h = int_at (out-Value x) x refl h

int_tidy : (x : Value) → is_int x ≡ true → tidy x ≡ true
int_tidy x h = let n = int_of x h in tidy_at x (Value-F.Int n.0) n.1

int_plain : (x : Value) → is_int x ≡ true → is_plain x ≡ true
int_plain x h = fold_out-Value Bool plain_step x ∙ ap (λ o. plain_step (map-Value _ _ is_plain o)) (int_of x h).1

pub int_key : (n : ℤ) → is_key (value.Int n) ≡ true
int_key n = let is : is_int (value.Int n) ≡ true = rw (value.outs-Int n, is_int) refl in and_from _ _ (int_plain (value.Int n) is) (int_tidy (value.Int n) is)

alike_at : (x y : Value) (o : Value-F Value) → out-Value x ≡ o → alike x y ≡ alike_step (map-Value _ _ alike o) (out-Value y)
alike_at x y o h = ap (λ f. f y) (fold_out-Value (Value → Bool) (λ layer other. alike_step layer (out-Value other)) x) ∙
    ap (λ o. alike_step (map-Value _ _ alike o) (out-Value y)) h

ints_alike : (x y : Value) → is_int x ≡ true → is_int y ≡ true → alike x y ≡ true
ints_alike x y h k = alike_at x y (Value-F.Int (int_of x h).0) (int_of x h).1 ∙ ap (alike_step (Value-F.Int (int_of x h).0)) (int_of y k).1

all_from : (p q : Value → Bool) → ((x : Value) → p x ≡ true → q x ≡ true) → (xs : List Value) → list_all p xs ≡ true → list_all q xs ≡ true
all_from p q each [] h = refl
all_from p q each (x ∷ xs) h =
    let parts = and_parts (p x) (list_all p xs) h in and_from _ _ (each x parts.0) (all_from p q each xs parts.1)

pub alike_to_ints : (x : Value) (ys : List Value) → is_int x ≡ true → are_ints ys ≡ true → list_all (alike x) ys ≡ true
alike_to_ints x ys h k = all_from is_int (alike x) (λ y is. ints_alike x y h is) ys k

pub ints_tidy : (xs : List Value) → are_ints xs ≡ true → all_tidy xs ≡ true
ints_tidy xs h = all_from is_int tidy int_tidy xs h

pub ints_plain : (xs : List Value) → are_ints xs ≡ true → list_all is_plain xs ≡ true
ints_plain xs h = all_from is_int is_plain int_plain xs h

pub ints_peers : (xs ys : List Value) → are_ints xs ≡ true → are_ints ys ≡ true → list_all (λ x. list_all (alike x) ys) xs ≡ true
ints_peers xs ys h k = all_from is_int (λ x. list_all (alike x) ys) (λ x is. alike_to_ints x ys is k) xs h

pub list_tidy : (xs : List Value) → are_ints xs ≡ true → tidy (value.ListOf xs) ≡ true
list_tidy xs h = tidy_at (value.ListOf xs) (Value-F.ListOf xs) (value.outs-ListOf xs) ∙ and_from _ _ (ints_tidy xs h) (ints_peers xs xs h h)

pub set_tidy : (xs : List Value) → are_ints xs ≡ true → is_ascending xs ≡ true → tidy (value.SetOf xs) ≡ true
set_tidy xs h ascends =
    tidy_at (value.SetOf xs) (Value-F.SetOf xs) (value.outs-SetOf xs) ∙
    and_from _ _ (ints_tidy xs h) (and_from _ _ (ints_peers xs xs h h) (and_from _ _ (ints_plain xs h) ascends))

elements_peers : (xs ys : List Value) → list_all (λ x. list_all (alike x) ys) xs ≡ true → elements_alike (map alike xs) ys ≡ true
elements_peers [] ys h = refl
elements_peers (x ∷ xs) ys h =
    let parts = and_parts (list_all (alike x) ys) (list_all (λ x. list_all (alike x) ys) xs) h in
    and_from _ _ parts.0 (elements_peers xs ys parts.1)

pub lists_alike : (xs ys : List Value) → are_ints xs ≡ true → are_ints ys ≡ true → alike (value.ListOf xs) (value.ListOf ys) ≡ true
lists_alike xs ys h k =
    alike_at (value.ListOf xs) (value.ListOf ys) (Value-F.ListOf xs) (value.outs-ListOf xs) ∙
    ap (alike_step (Value-F.ListOf (map alike xs))) (value.outs-ListOf ys) ∙ elements_peers xs ys (ints_peers xs ys h k)

pub sets_alike : (xs ys : List Value) → are_ints xs ≡ true → are_ints ys ≡ true → alike (value.SetOf xs) (value.SetOf ys) ≡ true
sets_alike xs ys h k =
    alike_at (value.SetOf xs) (value.SetOf ys) (Value-F.SetOf xs) (value.outs-SetOf xs) ∙
    ap (alike_step (Value-F.SetOf (map alike xs))) (value.outs-SetOf ys) ∙ elements_peers xs ys (ints_peers xs ys h k)

-- conditions of operations

pub build_ints : (parts : List Value) → are_ints parts ≡ true → may_build kind.SetOf parts ≡ true
build_ints parts h = and_from _ _ (and_from _ _ (ints_tidy parts h) (ints_peers parts parts h h)) (ints_plain parts h)

pub has_ints : (xs : List Value) (n : ℤ) → are_ints xs ≡ true → is_ascending xs ≡ true → may_has (value.SetOf xs) (value.Int n) ≡ true
has_ints xs n h ascends =
    let one : is_int (value.Int n) ≡ true = rw (value.outs-Int n, is_int) refl in
    let held : may_hold (value.SetOf xs) (value.Int n) ≡ true = rw (value.outs-SetOf xs, may_hold) (alike_to_ints (value.Int n) xs one h) in
    and_from _ _ (and_from _ _ (set_tidy xs h ascends) (int_key n)) held

pub union_ints : (xs ys : List Value) → are_ints xs ≡ true → are_ints ys ≡ true → is_ascending xs ≡ true → is_ascending ys ≡ true →
    may_union (value.SetOf xs) (value.SetOf ys) ≡ true
union_ints xs ys h k a b =
    let sorted : is_sorted (value.SetOf xs) ≡ true = rw (value.outs-SetOf xs, is_sorted) refl in
    and_from _ _ (and_from _ _ (and_from _ _ (set_tidy xs h a) (set_tidy ys k b)) (sets_alike xs ys h k)) sorted

pub join_ints : (xs ys : List Value) → are_ints xs ≡ true → are_ints ys ≡ true → may_join (value.ListOf xs) (value.ListOf ys) ≡ true
join_ints xs ys h k =
    let sequence : is_sequence (value.ListOf xs) ≡ true = rw (value.outs-ListOf xs, is_sequence) refl in
    and_from _ _ (and_from _ _ (and_from _ _ (list_tidy xs h) (list_tidy ys k)) (lists_alike xs ys h k)) sequence

pub sequence_ints : (xs : List Value) → are_ints xs ≡ true → (tidy (value.ListOf xs) && is_sequence (value.ListOf xs)) ≡ true
sequence_ints xs h =
    let sequence : is_sequence (value.ListOf xs) ≡ true = rw (value.outs-ListOf xs, is_sequence) refl in
    and_from _ _ (list_tidy xs h) sequence

pub text_size : (bytes : List ℕ) → nat_lt (length bytes) (2 ^ 32) ≡ true → may_size (value.Text bytes) ≡ true
text_size bytes h =
    let sized : has_size (value.Text bytes) ≡ true = rw (value.outs-Text bytes, has_size) h in
    and_from _ _ (tidy_at (value.Text bytes) (Value-F.Text bytes) (value.outs-Text bytes)) sized
