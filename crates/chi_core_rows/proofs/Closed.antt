-- What folds over values come to at values that are written out.
use Rattle.std.proofs.Common.{◌≡◌, ℕ, ◌+◌, ℤ, pos, List, map, sym, ap, ◌∙◌, Bool, true}
use Rattle.std.specs.declared.cmp.Ordering.{Ordering}
use Rattle.std.specs.Ordering.{int_cmp}
use Rattle.std.specs.List.{list_all}
use Rattle.chi_value.specs.declared.value.Value.{Value, Value-F, out-Value, roll-Value, fold_out-Value, para-roll-Value, map-Value}
use Rattle.chi_value.specs.declared.value.Value.TheVariants as value
use Rattle.chi_value.specs.declared.shape.Shape.{Shape, Shape-F, out-Shape, fold_out-Shape, map-Shape}
use Rattle.chi_value.specs.declared.shape.Shape.TheVariants as shape
use Rattle.chi_value.specs.Default.{default, default_step, in_turn, tuple_of}
use Rattle.chi_value.specs.Order.{order, order_step}
use Rattle.chi_value.specs.Plain.{is_plain, plain_step, within, within_step, itself}
use Rattle.chi_value.specs.Alike.{alike, alike_step, uniform, uniform_step, uniform_elements}
use Rattle.chi_value.specs.Text.{Written, written, written_step, text, quoted_text}
use Rattle.chi_ops.specs.Conditions.{may_size, has_size, may_has, may_hold}
use Rattle.chi_ops.specs.Kinds.{is_int, is_list, is_sequence, is_container}
use Rattle.chi_ops.specs.Operations.{size, has, lookup, pop}
use Rattle.chi_ops.specs.Sequences.{index, slice, join, del, enumerate}
use Rattle.chi_ops.specs.Store.{fits_along, stored}
use Rattle.chi_ops.specs.Tidy.{sorted, sorted_step}

default_out : (s : Shape) (o : Shape-F Shape) → out-Shape s ≡ o → (channels : ℕ) → default s channels ≡ default_step (map-Shape _ _ default o) channels
default_out s o h channels = ap (λ f. f channels) (fold_out-Shape (ℕ → Value × ℕ) default_step s) ∙ ap (λ o. default_step (map-Shape _ _ default o) channels) h

pub default_int : (channels : ℕ) → default shape.Int channels ≡ (value.Int (pos 0), channels)
default_int channels = default_out shape.Int _ shape.outs-Int channels

pub default_chan : (channels : ℕ) → default shape.Chan channels ≡ (value.Chan channels, channels + 1)
default_chan channels = default_out shape.Chan _ shape.outs-Chan channels

pub default_tuple : (parts : List Shape) (channels : ℕ) → default (shape.TupleOf parts) channels ≡ tuple_of (in_turn (map default parts) channels)
default_tuple parts channels = default_out (shape.TupleOf parts) _ (shape.outs-TupleOf parts) channels

order_out : (v : Value) (o : Value-F Value) → out-Value v ≡ o → (w : Value) → order v w ≡ order_step (map-Value _ _ order o) (out-Value w)
order_out v o h w = ap (λ f. f w) (fold_out-Value (Value → Ordering) (λ layer other. order_step layer (out-Value other)) v) ∙ ap (λ o. order_step (map-Value _ _ order o) (out-Value w)) h

pub order_int : (x y : ℤ) → order (value.Int x) (value.Int y) ≡ int_cmp x y
unfolding out-Value denote.Hole.Carrier.out
order_int x y = order_out (value.Int x) _ (value.outs-Int x) (value.Int y)

pub plain_out : (v : Value) (o : Value-F Value) → out-Value v ≡ o → is_plain v ≡ plain_step (map-Value _ _ is_plain o)
plain_out v o h = fold_out-Value Bool plain_step v ∙ ap (λ o. plain_step (map-Value _ _ is_plain o)) h

pub plain_int : (x : ℤ) → is_plain (value.Int x) ≡ true
plain_int x = plain_out (value.Int x) _ (value.outs-Int x)

pub plain_text : (x : List ℕ) → is_plain (value.Text x) ≡ true
plain_text x = plain_out (value.Text x) _ (value.outs-Text x)

pub plain_list : (xs : List Value) → is_plain (value.ListOf xs) ≡ list_all itself (map is_plain xs)
plain_list xs = plain_out (value.ListOf xs) _ (value.outs-ListOf xs)

pub within_int : (names : List (List (List ℕ))) (x : ℤ) → within names (value.Int x) ≡ true
within_int names x = fold_out-Value Bool (within_step names) (value.Int x) ∙ ap (λ o. within_step names (map-Value _ _ (within names) o)) (value.outs-Int x)

pub written_out : (names : List (List (List ℕ))) (v : Value) (o : Value-F Value) → out-Value v ≡ o → written names v ≡ written_step names (map-Value _ _ (written names) o)
written_out names v o h = fold_out-Value Written (written_step names) v ∙ ap (λ o. written_step names (map-Value _ _ (written names) o)) h

pub written_int : (names : List (List (List ℕ))) (x : ℤ) → written names (value.Int x) ≡ written_step names (Value-F.Int x)
written_int names x = written_out names (value.Int x) _ (value.outs-Int x)

alike_out : (v : Value) (o : Value-F Value) → out-Value v ≡ o → (w : Value) → alike v w ≡ alike_step (map-Value _ _ alike o) (out-Value w)
alike_out v o h w = ap (λ f. f w) (fold_out-Value (Value → Bool) (λ layer other. alike_step layer (out-Value other)) v) ∙ ap (λ o. alike_step (map-Value _ _ alike o) (out-Value w)) h

pub alike_int : (x : ℤ) (w : Value) → alike (value.Int x) w ≡ alike_step (Value-F.Int x) (out-Value w)
alike_int x w = alike_out (value.Int x) _ (value.outs-Int x) w

pub alike_text : (x : List ℕ) (w : Value) → alike (value.Text x) w ≡ alike_step (Value-F.Text x) (out-Value w)
alike_text x w = alike_out (value.Text x) _ (value.outs-Text x) w

pub alike_chan : (x : ℕ) (w : Value) → alike (value.Chan x) w ≡ alike_step (Value-F.Chan x) (out-Value w)
alike_chan x w = alike_out (value.Chan x) _ (value.outs-Chan x) w

pub alike_list : (xs : List Value) (w : Value) → alike (value.ListOf xs) w ≡ alike_step (Value-F.ListOf (map alike xs)) (out-Value w)
alike_list xs w = alike_out (value.ListOf xs) _ (value.outs-ListOf xs) w

uniform_roll : (v : Value) (o : Value-F Value) → roll-Value o ≡ v → uniform v ≡ uniform_step (map-Value _ _ (λ x. (x, uniform x)) o)
uniform_roll v o h = ap uniform (sym h) ∙ para-roll-Value Bool uniform_step o

pub uniform_int : (x : ℤ) → uniform (value.Int x) ≡ true
uniform_int x = uniform_roll (value.Int x) _ (value.rolls-Int x)

pub uniform_text : (x : List ℕ) → uniform (value.Text x) ≡ true
uniform_text x = uniform_roll (value.Text x) _ (value.rolls-Text x)

pub uniform_real : (x : ℤ) → uniform (value.Real x) ≡ true
uniform_real x = uniform_roll (value.Real x) _ (value.rolls-Real x)

pub uniform_chan : (x : ℕ) → uniform (value.Chan x) ≡ true
uniform_chan x = uniform_roll (value.Chan x) _ (value.rolls-Chan x)

pub uniform_list : (xs : List Value) → uniform (value.ListOf xs) ≡ uniform_elements (map (λ x. (x, uniform x)) xs)
uniform_list xs = uniform_roll (value.ListOf xs) _ (value.rolls-ListOf xs)

sorted_roll : (v : Value) (o : Value-F Value) → roll-Value o ≡ v → sorted v ≡ sorted_step (map-Value _ _ (λ x. (x, sorted x)) o)
sorted_roll v o h = ap sorted (sym h) ∙ para-roll-Value Bool sorted_step o

pub sorted_int : (x : ℤ) → sorted (value.Int x) ≡ true
sorted_int x = sorted_roll (value.Int x) _ (value.rolls-Int x)

pub sorted_text : (x : List ℕ) → sorted (value.Text x) ≡ true
sorted_text x = sorted_roll (value.Text x) _ (value.rolls-Text x)

pub sorted_real : (x : ℤ) → sorted (value.Real x) ≡ true
sorted_real x = sorted_roll (value.Real x) _ (value.rolls-Real x)

pub sorted_chan : (x : ℕ) → sorted (value.Chan x) ≡ true
sorted_chan x = sorted_roll (value.Chan x) _ (value.rolls-Chan x)

pub sorted_list : (xs : List Value) → sorted (value.ListOf xs) ≡ sorted_step (Value-F.ListOf (map (λ x. (x, sorted x)) xs))
sorted_list xs = sorted_roll (value.ListOf xs) _ (value.rolls-ListOf xs)

-- the outermost layers of values
pub ruleset layers = (value.outs-Bool, value.outs-Int, value.outs-Real, value.outs-Text, value.outs-Choice, value.outs-TupleOf, value.outs-ListOf, value.outs-SetOf, value.outs-DictOf, value.outs-Chan, value.outs-Dist, value.outs-Timer, value.outs-Inst)

pub ruleset closed = (layers, default_int, default_chan, default_tuple, order_int, plain_int, plain_text, plain_list, within_int, written_int, alike_int, alike_text, alike_chan, alike_list, uniform_int, uniform_real, uniform_text, uniform_chan, uniform_list, sorted_int, sorted_real, sorted_text, sorted_chan, sorted_list)

-- and operations on lists
pub ruleset containers = (closed, fits_along, stored, index, is_int, is_sequence)

-- and operators
pub ruleset operations = (containers, text, quoted_text, may_size, has_size, may_has, may_hold, size, has, lookup, pop, slice, join, del, enumerate, is_list, is_container)
