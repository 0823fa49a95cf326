-- Worked rows: what the definitions give for formats and values as users write them.
use Rattle.std.specs.Prelude.{◌≡◌, refl, option_map, option_and_then, ℕ, Bool, true, false, ℤ, pos, neg_ℤ, Option, Some, None, List, [], ◌∷◌, codes}
use Rattle.chi_value.specs.declared.format.Field.{Field}
use Rattle.chi_value.specs.declared.format.Piece.{Piece}
use Rattle.chi_value.specs.declared.format.Piece.TheVariants.{Plain, Any, Whole, Fixed}
use Rattle.std.specs.Fmt.{digits}
use Rattle.std.proofs.Common.{ap}
use Rattle.chi_num.specs.Decimal.{last_digits}
use Rattle.chi_value.specs.declared.value.Value.{Value, fold_out-Value}
use Rattle.chi_value.specs.Plain.{is_plain, plain_step, within, within_step}
use Rattle.chi_value.specs.Text.{Written, only, written, written_step}
use Rattle.chi_value.specs.declared.value.Value as values
use Rattle.chi_value.specs.declared.value.Value.TheVariants as value
use Rattle.chi_format.specs.Format.{filled, any_text, before, rendered, may_render}

abbrev right : ℕ → Field
right width = record { left = false; width = width }

abbrev to_left : ℕ → Field
to_left width = record { left = true; width = width }

abbrev real : ℤ → Value
real units = value.Real units

abbrev row : List Piece → List Value → Option (List ℕ)
row = rendered []

fields : row (Plain (codes "[") ∷ Whole (right 5) ∷ Plain (codes "][") ∷ Any (to_left 5) ∷ Plain (codes "][") ∷ Fixed (right 0) 2 ∷ Plain (codes "][") ∷ Fixed (right 0) 6 ∷ Plain (codes "]\n") ∷ [])
    (value.Int (pos 42) ∷ value.Text (codes "ab") ∷ real (pos 2005000000) ∷ real (pos 1000000000) ∷ [])
    ≡ Some (codes "[   42][ab   ][2.01][1.000000]\n")
unfolding values.out-Value denote.Hole.Carrier.out digits last_digits
fields =
    let ab = value.Text (codes "ab") in
    rw (fold_out-Value Bool plain_step ab, fold_out-Value Bool (within_step []) ab) refl

-- no point without decimals, and a tie away from zero
no_decimals : row (Fixed (right 0) 0 ∷ []) (real (pos 2500000000) ∷ []) ≡ Some (codes "3")
unfolding values.out-Value denote.Hole.Carrier.out digits last_digits
no_decimals = refl

no_decimals_below : row (Fixed (right 0) 0 ∷ []) (real (neg_ℤ (pos 2500000000)) ∷ []) ≡ Some (codes "-3")
unfolding values.out-Value denote.Hole.Carrier.out digits last_digits
no_decimals_below = refl

-- a number that rounds to 0 has no minus
minus_zero : row (Fixed (right 0) 2 ∷ []) (real (neg_ℤ (pos 4999999)) ∷ []) ≡ Some (codes "0.00")
unfolding values.out-Value denote.Hole.Carrier.out digits last_digits
minus_zero = refl

minus_step : row (Fixed (right 0) 2 ∷ []) (real (neg_ℤ (pos 5000000)) ∷ []) ≡ Some (codes "-0.01")
unfolding values.out-Value denote.Hole.Carrier.out digits last_digits
minus_step = refl

-- a text is never cut to its width
too_wide : row (Whole (right 2) ∷ Whole (to_left 2) ∷ []) (value.Int (pos 1234) ∷ value.Int (neg_ℤ (pos 56)) ∷ []) ≡ Some (codes "1234-56")
unfolding values.out-Value denote.Hole.Carrier.out digits last_digits
too_wide = refl

-- an enumeration value by its name
abbrev names : List (List (List ℕ))
names = (codes "red" ∷ codes "blue" ∷ []) ∷ []

abbrev red : Value
red = value.Choice 0 0

red_plain : is_plain red ≡ true
unfolding values.out-Value denote.Hole.Carrier.out digits last_digits
red_plain = fold_out-Value Bool plain_step red

red_within : within names red ≡ true
unfolding values.out-Value denote.Hole.Carrier.out digits last_digits
red_within = fold_out-Value Bool (within_step names) red

red_written : written names red ≡ only (codes "red")
unfolding values.out-Value denote.Hole.Carrier.out digits last_digits
red_written = fold_out-Value Written (written_step names) red

red_text : any_text names red ≡ Some (codes "red")
unfolding values.out-Value denote.Hole.Carrier.out digits last_digits
red_text = rw (red_plain, red_within) (ap (λ w. Some w.alone) red_written)

named : rendered names (Any (right 5) ∷ []) (red ∷ []) ≡ Some (codes "  red")
unfolding values.out-Value denote.Hole.Carrier.out digits last_digits
named = ap (λ text. option_and_then (before (Some [])) (option_map (filled (right 5)) text)) red_text

-- what no text has: another kind, a value missing or left over, a value that isn't plain, a name that isn't there, ten decimals
wrong_kind : row (Whole (right 0) ∷ []) (real (pos 1) ∷ []) ≡ None
unfolding values.out-Value denote.Hole.Carrier.out digits last_digits
wrong_kind = refl

missing : row (Whole (right 0) ∷ []) [] ≡ None
unfolding values.out-Value denote.Hole.Carrier.out digits last_digits
missing = refl

left_over : row (Plain (codes "a") ∷ []) (value.Int (pos 1) ∷ []) ≡ None
unfolding values.out-Value denote.Hole.Carrier.out digits last_digits
left_over = refl

not_plain : row (Any (right 0) ∷ []) (value.Chan 3 ∷ []) ≡ None
unfolding values.out-Value denote.Hole.Carrier.out digits last_digits
not_plain = rw (fold_out-Value Bool plain_step (value.Chan 3)) refl

no_name : rendered names (Any (right 0) ∷ []) (value.Choice 0 2 ∷ []) ≡ None
unfolding values.out-Value denote.Hole.Carrier.out
no_name = rw (fold_out-Value Bool plain_step (value.Choice 0 2), fold_out-Value Bool (within_step names) (value.Choice 0 2)) refl

ten_decimals : row (Fixed (right 0) 10 ∷ []) (real (pos 1) ∷ []) ≡ None
unfolding values.out-Value denote.Hole.Carrier.out digits last_digits
ten_decimals = refl

refused : may_render [] (Fixed (right 0) 10 ∷ []) (real (pos 1) ∷ []) ≡ false
unfolding values.out-Value denote.Hole.Carrier.out digits last_digits
refused = refl

taken : may_render [] (Plain (codes "a") ∷ Fixed (right 0) 9 ∷ []) (real (pos 1) ∷ []) ≡ true
unfolding values.out-Value denote.Hole.Carrier.out digits last_digits
taken = refl
