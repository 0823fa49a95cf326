-- The texts of values of kinds.
use Rattle.std.proofs.Common.{◌≡◌, ℕ, ◌≤◌, true, cond, Option, None, Some, List, [], ◌++◌, refl, ap}
use Rattle.std.proofs.lemmas.Bool.{and_from, le-leb}
use Rattle.std.specs.Prelude.{option_map}
use Rattle.std.specs.Option.{option_and_then}
use Rattle.std.specs.Fmt.{signed_decimal}
use Rattle.chi_num.specs.FixedText.{fixed_text_of}
use Rattle.chi_types.specs.declared.ty.Ty.{Ty-F}
use Rattle.chi_value.specs.declared.format.Field.{Field}
use Rattle.chi_value.specs.declared.format.Piece.{Piece}
use Rattle.chi_value.specs.declared.value.Value.{Value, Value-F, out-Value}
use Rattle.chi_value.specs.Text.{text, quoted_text}
use Rattle.chi_format.specs.Format.{any_text, whole_text, fixed_text, steps_of, filled, before, rendered}
use Rattle.chi_core.specs.Kinds.{Kind, is_plain_kind}
use Rattle.chi_core.specs.Of.{World, Of, of_int, of_real, IsOf, AreOf, none_of, one_of}
use Rattle.chi_core.specs.Reading.{quoted_in}
use Rattle.chi_core.specs.SoundParts.{Shows, no_piece, plain_text, any_plain, whole_number, fixed_point}
use Rattle.chi_core.proofs.Tidied.{plain_of, within_of}
use Rattle.chi_core_kinds.proofs.Casts.{text_there}

pub quoted_there : (w : World) (v : Value) (T : Kind) → is_plain_kind T ≡ true → IsOf w T v → (bytes : List ℕ) × (quoted_in w.names v ≡ Some bytes)
quoted_there w v T plain h =
    (quoted_text w.names v, ap (λ b. cond b (Some (quoted_text w.names v)) None) (and_from _ _ (plain_of w v T plain h) (within_of w v T h)))

-- the text of a piece, and what comes after it
joined : (field : Field) (shown after : Option (List ℕ)) (a b : List ℕ) → shown ≡ Some a → after ≡ Some b
    → option_and_then (before after) (option_map (filled field) shown) ≡ Some (filled field a ++ b)
joined field shown after a b e f = λ i. option_and_then (before (f i)) (option_map (filled field) (e i))

whole_there : (w : World) (x : Value-F Value) → Of w x Ty-F.Int → (bytes : List ℕ) × (whole_text x ≡ Some bytes)
whole_there w _ (of_int n) = (signed_decimal n, refl)

fixed_there : (w : World) (decimals : ℕ) (x : Value-F Value) → decimals ≤ 9 → Of w x Ty-F.Real → (bytes : List ℕ) × (fixed_text decimals x ≡ Some bytes)
fixed_there w decimals _ l (of_real units) =
    let bytes = fixed_text_of decimals (steps_of decimals units) in (bytes, ap (λ b. cond b (Some bytes) None) (le-leb decimals 9 l))

pub format_renders : (w : World) (pieces : List Piece) (Ts : List Kind) → Shows pieces Ts → (values : List Value) → AreOf w values Ts
    → (bytes : List ℕ) × (rendered w.names pieces values ≡ Some bytes)
format_renders w _ _ no_piece _ none_of = ([], refl)
format_renders w _ _ (plain_text bytes pieces Ts shows) values are =
    let rest = format_renders w pieces Ts shows values are in (bytes ++ rest.0, ap (λ o. before o bytes) rest.1)
format_renders w _ _ (any_plain field pieces T Ts plain shows) _ (one_of v values _ _ is are) =
    let rest = format_renders w pieces Ts shows values are in
    (filled field (text w.names v) ++ rest.0, joined field (any_text w.names v) (rendered w.names pieces values) (text w.names v) rest.0 (text_there w w.names refl T plain v is) rest.1)
format_renders w _ _ (whole_number field pieces Ts shows) _ (one_of v values _ _ is are) =
    let rest = format_renders w pieces Ts shows values are in
    let here = whole_there w (out-Value v) is in
    (filled field here.0 ++ rest.0, joined field (whole_text (out-Value v)) (rendered w.names pieces values) here.0 rest.0 here.1 rest.1)
format_renders w _ _ (fixed_point field decimals pieces Ts l shows) _ (one_of v values _ _ is are) =
    let rest = format_renders w pieces Ts shows values are in
    let here = fixed_there w decimals (out-Value v) l is in
    (filled field here.0 ++ rest.0, joined field (fixed_text decimals (out-Value v)) (rendered w.names pieces values) here.0 rest.0 here.1 rest.1)
