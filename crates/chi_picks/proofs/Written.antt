-- What is written of picks is read as these.
use Rattle.std.proofs.Common.{◌≡◌, ℕ, suc, ◌≤◌, ◌<◌, ◌^◌, Bool, true, List, [], ◌∷◌, ◌++◌, length, map, refl, ◌∙◌, ap, arith}
use Rattle.std.specs.Prelude.{All, Some, None, if◌then◌else◌}
use Rattle.std.specs.Fmt.{decimal}
use Rattle.std.specs.List.{flat_map}
use Rattle.std.specs.Str.Parse.{digits_value}
use Rattle.std.proofs.lemmas.Bool.{le-leb, lt-ltb}
use Rattle.std.proofs.lemmas.Fmt.{decimal_nonempty, length-decimal-le}
use Rattle.std.proofs.lemmas.Fmt as numbers
use Rattle.chi_cli.specs.Numbers.{is_numeral, within}
use Rattle.chi_trace.specs.Logs.{ended}
use Rattle.chi_trace.proofs.Numbers.{digits-decimal}
use Rattle.chi_picks.specs.Lists.{AreOf, Has, pick_in, spelled}
use Rattle.chi_picks.proofs.Lines.{one_more}

abbrev most : ℕ
most = 18_446_744_073_709_551_615

pick_written : (pick : ℕ) → pick < 2 ^ 64 → pick_in (decimal pick) ≡ Some pick
pick_written pick small =
    let some : 0 < length (decimal pick) = decimal_nonempty pick small in
    let short : length (decimal pick) ≤ 20 = length-decimal-le 20 pick (omega arith) (omega arith) small in
    let numeral : is_numeral (decimal pick) ≡ true =
    rw (lt-ltb 0 (length (decimal pick)) some, le-leb (length (decimal pick)) 20 short, digits-decimal pick small) refl in
    let inside : within 0 most pick ≡ Some pick = rw (le-leb 0 pick (omega arith), le-leb pick most (omega arith)) refl in
    ap (λ (b : Bool). if b then within 0 most (digits_value 10 (decimal pick)) else None) numeral
    ∙ ap (within 0 most) (numbers.decimal_is_IsNumeral pick small).1 ∙ inside

lines_written : (picks : List ℕ) → spelled picks ≡ flat_map ended (map decimal picks)
lines_written [] = refl
lines_written (pick ∷ picks) = ap (λ (xs : List ℕ). ended (decimal pick) ++ xs) (lines_written picks)

are_written : (picks : List ℕ) → All (λ pick. pick < 2 ^ 64) picks → AreOf (map decimal picks) picks
are_written [] small = refl
are_written (pick ∷ picks) small = one_more (decimal pick) (map decimal picks) pick picks (pick_written pick (small 0 0 (omega arith))) (are_written picks (λ k d inside. small (suc k) d (omega arith)))

pub written : (picks : List ℕ) → All (λ pick. pick < 2 ^ 64) picks → Has (spelled picks) picks
written picks small = record { lines = map decimal picks; are = are_written picks small; is = lines_written picks }
