-- Writes: a format and the values that it shows.
use Rattle.std.proofs.Common.{inl, inr}
use Rattle.std.specs.Prelude.{ℕ, nat_eq, count_by, Bool, true, false, List, [], ◌∷◌, ◌++◌, length, Option, Some, None, option_map, if◌then◌else◌}
use Rattle.std.specs.Option.{option_and_then}
use Rattle.chi_token.specs.declared.place.Place.{Place}
use Rattle.chi_types.specs.declared.ty.Ty.{out-Ty}
use Rattle.chi_types.specs.declared.ty.Ty.TheVariants as ty
use Rattle.chi_types.specs.Plain.{is_plain}
use Rattle.chi_value.specs.declared.format.Piece.{Piece}
use Rattle.chi_value.specs.declared.format.Piece.TheVariants as piece
use Rattle.chi_format.proofs.Readings.{Reading, a_reading}
use Rattle.chi_core.specs.declared.expression.CExpr.{CExpr}
use Rattle.chi_core.specs.declared.statement.CStat.{CStat}
use Rattle.chi_core.specs.declared.statement.CStat.TheVariants as statement
use Rattle.chi_check_types.specs.declared.meant.Made.{Made}
use Rattle.chi_check_types.specs.declared.rules.TheConstants.{FORMAT, FORMAT_VALUE}
use Rattle.chi_check_types.specs.Typed.{Typed, unless, refused}
use Rattle.chi_check_types.specs.TypeRules.{is_int}
use Rattle.chi_check_expr_rules.specs.Nodes.{of_one}
use Rattle.chi_check_stat_rules.specs.Values.{fitted}

-- a format with the line feed of `writeln`
abbrev pub ended : Bool → List ℕ → List ℕ
ended true format = format ++ 10 ∷ []
ended false format = format

abbrev pub read_pieces : (text : List ℕ) → Reading text → Option (List Piece)
read_pieces text (inl means) = Some means.0
read_pieces text (inr bad) = None

-- The pieces that a text means; none where it has a bad code. Each text has exactly one of these two readings.
unfoldable pub pieces_of : List ℕ → Option (List Piece)
pieces_of text = read_pieces text (a_reading text)

-- each piece but one of plain text shows a value
abbrev pub is_shown : Piece → Bool
is_shown (piece.Plain bytes) = false
is_shown (piece.Any field) = true
is_shown (piece.Whole field) = true
is_shown (piece.Fixed field decimals) = true

-- how many do
abbrev pub shown_count : List Piece → ℕ
shown_count pieces = count_by is_shown pieces

-- the next that does, and the pieces after it
abbrev pub next_shown : List Piece → Option (Piece × List Piece)
next_shown [] = None
next_shown (p ∷ pieces) = if is_shown p then Some (p, pieces) else next_shown pieces

-- a value as its piece shows it; a piece of plain text shows none
abbrev pub showing : Piece → Made → Option CExpr
showing (piece.Plain bytes) m = None
showing (piece.Any field) m = if is_plain m.ty then Some m.core else None
showing (piece.Whole field) m = if is_int (out-Ty m.ty) then Some m.core else None
showing (piece.Fixed field decimals) m = fitted m ty.Real

-- a value that is written, with its place
abbrev pub Written : Type 0
Written = Place × Option Made

abbrev pub shown_one : Piece → Written → Typed CExpr
shown_one p v = of_one FORMAT_VALUE v.0 (showing p) v.1

abbrev pub with_first : Typed CExpr → Typed (List CExpr) → Typed (List CExpr)
with_first e es = record { faults = e.faults ++ es.faults; made = option_and_then (λ e. option_map (λ es. e ∷ es) es.made) e.made }

abbrev pub shown_then : Option (Piece × List Piece) → Written → (List Piece → Typed (List CExpr)) → Typed (List CExpr)
shown_then None v more = unless [] []
shown_then (Some next) v more = with_first (shown_one next.0 v) (more next.1)

-- the values in turn, each by the next piece that shows one
abbrev pub all_shown : List Piece → List Written → Typed (List CExpr)
all_shown pieces [] = unless [] []
all_shown pieces (v ∷ values) = shown_then (next_shown pieces) v (λ rest. all_shown rest values)

-- one more, where all are there
abbrev pub and_then_one : Option (List CExpr) → Option CExpr → Option (List CExpr)
and_then_one es e = option_and_then (λ es. option_map (λ e. es ++ e ∷ []) e) es

abbrev pub written : ℕ → List Piece → Typed (List CExpr) → Typed CStat
written line pieces es = record { faults = es.faults; made = option_map (statement.Write line pieces) es.made }

-- The place is that of the format. A bad code and a wrong number of values break one rule, and then no value is held against a code.
abbrev pub write_of : ℕ → Place → Option (List Piece) → List Written → Typed CStat
write_of line place None values = refused FORMAT place
write_of line place (Some pieces) values =
    if nat_eq (shown_count pieces) (length values) then written line pieces (all_shown pieces values) else refused FORMAT place
