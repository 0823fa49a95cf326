-- What assignments, endings and writes come to is the same without places, but for their lines.
use Rattle.std.proofs.Common.{◌≡◌, ℕ, suc, Bool, true, false, List, [], ◌∷◌, map, length, Option, Some, None, refl, ap, sym, ◌∙◌}
use Rattle.std.specs.Prelude.{nat_eq, option_map, if◌then◌else◌}
use Rattle.chi_token.specs.declared.place.Place.{Place}
use Rattle.chi_tree.specs.View.{nowhere}
use Rattle.chi_types.specs.declared.ty.Ty.{Ty, Ty-F, out-Ty}
use Rattle.chi_types.specs.Plain.{is_plain}
use Rattle.chi_value.specs.declared.format.Piece.{Piece}
use Rattle.chi_core.specs.declared.expression.CExpr.{CExpr}
use Rattle.chi_core.specs.declared.statement.CStat.TheVariants as statement
use Rattle.chi_check_types.specs.declared.meant.Made.{Made}
use Rattle.chi_check_types.specs.declared.rules.TheConstants.{ASSIGNED_VALUE, RETURN, EXIT, FORMAT, FORMAT_VALUE}
use Rattle.chi_check_types.specs.Typed.{Typed, refused}
use Rattle.chi_check_expr_rules.specs.Conversions.{passed}
use Rattle.chi_check_expr_rules.specs.Nodes.{all_made}
use Rattle.chi_check.specs.Below.chi_check_stat_rules.specs.declared.home.ExitType.{ExitType}
use Rattle.chi_check.specs.Below.chi_check_stat_rules.specs.declared.home.ExitType.TheVariants as exit
use Rattle.chi_check.specs.Below.chi_check_stat_rules.specs.declared.home.Home.{Home}
use Rattle.chi_check.specs.Below.chi_check_stat_rules.specs.declared.home.Home.TheVariants as home
use Rattle.chi_check.specs.Below.chi_check_stat_rules.specs.declared.parts.Aim.{Aim}
use Rattle.chi_check.specs.Below.chi_check_stat_rules.specs.Assignments.{all_aims, assign, stored, parts_fit, spread, spread_parts, spread_value, spread_one, only_one, uneven, assigned}
use Rattle.chi_check.specs.Below.chi_check_stat_rules.specs.Endings.{returning, return_of, exiting, plain_exit, exit_value, exit_bare, exit_of, loop_rule}
use Rattle.chi_check.specs.Below.chi_check_stat_rules.specs.Values.{fitted}
use Rattle.chi_check.specs.Below.chi_check_stat_rules.specs.Writes.{shown_count, next_shown, showing, Written, shown_one, with_first, shown_then, all_shown, written, write_of}
use Rattle.chi_check_places.specs.UnplacedTyped.{unplaced_faults, unplaced_typed}
use Rattle.chi_check_places.proofs.Faults.{faults-append, tested, one-unplaced}
use Rattle.chi_check_program_places.specs.Lineless.{lineless_statement}
use Rattle.chi_check_program_places.proofs.By.{typed_by, mapped, one-by, two-by}
use Rattle.chi_check_program_places.proofs.Without.{without-Assign, without-Return, without-Exit, without-Write}

-- ---- assignments

stored-same : (line : ℕ) (ms : List Made) (aims : List Aim) → stored 0 ms aims ≡ option_map lineless_statement (stored line ms aims)
stored-same line ms aims =
    mapped lineless_statement (assign 0 aims) (assign line aims) (λ es. sym (without-Assign line (map (λ a. a.target) aims) es)) (passed ms (map (λ a. a.ty) aims))

spread-same : (line : ℕ) (tuple : CExpr) (parts : List (List ℕ × Ty)) (aims : List Aim) → spread 0 tuple parts aims ≡ option_map lineless_statement (spread line tuple parts aims)
spread-same line tuple parts aims =
    tested (option_map lineless_statement) (parts_fit parts aims) (ap Some (sym (without-Assign line (map (λ a. a.target) aims) (tuple ∷ [])))) refl

spread-parts-by : (line : ℕ) (equals : Place) (aims : List (Option Aim)) (tuple : CExpr) (parts : List (List ℕ × Ty))
    → spread_parts 0 nowhere aims tuple parts ≡ typed_by lineless_statement (spread_parts line equals aims tuple parts)
spread-parts-by line equals aims tuple parts =
    tested (typed_by lineless_statement) (nat_eq (length parts) (length aims))
    (one-by lineless_statement ASSIGNED_VALUE equals (spread 0 tuple parts) (spread line tuple parts) (spread-same line tuple parts) (all_aims aims)) refl

spread-value-by : (line : ℕ) (equals : Place) (aims : List (Option Aim)) (tuple : CExpr) (t : Ty-F Ty)
    → spread_value 0 nowhere aims tuple t ≡ typed_by lineless_statement (spread_value line equals aims tuple t)
spread-value-by line equals aims tuple (Ty-F.TupleOf parts) = spread-parts-by line equals aims tuple parts
spread-value-by line equals aims tuple _ = refl

spread-one-by : (line : ℕ) (equals : Place) (aims : List (Option Aim)) (m : Option Made) → spread_one 0 nowhere aims m ≡ typed_by lineless_statement (spread_one line equals aims m)
spread-one-by line equals aims None = refl
spread-one-by line equals aims (Some m) = spread-value-by line equals aims m.core (out-Ty m.ty)

uneven-by : (line : ℕ) (equals : Place) (aims : List (Option Aim)) (m : Option (Option Made)) → uneven 0 nowhere aims m ≡ typed_by lineless_statement (uneven line equals aims m)
uneven-by line equals aims None = refl
uneven-by line equals aims (Some m) = spread-one-by line equals aims m

pub assigned-by : (line : ℕ) (equals : Place) (aims : List (Option Aim)) (ms : List (Option Made)) → assigned 0 nowhere aims ms ≡ typed_by lineless_statement (assigned line equals aims ms)
assigned-by line equals aims ms =
    tested (typed_by lineless_statement) (nat_eq (length ms) (length aims))
    (two-by lineless_statement ASSIGNED_VALUE equals (stored 0) (stored line) (stored-same line) (all_made ms) (all_aims aims)) (uneven-by line equals aims (only_one ms))

-- ---- return, exit, break and continue

returning-same : (line : ℕ) (t : Ty) (m : Made) → returning 0 t m ≡ option_map lineless_statement (returning line t m)
returning-same line t m = mapped lineless_statement (statement.Return 0) (statement.Return line) (λ e. sym (without-Return line e)) (fitted m t)

pub return-by : (h : Home) (place : Place) (m : Option Made) → return_of h nowhere m ≡ typed_by lineless_statement (return_of h place m)
return-by (home.Function None) place m = refl
return-by (home.Function (Some t)) place m = one-by lineless_statement RETURN place (returning 0 t) (returning place.line t) (returning-same place.line t) m
return-by (home.Process own) place m = refl
return-by home.Experiment place m = refl

exiting-same : (line : ℕ) (t : Ty) (m : Made) → exiting 0 t m ≡ option_map lineless_statement (exiting line t m)
exiting-same line t m =
    tested (option_map lineless_statement) (is_plain m.ty)
    (mapped lineless_statement (λ e. statement.Exit 0 (Some e)) (λ e. statement.Exit line (Some e)) (λ e. sym (without-Exit line (Some e))) (fitted m t)) refl

plain-exit-by : (place : Place) (m : Option Made) → plain_exit nowhere m ≡ typed_by lineless_statement (plain_exit place m)
plain-exit-by place None = refl
plain-exit-by place (Some m) = tested (typed_by lineless_statement) (is_plain m.ty) refl refl

exit-value-by : (own : ExitType) (place : Place) (m : Option Made) → exit_value own nowhere m ≡ typed_by lineless_statement (exit_value own place m)
exit-value-by exit.Nothing place m = refl
exit-value-by exit.Untyped place m = plain-exit-by place m
exit-value-by (exit.Given t) place m = one-by lineless_statement EXIT place (exiting 0 t) (exiting place.line t) (exiting-same place.line t) m

exit-bare-by : (own : ExitType) (place : Place) → exit_bare own nowhere ≡ typed_by lineless_statement (exit_bare own place)
exit-bare-by exit.Nothing place = λ i. record { faults = []; made = Some (sym (without-Exit place.line None) i) }
exit-bare-by exit.Untyped place = refl
exit-bare-by (exit.Given t) place = refl

pub exit-by : (h : Home) (place : Place) (m : Option (Option Made)) → exit_of h nowhere m ≡ typed_by lineless_statement (exit_of h place m)
exit-by (home.Function result) place m = refl
exit-by (home.Process own) place None = exit-bare-by own place
exit-by (home.Process own) place (Some m) = exit-value-by own place m
exit-by home.Experiment place m = refl

pub loop-unplaced : (b : Bool) (place : Place) → loop_rule b nowhere ≡ unplaced_faults (loop_rule b place)
loop-unplaced true place = refl
loop-unplaced false place = refl

-- ---- writes

abbrev pub unplaced_written : Written → Written
unplaced_written v = (nowhere, v.1)

shown-one-unplaced : (p : Piece) (v : Written) → shown_one p (unplaced_written v) ≡ unplaced_typed (shown_one p v)
shown-one-unplaced p v = one-unplaced FORMAT_VALUE v.0 (showing p) v.1

first-unplaced : (e : Typed CExpr) (es : Typed (List CExpr)) → with_first (unplaced_typed e) (unplaced_typed es) ≡ unplaced_typed (with_first e es)
first-unplaced e es = λ i. record { faults = faults-append e.faults es.faults i; made = (with_first e es).made }

shown-then-unplaced : (next : Option (Piece × List Piece)) (v : Written) (more' more : List Piece → Typed (List CExpr)) → ((ps : List Piece) → more' ps ≡ unplaced_typed (more ps))
    → shown_then next (unplaced_written v) more' ≡ unplaced_typed (shown_then next v more)
shown-then-unplaced None v more' more same = refl
shown-then-unplaced (Some next) v more' more same =
    (λ i. with_first (shown-one-unplaced next.0 v i) (same next.1 i)) ∙ first-unplaced (shown_one next.0 v) (more next.1)

shown-unplaced : (values : List Written) (ps : List Piece) → all_shown ps (map unplaced_written values) ≡ unplaced_typed (all_shown ps values)
shown-unplaced [] ps = refl
shown-unplaced (v ∷ values) ps =
    shown-then-unplaced (next_shown ps) v (λ rest. all_shown rest (map unplaced_written values)) (λ rest. all_shown rest values) (λ rest. shown-unplaced values rest)

written-by : (line : ℕ) (ps : List Piece) (es : Typed (List CExpr)) → written 0 ps (unplaced_typed es) ≡ typed_by lineless_statement (written line ps es)
written-by line ps es =
    λ i. record {
      faults = unplaced_faults es.faults;
      made = mapped lineless_statement (statement.Write 0 ps) (statement.Write line ps) (λ es. sym (without-Write line ps es)) es.made i;
    }

length-written : (values : List Written) → length (map unplaced_written values) ≡ length values
length-written [] = refl
length-written (v ∷ values) = ap suc (length-written values)

pub write-by : (line : ℕ) (place : Place) (ps : Option (List Piece)) (values : List Written)
    → write_of 0 nowhere ps (map unplaced_written values) ≡ typed_by lineless_statement (write_of line place ps values)
write-by line place None values = refl
write-by line place (Some ps) values =
    (λ i. if nat_eq (shown_count ps) (length-written values i) then written 0 ps (all_shown ps (map unplaced_written values)) else refused FORMAT nowhere)
    ∙ tested (typed_by lineless_statement) (nat_eq (shown_count ps) (length values))
    (ap (written 0 ps) (shown-unplaced values ps) ∙ written-by line ps (all_shown ps values)) refl
