-- Private to proofs. The other statements of one line come to something where no rule is broken.
use Rattle.std.proofs.Common.{ℕ, Bool, nat_eq, length, List, [], ◌∷◌, ◌++◌, map, Option, Some, None}
use Rattle.std.specs.Prelude.{option_map}
use Rattle.chi_token.specs.declared.place.Place.{Place}
use Rattle.chi_tree.specs.declared.expr.Expr.{Expr}
use Rattle.chi_types.specs.declared.ty.Ty.{Ty}
use Rattle.chi_value.specs.declared.format.Piece.{Piece}
use Rattle.chi_core.specs.declared.expression.CExpr.{CExpr}
use Rattle.chi_core.specs.declared.statement.CStat.TheVariants as statement
use Rattle.chi_check_types.specs.declared.meant.Made.{Made}
use Rattle.chi_check_types.specs.declared.rules.TheConstants.{IN_FUNCTION, IN_EXPERIMENT, RETURN, EXIT, FORMAT, FORMAT_VALUE}
use Rattle.chi_check_types.specs.Names.{Names}
use Rattle.chi_check_types.specs.Typed.{Typed, refused}
use Rattle.chi_check_expr.proofs.Nodes.{left_nil, right_nil}
use Rattle.chi_check.specs.Below.chi_check_stat_rules.specs.declared.home.ExitType.{ExitType}
use Rattle.chi_check.specs.Below.chi_check_stat_rules.specs.declared.home.ExitType.TheVariants as exit
use Rattle.chi_check.specs.Below.chi_check_stat_rules.specs.declared.home.Home.{Home}
use Rattle.chi_check.specs.Below.chi_check_stat_rules.specs.declared.home.Home.TheVariants as home
use Rattle.chi_check.specs.Below.chi_check_stat_rules.specs.Endings.{returning, return_as, return_of, exiting, exit_with, exit_of}
use Rattle.chi_check.specs.Below.chi_check_stat_rules.specs.Homes.{running_rule, writing_rule}
use Rattle.chi_check.specs.Below.chi_check_stat_rules.specs.Writes.{Written, ended, pieces_of, shown_count, next_shown, showing, shown_one, with_first, shown_then, all_shown, written, write_of}
use Rattle.chi_check.specs.Below.chi_check_stat_lines.specs.Values.{made_of, all_faults, faults_if, made_if, all_of, value_in, values_in, instance_in}
use Rattle.chi_check.specs.Below.chi_check_stat_lines.specs.Lines.{placed, return_in, exit_in, finish_in, write_in}
use Rattle.chi_check_laws.proofs.Entries.{Entries}
use Rattle.chi_check_laws.proofs.Shaped.{Fine}
use Rattle.chi_check_laws.proofs.MadeValues.{GivenComes, all_of_whole, if_given, value_whole, values_come, instance_whole}
use Rattle.chi_check_laws.proofs.WholeHeaders.{Comes, WholeTyped, EachComes, refused_whole, barred_whole, cond_whole, of_one_whole, mapped_comes, both_comes}

-- ---- what a statement stands in has its types

abbrev pub TypedExit : ExitType → Type 0
TypedExit exit.Nothing = Unit {0}
TypedExit exit.Untyped = ⊥
TypedExit (exit.Given t) = Unit {0}

abbrev pub TypedHome : Home → Type 0
TypedHome (home.Function result) = Comes result
TypedHome (home.Process own) = TypedExit own
TypedHome home.Experiment = Unit {0}

-- ---- return and exit

return_as_whole : (place : Place) (result : Option Ty) (m : Option Made) → Comes result → Comes m → WholeTyped (return_as place result m)
return_as_whole place None m h c = absurd h
return_as_whole place (Some t) m h c = of_one_whole RETURN place (returning place.line t) m c

return_whole : (h : Home) (place : Place) (m : Option Made) → TypedHome h → Comes m → WholeTyped (return_of h place m)
return_whole (home.Function result) place m h c = return_as_whole place result m h c
return_whole (home.Process own) place m h c = refused_whole RETURN place
return_whole home.Experiment place m h c = refused_whole RETURN place

exit_with_whole : (own : ExitType) (place : Place) (value : Option (Option Made)) → TypedExit own → GivenComes value → WholeTyped (exit_with own place value)
exit_with_whole exit.Nothing place None h g = λ e. tt
exit_with_whole exit.Nothing place (Some m) h g = refused_whole EXIT place
exit_with_whole exit.Untyped place value h g = absurd h
exit_with_whole (exit.Given t) place None h g = refused_whole EXIT place
exit_with_whole (exit.Given t) place (Some m) h g = of_one_whole EXIT place (exiting place.line t) m g

exit_of_whole : (h : Home) (place : Place) (value : Option (Option Made)) → TypedHome h → GivenComes value → WholeTyped (exit_of h place value)
exit_of_whole (home.Function result) place value h g = refused_whole IN_FUNCTION place
exit_of_whole (home.Process own) place value h g = exit_with_whole own place value h g
exit_of_whole home.Experiment place value h g = refused_whole IN_EXPERIMENT place

-- ---- writes

-- each value that is written has a type
abbrev EachWritten : List Written → Type 0
EachWritten [] = Unit {0}
EachWritten (v ∷ values) = Comes v.1 × EachWritten values

placed_written : (es : List Expr) (ms : List (Option Made)) → EachComes ms → EachWritten (placed es ms)
placed_written [] ms h = tt
placed_written (e ∷ es) [] h = tt
placed_written (e ∷ es) (m ∷ ms) h = (h.0, placed_written es ms h.1)

first_whole : (e : Typed CExpr) (es : Typed (List CExpr)) → WholeTyped e → WholeTyped es → WholeTyped (with_first e es)
first_whole e es w v h = both_comes (λ e es. e ∷ es) e.made es.made (w (left_nil e.faults es.faults h)) (v (right_nil e.faults es.faults h))

shown_whole : (next : Option (Piece × List Piece)) (v : Written) (more : List Piece → Typed (List CExpr)) → Comes v.1 → ((rest : List Piece) → WholeTyped (more rest)) → WholeTyped (shown_then next v more)
shown_whole None v more c w = λ e. tt
shown_whole (Some next) v more c w = first_whole (shown_one next.0 v) (more next.1) (of_one_whole FORMAT_VALUE v.0 (showing next.0) v.1 c) (w next.1)

all_shown_whole : (pieces : List Piece) (values : List Written) → EachWritten values → WholeTyped (all_shown pieces values)
all_shown_whole pieces [] h = λ e. tt
all_shown_whole pieces (v ∷ values) h = shown_whole (next_shown pieces) v (λ rest. all_shown rest values) h.0 (λ rest. all_shown_whole rest values h.1)

written_whole : (line : ℕ) (pieces : List Piece) (es : Typed (List CExpr)) → WholeTyped es → WholeTyped (written line pieces es)
written_whole line pieces es w e = mapped_comes (statement.Write line pieces) es.made (w e)

write_whole : (line : ℕ) (place : Place) (pieces : Option (List Piece)) (values : List Written) → EachWritten values → WholeTyped (write_of line place pieces values)
write_whole line place None values h = refused_whole FORMAT place
write_whole line place (Some pieces) values h =
    cond_whole (nat_eq (shown_count pieces) (length values)) (written line pieces (all_shown pieces values)) (refused FORMAT place)
    (written_whole line pieces (all_shown pieces values) (all_shown_whole pieces values h)) (refused_whole FORMAT place)

module _ (h : Home) (typed : TypedHome h) (names : Names) (fine : Entries Fine names) where
  pub return_in_whole : (place : Place) (value : Expr) → WholeTyped (return_in h names place value)
  return_in_whole place value e =
      let v = value_in h names value in
      return_whole h place v.made typed (value_whole h names fine value (left_nil v.faults _ e)) (right_nil v.faults _ e)

  pub exit_in_whole : (place : Place) (value : Option Expr) → WholeTyped (exit_in h names place value)
  exit_in_whole place value e =
      let v = option_map (value_in h names) value in
      exit_of_whole h place (made_if v) typed (if_given (value_in h names) (value_whole h names fine) value (left_nil (faults_if v) _ e)) (right_nil (faults_if v) _ e)

  pub finish_in_whole : (place : Place) (instances : List Expr) → WholeTyped (finish_in h names place instances)
  finish_in_whole place instances =
      let es = all_of (map (instance_in h names) instances) in
      barred_whole (running_rule h place) (record { faults = es.faults; made = option_map (statement.Finish place.line) es.made })
      (λ e. mapped_comes (statement.Finish place.line) es.made (all_of_whole (instance_in h names) (instance_whole h names fine) instances e))

  pub write_in_whole : (place : Place) (ends_line : Bool) (format : List ℕ) (format_place : Place) (values : List Expr) → WholeTyped (write_in h names place ends_line format format_place values)
  write_in_whole place ends_line format format_place values =
      let given = values_in h names values in
      let made = write_of place.line format_place (pieces_of (ended ends_line format)) (placed values (map made_of given)) in
      barred_whole (writing_rule h place) (record { faults = all_faults given ++ made.faults; made = made.made })
      (λ e. write_whole place.line format_place (pieces_of (ended ends_line format)) (placed values (map made_of given))
      (placed_written values (map made_of given) (values_come h names fine values (left_nil (all_faults given) _ e))) (right_nil (all_faults given) _ e))
