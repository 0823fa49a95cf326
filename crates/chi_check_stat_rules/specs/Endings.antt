-- What ends a function or a run, and what ends a turn of a loop.
use Rattle.std.specs.Prelude.{ℕ, Bool, true, false, List, [], Option, Some, None, option_map, if◌then◌else◌}
use Rattle.chi_token.specs.declared.place.Place.{Place}
use Rattle.chi_types.specs.declared.ty.Ty.{Ty}
use Rattle.chi_types.specs.Plain.{is_plain}
use Rattle.chi_core.specs.declared.statement.CStat.{CStat}
use Rattle.chi_core.specs.declared.statement.CStat.TheVariants as statement
use Rattle.chi_check_types.specs.declared.fault.Fault.{Fault}
use Rattle.chi_check_types.specs.declared.meant.Made.{Made}
use Rattle.chi_check_types.specs.declared.rules.TheConstants.{IN_FUNCTION, IN_EXPERIMENT, RETURN, EXIT, LOOP_WORD}
use Rattle.chi_check_types.specs.Typed.{Typed, unless, untyped, refused, broken_if}
use Rattle.chi_check_expr_rules.specs.Nodes.{of_one}
use Rattle.chi_check_stat_rules.specs.declared.home.ExitType.{ExitType}
use Rattle.chi_check_stat_rules.specs.declared.home.ExitType.TheVariants as exit
use Rattle.chi_check_stat_rules.specs.declared.home.Home.{Home}
use Rattle.chi_check_stat_rules.specs.declared.home.Home.TheVariants as home
use Rattle.chi_check_stat_rules.specs.Values.{fitted}

-- ---- return

abbrev pub returning : ℕ → Ty → Made → Option CStat
returning line t m = option_map (statement.Return line) (fitted m t)

abbrev pub return_as : Place → Option Ty → Option Made → Typed CStat
return_as place None m = untyped []
return_as place (Some t) m = of_one RETURN place (returning place.line t) m

abbrev pub return_of : Home → Place → Option Made → Typed CStat
return_of (home.Function result) place m = return_as place result m
return_of (home.Process own) place m = refused RETURN place
return_of home.Experiment place m = refused RETURN place

-- ---- exit

-- a plain value that fits
abbrev pub exiting : ℕ → Ty → Made → Option CStat
exiting line t m = if is_plain m.ty then option_map (λ e. statement.Exit line (Some e)) (fitted m t) else None

-- that it is plain can be told without the header's type
abbrev pub plain_exit : Place → Option Made → Typed CStat
plain_exit place None = untyped []
plain_exit place (Some m) = if is_plain m.ty then untyped [] else refused EXIT place

abbrev pub exit_value : ExitType → Place → Option Made → Typed CStat
exit_value exit.Nothing place m = refused EXIT place
exit_value exit.Untyped place m = plain_exit place m
exit_value (exit.Given t) place m = of_one EXIT place (exiting place.line t) m

abbrev pub exit_bare : ExitType → Place → Typed CStat
exit_bare exit.Nothing place = unless [] (statement.Exit place.line None)
exit_bare exit.Untyped place = refused EXIT place
exit_bare (exit.Given t) place = refused EXIT place

abbrev pub exit_with : ExitType → Place → Option (Option Made) → Typed CStat
exit_with own place None = exit_bare own place
exit_with own place (Some m) = exit_value own place m

-- the value is none where none stands there, and may have no type; a function and an experiment have no exit
abbrev pub exit_of : Home → Place → Option (Option Made) → Typed CStat
exit_of (home.Function result) place value = refused IN_FUNCTION place
exit_of (home.Process own) place value = exit_with own place value
exit_of home.Experiment place value = refused IN_EXPERIMENT place

-- ---- break and continue

-- the word stands in a loop
abbrev pub loop_rule : Bool → Place → List Fault
loop_rule true place = []
loop_rule false place = broken_if true LOOP_WORD place
