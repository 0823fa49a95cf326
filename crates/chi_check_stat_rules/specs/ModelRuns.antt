-- Calls of models, as whole values in experiments.
use Rattle.std.specs.Prelude.{ℕ, nat_eq, Bool, true, false, not, ◌&&◌, List, [], Option, Some, None, is_some, option_map, length, if◌then◌else◌}
use Rattle.std.specs.List.{list_all}
use Rattle.chi_token.specs.declared.place.Place.{Place}
use Rattle.chi_types.specs.declared.ty.Ty.{Ty, out-Ty}
use Rattle.chi_types.specs.Fits.{fits, widens}
use Rattle.chi_types.specs.Plain.{is_plain}
use Rattle.chi_core.specs.declared.expression.CExpr.{CExpr}
use Rattle.chi_core.specs.declared.experiment.XStat.{XStat}
use Rattle.chi_core.specs.declared.experiment.XStat.TheVariants as statement
use Rattle.chi_core.specs.declared.target.CTarget.{CTarget}
use Rattle.chi_check_types.specs.declared.fault.Fault.{Fault}
use Rattle.chi_check_types.specs.declared.known.Known.{Known}
use Rattle.chi_check_types.specs.declared.known.Known.TheVariants as known
use Rattle.chi_check_types.specs.declared.known.NameKind.{NameKind}
use Rattle.chi_check_types.specs.declared.known.NameKind.TheVariants as kind
use Rattle.chi_check_types.specs.declared.meant.Made.{Made}
use Rattle.chi_check_types.specs.declared.rules.TheConstants.{INITIAL_VALUE, ASSIGNED_VALUE, CALL_ARGUMENTS, MODEL_CALL}
use Rattle.chi_check_types.specs.Typed.{Typed, untyped, broken_if}
use Rattle.chi_check_expr_rules.specs.Conversions.{passed}
use Rattle.chi_check_expr_rules.specs.Nodes.{of_two, of_all, barred, all_made}
use Rattle.chi_check_stat_rules.specs.declared.parts.Aim.{Aim}
use Rattle.chi_check_stat_rules.specs.declared.parts.Modelled.{Modelled}
use Rattle.chi_check_stat_rules.specs.declared.parts.ModelRun.{ModelRun}

abbrev pub untyped_model : NameKind → Option (Option Modelled)
untyped_model kind.Model = Some None
untyped_model kind.Variable = None
untyped_model kind.Unwound = None
untyped_model kind.Constant = None
untyped_model kind.Type = None
untyped_model kind.Function = None
untyped_model kind.Process = None

-- what is called, where that is a model: a model one of whose types breaks a rule has no type
abbrev pub model_known : Option Known → Option (Option Modelled)
model_known None = None
model_known (Some (known.Model number params exit)) = Some (Some (record { number = number; params = params; exit = exit }))
model_known (Some (known.Untyped k)) = untyped_model k
model_known (Some (known.Var slot t)) = None
model_known (Some (known.Fixed slot t)) = None
model_known (Some (known.Const number t)) = None
model_known (Some (known.Kind t)) = None
model_known (Some (known.Value enumeration position)) = None
model_known (Some (known.Func number params result)) = None
model_known (Some (known.Proc number params exit)) = None
model_known (Some (known.Xper number)) = None

-- it gives a value, and takes plain ones
abbrev pub may_run : Modelled → Bool
may_run m = is_some m.exit && list_all is_plain m.params

abbrev pub model_rule : Place → Modelled → List Fault
model_rule place m = broken_if (not (may_run m)) MODEL_CALL place

abbrev pub model_run : ℕ → Ty → List CExpr → ModelRun
model_run number exit arguments = record { model = number; arguments = arguments; exit = exit }

-- with its arguments, where it has an exit type
abbrev pub ran : ℕ → Option Ty → Typed (List CExpr) → Typed ModelRun
ran number None t = record { faults = t.faults; made = None }
ran number (Some exit) t = record { faults = t.faults; made = option_map (model_run number exit) t.made }

-- an argument for each parameter, each of which fits and is converted; a wrong number of them breaks the rule, also
-- where one has no type
abbrev pub arguments_of : Place → List Ty → List (Option Made) → Typed (List CExpr)
arguments_of place params arguments = of_all CALL_ARGUMENTS place (nat_eq (length arguments) (length params)) (λ ms. passed ms params) (all_made arguments)

-- the place is that of the model's name
abbrev pub run_of : Place → Option Modelled → List (Option Made) → Typed ModelRun
run_of place None arguments = untyped []
run_of place (Some m) arguments = barred (model_rule place m) (ran m.number m.exit (arguments_of place m.params arguments))

-- ---- where the value goes

abbrev pub run_into : ℕ → CTarget → Ty → ModelRun → Option XStat
run_into line target t r =
    if fits r.exit t then Some (statement.RunModel line target r.model r.arguments (widens (out-Ty r.exit) (out-Ty t))) else None

abbrev pub run_at : ℕ → Aim → ModelRun → Option XStat
run_at line a r = run_into line a.target a.ty r

-- a run whose value is stored
abbrev pub assigned_run : ℕ → Place → Option Aim → Option ModelRun → Typed XStat
assigned_run line equals a r = of_two ASSIGNED_VALUE equals (run_at line) a r

abbrev pub first_run : ℕ → ℕ → Ty → ModelRun → Option XStat
first_run line slot t r = run_into line (record { slot = slot; steps = [] }) t r

-- a run whose value a variable begins with
abbrev pub initial_run : ℕ → ℕ → Place → Option Ty → Option ModelRun → Typed XStat
initial_run line slot equals t r = of_two INITIAL_VALUE equals (first_run line slot) t r
