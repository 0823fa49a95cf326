-- Values where a type is wanted: initial values, values of constants, conditions, and instances that are waited for.
use Rattle.std.specs.Prelude.{Bool, true, false, ◌||◌, List, [], Option, Some, None, if◌then◌else◌}
use Rattle.std.specs.List.{list_any}
use Rattle.chi_token.specs.declared.place.Place.{Place}
use Rattle.chi_types.specs.declared.ty.Ty.{Ty, Ty-F, fold-Ty, out-Ty}
use Rattle.chi_types.specs.Fits.{fits}
use Rattle.chi_types.specs.Plain.{holds}
use Rattle.chi_core.specs.declared.expression.CExpr.{CExpr}
use Rattle.chi_check_types.specs.declared.fault.Fault.{Fault}
use Rattle.chi_check_types.specs.declared.meant.Made.{Made}
use Rattle.chi_check_types.specs.declared.rules.TheConstants.{INITIAL_VALUE, CONDITION, FINISH}
use Rattle.chi_check_types.specs.Typed.{Typed, broken_if}
use Rattle.chi_check_expr_rules.specs.Conversions.{converted}
use Rattle.chi_check_expr_rules.specs.Nodes.{of_one, of_two, barred}

-- the value as one of a type, where it fits that
abbrev pub fitted : Made → Ty → Option CExpr
fitted m t = if fits m.ty t then Some (converted m t) else None

-- an initial value, at its `=`
abbrev pub initial_value : Place → Option Made → Option Ty → Typed CExpr
initial_value equals m t = of_two INITIAL_VALUE equals fitted m t

abbrev pub lives_step : Ty-F Bool → Bool
lives_step (Ty-F.Chan way carried) = true
lives_step (Ty-F.Dist drawn) = true
lives_step Ty-F.Timer = true
lives_step Ty-F.Inst = true
lives_step (Ty-F.TupleOf parts) = list_any holds parts
lives_step (Ty-F.ListOf element) = element
lives_step (Ty-F.SetOf element) = element
lives_step (Ty-F.DictOf key value) = key || value
lives_step _ = false

-- a channel, a timer, a distribution or an instance is in the type: none of these is constant
abbrev pub lives : Ty → Bool
lives = fold-Ty Bool lives_step

abbrev pub constant_rule : Place → Option Ty → List Fault
constant_rule equals None = []
constant_rule equals (Some t) = broken_if (lives t) INITIAL_VALUE equals

-- the value of a constant
abbrev pub constant_value : Place → Option Made → Option Ty → Typed CExpr
constant_value equals m t = barred (constant_rule equals t) (initial_value equals m t)

abbrev pub is_bool : Ty-F Ty → Bool
is_bool Ty-F.Bool = true
is_bool _ = false

abbrev pub as_bool : Made → Option CExpr
as_bool m = if is_bool (out-Ty m.ty) then Some m.core else None

-- a condition or a guard
abbrev pub condition : Place → Option Made → Typed CExpr
condition place m = of_one CONDITION place as_bool m

abbrev pub is_inst : Ty-F Ty → Bool
is_inst Ty-F.Inst = true
is_inst _ = false

abbrev pub as_instance : Made → Option CExpr
as_instance m = if is_inst (out-Ty m.ty) then Some m.core else None

-- an instance that is waited for
abbrev pub finished_one : Place → Option Made → Typed CExpr
finished_one place m = of_one FINISH place as_instance m
