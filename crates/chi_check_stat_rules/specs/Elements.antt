-- What is run and started.
use Rattle.std.specs.Prelude.{ℕ, nat_eq, Bool, true, false, not, List, [], length, Option, Some, None, option_map, if◌then◌else◌}
use Rattle.chi_token.specs.declared.place.Place.{Place}
use Rattle.chi_tree.specs.declared.type_tree.Name.{Name}
use Rattle.chi_types.specs.declared.ty.Ty.{Ty, out-Ty}
use Rattle.chi_types.specs.Same.{same}
use Rattle.chi_core.specs.declared.element.CElem.{CElem}
use Rattle.chi_core.specs.declared.element.CElem.TheVariants as element
use Rattle.chi_core.specs.declared.target.CTarget.{CTarget}
use Rattle.chi_check_types.specs.declared.fault.Fault.{Fault}
use Rattle.chi_check_types.specs.declared.known.Known.{Known}
use Rattle.chi_check_types.specs.declared.known.Known.TheVariants as known
use Rattle.chi_check_types.specs.declared.known.NameKind.{NameKind}
use Rattle.chi_check_types.specs.declared.known.NameKind.TheVariants as kind
use Rattle.chi_check_types.specs.declared.meant.Made.{Made}
use Rattle.chi_check_types.specs.declared.rules.TheConstants.{VISIBLE_NAME, NAME_KIND, ELEMENT_ARGUMENTS, ELEMENT_TARGET, STARTED_EXIT}
use Rattle.chi_check_types.specs.Names.{Names, known_in}
use Rattle.chi_check_types.specs.Predefined.{is_predefined}
use Rattle.chi_check_types.specs.Typed.{Typed, untyped, refused, broken_if}
use Rattle.chi_check_expr_rules.specs.Conversions.{passed}
use Rattle.chi_check_expr_rules.specs.Nodes.{of_one, of_all, barred, all_made}
use Rattle.chi_check_stat_rules.specs.declared.home.ExitType.{ExitType}
use Rattle.chi_check_stat_rules.specs.declared.home.ExitType.TheVariants as exit
use Rattle.chi_check_stat_rules.specs.declared.home.Home.{Home}
use Rattle.chi_check_stat_rules.specs.declared.home.Home.TheVariants as home
use Rattle.chi_check_stat_rules.specs.declared.parts.Aim.{Aim}
use Rattle.chi_check_stat_rules.specs.declared.parts.Started.{Started}
use Rattle.chi_check_stat_rules.specs.Values.{is_inst}

-- where the new instance goes
abbrev pub as_instance_target : Aim → Option CTarget
as_instance_target a = if is_inst (out-Ty a.ty) then Some a.target else None

abbrev pub instance_target : Place → Option Aim → Typed CTarget
instance_target place a = of_one ELEMENT_TARGET place as_instance_target a

-- a process with exits of a type is started only by a definition whose exits have that type
abbrev pub is_other_exit : ExitType → Ty → Bool
is_other_exit exit.Nothing t = true
is_other_exit exit.Untyped t = false
is_other_exit (exit.Given own) t = not (same t own)

abbrev pub exit_in : Home → Place → Ty → List Fault
exit_in (home.Function result) place t = []
exit_in (home.Process own) place t = broken_if (is_other_exit own t) STARTED_EXIT place
exit_in home.Experiment place t = []

-- one without an exit type is started by any
abbrev pub exit_rule : Home → Place → Option Ty → List Fault
exit_rule h place None = []
exit_rule h place (Some t) = exit_in h place t

abbrev pub started : ℕ → List Ty → List Made → Option Started
started number params arguments = option_map (λ es. record { process = number; arguments = es }) (passed arguments params)

-- a start of a process with parameters of these types
abbrev pub process_start : Place → ℕ → List Ty → List (Option Made) → Typed Started
process_start place number params arguments =
    of_all ELEMENT_ARGUMENTS place (nat_eq (length arguments) (length params)) (started number params) (all_made arguments)

-- a process one of whose types breaks a rule has no type; what else has none is of another kind
abbrev pub untyped_start : Place → NameKind → Typed Started
untyped_start place kind.Process = untyped []
untyped_start place kind.Variable = refused NAME_KIND place
untyped_start place kind.Unwound = refused NAME_KIND place
untyped_start place kind.Constant = refused NAME_KIND place
untyped_start place kind.Type = refused NAME_KIND place
untyped_start place kind.Function = refused NAME_KIND place
untyped_start place kind.Model = refused NAME_KIND place

-- what is known of the name of what is started
abbrev pub visible_start : Home → Place → Option Known → List (Option Made) → Typed Started
visible_start h place None arguments = refused VISIBLE_NAME place
visible_start h place (Some (known.Proc number params exit)) arguments =
    barred (exit_rule h place exit) (process_start place number params arguments)
visible_start h place (Some (known.Untyped k)) arguments = untyped_start place k
visible_start h place (Some (known.Var slot t)) arguments = refused NAME_KIND place
visible_start h place (Some (known.Fixed slot t)) arguments = refused NAME_KIND place
visible_start h place (Some (known.Const number t)) arguments = refused NAME_KIND place
visible_start h place (Some (known.Kind t)) arguments = refused NAME_KIND place
visible_start h place (Some (known.Value enumeration position)) arguments = refused NAME_KIND place
visible_start h place (Some (known.Func number params result)) arguments = refused NAME_KIND place
visible_start h place (Some (known.Model number params exit)) arguments = refused NAME_KIND place
visible_start h place (Some (known.Xper number)) arguments = refused NAME_KIND place

abbrev pub start_of : Home → Names → Name → List (Option Made) → Typed Started
start_of h names name arguments =
    if is_predefined name.text then refused NAME_KIND name.place else visible_start h name.place (known_in names name.text) arguments

abbrev pub make : Option CTarget → Started → CElem
make target s = element.Make target s.process s.arguments

-- the element, where its target has a type, if it has a target, and so has what is started
abbrev pub element_made : Option (Option CTarget) → Option Started → Option CElem
element_made None s = option_map (make None) s
element_made (Some None) s = None
element_made (Some (Some target)) s = option_map (make (Some target)) s
