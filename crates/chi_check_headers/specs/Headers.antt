-- Headers of functions, processes and models: what they mean, and what is known of their names.
use Rattle.std.specs.Prelude.{ℕ, Bool, true, false, List, [], ◌∷◌, ◌++◌, Option, Some, None, option_map}
use Rattle.std.specs.Option.{option_and_then}
use Rattle.chi_tree.specs.declared.definition.Definition.{Definition}
use Rattle.chi_tree.specs.declared.definition.Definition.TheVariants as definition
use Rattle.chi_tree.specs.declared.type_tree.Formal.{Formal}
use Rattle.chi_tree.specs.declared.type_tree.TypeTree.{TypeTree}
use Rattle.chi_types.specs.declared.ty.Ty.{Ty}
use Rattle.chi_check_types.specs.declared.fault.Fault.{Fault}
use Rattle.chi_check_types.specs.declared.known.Known.{Known}
use Rattle.chi_check_types.specs.declared.known.Known.TheVariants as known
use Rattle.chi_check_types.specs.declared.known.NameKind.TheVariants as kind
use Rattle.chi_check_types.specs.declared.meant.Meant.{Meant}
use Rattle.chi_check_types.specs.declared.site.Site.{Site}
use Rattle.chi_check_types.specs.declared.site.Site.TheVariants as site
use Rattle.chi_check_types.specs.Names.{Names}
use Rattle.chi_check_types.specs.Typed.{Typed}
use Rattle.chi_check_expr.specs.Typing.{reading}
use Rattle.chi_check_stat_rules.specs.declared.home.ExitType.{ExitType}
use Rattle.chi_check_stat_rules.specs.declared.home.ExitType.TheVariants as exit
use Rattle.chi_check_stat_rules.specs.declared.home.Home.{Home}
use Rattle.chi_check_stat_rules.specs.declared.home.Home.TheVariants as home
use Rattle.chi_check_headers.specs.declared.header.Header.{Header}

-- what something means in any case, with its broken rules
pub record Found (A : Type 0) : Type 0 where
  pub faults : List Fault
  pub given : A

abbrev pub type_of : Option Meant → Option Ty
type_of = option_map (λ m. m.ty)

abbrev pub type_in : Site → Names → TypeTree → Found (Option Ty)
type_in s names tree = let t = reading s names tree false in record { faults = t.faults; given = type_of t.made }

-- the type before a formal, or that of the formal before it
abbrev pub formal_type : Site → Names → Option Ty → Option TypeTree → Found (Option Ty)
formal_type s names last None = record { faults = []; given = last }
formal_type s names last (Some tree) = type_in s names tree

abbrev pub formal_types : Site → Names → Option Ty → List Formal → Found (List (Option Ty))
formal_types s names last [] = record { faults = []; given = [] }
formal_types s names last (f ∷ fs) =
    let t = formal_type s names last f.ty in
    let more = formal_types s names t.given fs in
    record { faults = t.faults ++ more.faults; given = t.given ∷ more.given }

abbrev pub exit_given : Option Ty → ExitType
exit_given None = exit.Untyped
exit_given (Some t) = exit.Given t

abbrev pub exit_type_in : Names → Option TypeTree → Found ExitType
exit_type_in names None = record { faults = []; given = exit.Nothing }
exit_type_in names (Some tree) = let t = type_in site.Process names tree in record { faults = t.faults; given = exit_given t.given }

abbrev pub header : List (Option Ty) → Home → Header
header formals h = record { formals = formals; home = h }

abbrev pub function_header : Names → TypeTree → List Formal → Found Header
function_header names tree formals =
    let r = type_in site.Function names tree in
    let fs = formal_types site.Function names None formals in
    record { faults = r.faults ++ fs.faults; given = header fs.given (home.Function r.given) }

abbrev pub process_header : Names → Option TypeTree → List Formal → Found Header
process_header names tree formals =
    let e = exit_type_in names tree in
    let fs = formal_types site.Process names None formals in
    record { faults = e.faults ++ fs.faults; given = header fs.given (home.Process e.given) }

abbrev pub with_header : Found Header → Found (Option Header)
with_header f = record { faults = f.faults; given = Some f.given }

-- of what has a header, where these names are visible
abbrev pub header_in : Names → Definition → Found (Option Header)
header_in names (definition.Func place tree name formals steps) = with_header (function_header names tree formals)
header_in names (definition.Proc place tree name formals steps) = with_header (process_header names tree formals)
header_in names (definition.Model place tree name formals steps) = with_header (process_header names tree formals)
header_in names (definition.Enum place name values) = record { faults = []; given = None }
header_in names (definition.Const place tree name equals value) = record { faults = []; given = None }
header_in names (definition.TypeWord place name tree) = record { faults = []; given = None }
header_in names (definition.Xper place name steps) = record { faults = []; given = None }

abbrev pub header_faults : List (Found (Option Header)) → List Fault
header_faults [] = []
header_faults (h ∷ hs) = h.faults ++ header_faults hs

-- ---- what is known of the names

-- all types, where each formal has one
abbrev pub all_types : List (Option Ty) → Option (List Ty)
all_types [] = Some []
all_types (t ∷ ts) = option_and_then (λ first. option_map (λ more. first ∷ more) (all_types ts)) t

abbrev pub function_known : ℕ → Option (List Ty) → Option Ty → Known
function_known number (Some params) (Some result) = known.Func number params result
function_known number _ _ = known.Untyped kind.Function

abbrev pub process_known : ℕ → Option (List Ty) → ExitType → Known
process_known number (Some params) exit.Nothing = known.Proc number params None
process_known number (Some params) (exit.Given t) = known.Proc number params (Some t)
process_known number _ _ = known.Untyped kind.Process

abbrev pub model_known : ℕ → Option (List Ty) → ExitType → Known
model_known number (Some params) exit.Nothing = known.Model number params None
model_known number (Some params) (exit.Given t) = known.Model number params (Some t)
model_known number _ _ = known.Untyped kind.Model

-- the result of a function, where what has the header is one
abbrev pub result_in : Home → Option Ty
result_in (home.Function result) = result
result_in (home.Process own) = None
result_in home.Experiment = None

-- the exit type of a process or a model, where what has the header is one
abbrev pub exit_in : Home → ExitType
exit_in (home.Function result) = exit.Untyped
exit_in (home.Process own) = own
exit_in home.Experiment = exit.Untyped

-- what has no type is visible all the same

abbrev pub function_headed : ℕ → Header → Known
function_headed number h = function_known number (all_types h.formals) (result_in h.home)

abbrev pub process_headed : ℕ → Header → Known
process_headed number h = process_known number (all_types h.formals) (exit_in h.home)

abbrev pub model_headed : ℕ → Header → Known
model_headed number h = model_known number (all_types h.formals) (exit_in h.home)
