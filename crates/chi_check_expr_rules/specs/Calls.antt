-- Calls of functions.
use Rattle.std.specs.Prelude.{ℕ, nat_eq, List, Option, Some, None, option_map, length}
use Rattle.chi_token.specs.declared.place.Place.{Place}
use Rattle.chi_types.specs.declared.ty.Ty.{Ty}
use Rattle.chi_core.specs.declared.expression.CExpr.TheVariants as expression
use Rattle.chi_check_types.specs.declared.known.Known.{Known}
use Rattle.chi_check_types.specs.declared.known.Known.TheVariants as known
use Rattle.chi_check_types.specs.declared.known.NameKind.{NameKind}
use Rattle.chi_check_types.specs.declared.known.NameKind.TheVariants as kind
use Rattle.chi_check_types.specs.declared.meant.Made.{Made}
use Rattle.chi_check_types.specs.declared.rules.TheConstants.{VISIBLE_NAME, NAME_KIND, CALL_ARGUMENTS}
use Rattle.chi_check_types.specs.declared.site.Site.{Site}
use Rattle.chi_check_types.specs.Typed.{Typed, untyped, refused}
use Rattle.chi_check_expr_rules.specs.Conversions.{made, passed}
use Rattle.chi_check_expr_rules.specs.Nodes.{of_all, barred, all_made}
use Rattle.chi_check_expr_rules.specs.Sites.{calling_rule, model_call_rule}

-- an argument for each parameter, each of which fits and is converted
abbrev pub called : ℕ → List Ty → Ty → List Made → Option Made
called number params result arguments = option_map (λ es. made (expression.Call number es) result) (passed arguments params)

-- a wrong number of arguments breaks the rule, also where one has no type
abbrev pub function_call : Place → ℕ → List Ty → Ty → List (Option Made) → Typed Made
function_call place number params result arguments =
    of_all CALL_ARGUMENTS place (nat_eq (length arguments) (length params)) (called number params result) (all_made arguments)

-- a function one of whose types breaks a rule has no type; what else has none is of another kind
abbrev pub untyped_call : Site → Place → NameKind → Typed Made
untyped_call site place kind.Function = untyped (calling_rule site place)
untyped_call site place kind.Variable = refused NAME_KIND place
untyped_call site place kind.Unwound = refused NAME_KIND place
untyped_call site place kind.Constant = refused NAME_KIND place
untyped_call site place kind.Type = refused NAME_KIND place
untyped_call site place kind.Process = refused NAME_KIND place
untyped_call site place kind.Model = refused (model_call_rule site) place

-- a call of what is known of the name, which isn't predefined
abbrev pub call_of : Site → Place → Option Known → List (Option Made) → Typed Made
call_of site place None arguments = refused VISIBLE_NAME place
call_of site place (Some (known.Func number params result)) arguments =
    barred (calling_rule site place) (function_call place number params result arguments)
call_of site place (Some (known.Untyped k)) arguments = untyped_call site place k
call_of site place (Some (known.Var slot t)) arguments = refused NAME_KIND place
call_of site place (Some (known.Fixed slot t)) arguments = refused NAME_KIND place
call_of site place (Some (known.Const number t)) arguments = refused NAME_KIND place
call_of site place (Some (known.Kind t)) arguments = refused NAME_KIND place
call_of site place (Some (known.Value enumeration position)) arguments = refused NAME_KIND place
call_of site place (Some (known.Proc number params exit)) arguments = refused NAME_KIND place
call_of site place (Some (known.Model number params exit)) arguments = refused (model_call_rule site) place
call_of site place (Some (known.Xper number)) arguments = refused NAME_KIND place
