-- What a name comes to where an expression stands, and the time.
use Rattle.std.specs.Prelude.{[], Option, Some, None, if◌then◌else◌}
use Rattle.chi_token.specs.declared.place.Place.{Place}
use Rattle.chi_tree.specs.declared.type_tree.Name.{Name}
use Rattle.chi_types.specs.declared.ty.Ty.TheVariants as ty
use Rattle.chi_value.specs.declared.value.Value.TheVariants as value
use Rattle.chi_core.specs.declared.expression.CExpr.TheVariants as expression
use Rattle.chi_core.specs.declared.op_name.OpName.TheVariants as op
use Rattle.chi_check_types.specs.declared.known.Known.{Known}
use Rattle.chi_check_types.specs.declared.known.Known.TheVariants as known
use Rattle.chi_check_types.specs.declared.known.NameKind.{NameKind}
use Rattle.chi_check_types.specs.declared.known.NameKind.TheVariants as kind
use Rattle.chi_check_types.specs.declared.meant.Made.{Made}
use Rattle.chi_check_types.specs.declared.rules.TheConstants.{VISIBLE_NAME, NAME_KIND}
use Rattle.chi_check_types.specs.declared.site.Site.{Site}
use Rattle.chi_check_types.specs.Names.{Names, known_in}
use Rattle.chi_check_types.specs.Predefined.{is_predefined}
use Rattle.chi_check_types.specs.Typed.{Typed, unless, untyped, refused}
use Rattle.chi_check_expr_rules.specs.Conversions.{made}
use Rattle.chi_check_expr_rules.specs.Sites.{running_rule}

-- a name whose own type breaks a rule stands for a value only where it is that of a variable or of a constant
abbrev pub untyped_value : Place → NameKind → Typed Made
untyped_value place kind.Variable = untyped []
untyped_value place kind.Unwound = untyped []
untyped_value place kind.Constant = untyped []
untyped_value place kind.Type = refused NAME_KIND place
untyped_value place kind.Function = refused NAME_KIND place
untyped_value place kind.Process = refused NAME_KIND place
untyped_value place kind.Model = refused NAME_KIND place

-- what is known of the name where it stands
abbrev pub visible_value : Place → Option Known → Typed Made
visible_value place None = refused VISIBLE_NAME place
visible_value place (Some (known.Var slot t)) = unless [] (made (expression.Var slot) t)
visible_value place (Some (known.Fixed slot t)) = unless [] (made (expression.Var slot) t)
visible_value place (Some (known.Const number t)) = unless [] (made (expression.Const number) t)
visible_value place (Some (known.Value enumeration position)) =
    unless [] (made (expression.Lit (value.Choice enumeration position)) (ty.Choice enumeration))
visible_value place (Some (known.Untyped k)) = untyped_value place k
visible_value place (Some (known.Kind t)) = refused NAME_KIND place
visible_value place (Some (known.Func number params result)) = refused NAME_KIND place
visible_value place (Some (known.Proc number params exit)) = refused NAME_KIND place
visible_value place (Some (known.Model number params exit)) = refused NAME_KIND place
visible_value place (Some (known.Xper number)) = refused NAME_KIND place

-- a predefined name is of another kind
abbrev pub named_value : Names → Name → Typed Made
named_value names name =
    if is_predefined name.text then refused NAME_KIND name.place else visible_value name.place (known_in names name.text)

abbrev pub time_of : Site → Place → Typed Made
time_of site place = unless (running_rule site place) (made (expression.Op op.Time []) ty.Real)
