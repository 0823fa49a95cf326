-- Casts, by the type of what is cast.
use Rattle.std.specs.Prelude.{Bool, true, false, List, [], ◌∷◌, Option, Some, None, if◌then◌else◌}
use Rattle.chi_token.specs.declared.place.Place.{Place}
use Rattle.chi_tree.specs.declared.operator.CastWord.{CastWord}
use Rattle.chi_tree.specs.declared.operator.CastWord.TheVariants as word
use Rattle.chi_types.specs.declared.ty.Ty.{Ty, Ty-F, out-Ty}
use Rattle.chi_types.specs.declared.ty.Ty.TheVariants as ty
use Rattle.chi_types.specs.Plain.{is_plain}
use Rattle.chi_core.specs.declared.op_name.OpName.TheVariants as op
use Rattle.chi_check_types.specs.declared.fault.Fault.{Fault}
use Rattle.chi_check_types.specs.declared.meant.Made.{Made}
use Rattle.chi_check_types.specs.declared.rules.TheConstants.{PREDEFINED}
use Rattle.chi_check_types.specs.declared.site.Site.{Site}
use Rattle.chi_check_types.specs.Typed.{Typed}
use Rattle.chi_check_expr_rules.specs.Conversions.{as_they_are, wanting}
use Rattle.chi_check_expr_rules.specs.Nodes.{of_one, barred}
use Rattle.chi_check_expr_rules.specs.Sites.{running_rule, running_rule_if}

-- an int, or the text of one
abbrev pub to_int : Ty-F Ty → Made → Option Made
to_int Ty-F.Int m = Some (as_they_are op.ToInt (m ∷ []) ty.Int)
to_int Ty-F.Text m = Some (as_they_are op.ToInt (m ∷ []) ty.Int)
to_int _ m = None

-- a number, the text of one, or what is left of a timer
abbrev pub to_real : Ty-F Ty → Made → Option Made
to_real Ty-F.Int m = Some (as_they_are op.ToReal (m ∷ []) ty.Real)
to_real Ty-F.Real m = Some (as_they_are op.ToReal (m ∷ []) ty.Real)
to_real Ty-F.Text m = Some (as_they_are op.ToReal (m ∷ []) ty.Real)
to_real Ty-F.Timer m = Some (as_they_are op.ToReal (m ∷ []) ty.Real)
to_real _ m = None

-- a bool, or the text of one
abbrev pub to_bool : Ty-F Ty → Made → Option Made
to_bool Ty-F.Bool m = Some (as_they_are op.ToBool (m ∷ []) ty.Bool)
to_bool Ty-F.Text m = Some (as_they_are op.ToBool (m ∷ []) ty.Bool)
to_bool _ m = None

-- anything plain
abbrev pub to_text : Made → Option Made
to_text m = if is_plain m.ty then Some (as_they_are op.ToText (m ∷ []) ty.Text) else None

-- due so much later
abbrev pub to_timer : Made → Option Made
to_timer m = wanting op.ToTimer (ty.Real ∷ []) ty.Timer (m ∷ [])

abbrev pub cast : CastWord → Made → Option Made
cast word.Int m = to_int (out-Ty m.ty) m
cast word.Real m = to_real (out-Ty m.ty) m
cast word.Text m = to_text m
cast word.Bool m = to_bool (out-Ty m.ty) m
cast word.Timer m = to_timer m

abbrev pub is_timer : Ty-F Ty → Bool
is_timer Ty-F.Timer = true
is_timer _ = false

-- a cast of a timer to a real
abbrev pub from_timer_rule : Site → Place → Option Made → List Fault
from_timer_rule site place None = []
from_timer_rule site place (Some m) = running_rule_if (is_timer (out-Ty m.ty)) site place

-- casts to and from timers depend on the run
abbrev pub timer_rule : Site → CastWord → Place → Option Made → List Fault
timer_rule site word.Timer place m = running_rule site place
timer_rule site word.Real place m = from_timer_rule site place m
timer_rule site word place m = []

abbrev pub cast_made : CastWord → Place → Option Made → Typed Made
cast_made word place m = of_one PREDEFINED place (cast word) m

abbrev pub cast_of : Site → CastWord → Place → Option Made → Typed Made
cast_of site word place m = barred (timer_rule site word place m) (cast_made word place m)
