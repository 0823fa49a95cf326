-- Calls, of predefined names and of functions.
use Rattle.std.specs.Prelude.{ℕ, Bool, true, false, List, [], ◌∷◌, ◌++◌, map, Option, Some, None, if◌then◌else◌}
use Rattle.chi_tree.specs.declared.type_tree.Name.{Name}
use Rattle.chi_check_types.specs.declared.known.Known.{Known}
use Rattle.chi_check_types.specs.declared.meant.Made.{Made}
use Rattle.chi_check_types.specs.declared.predefined.Predefined.{Predefined}
use Rattle.chi_check_types.specs.declared.predefined.Predefined.TheVariants as predefined
use Rattle.chi_check_types.specs.declared.site.Site.{Site}
use Rattle.chi_check_types.specs.Names.{Names, known_in}
use Rattle.chi_check_types.specs.Predefined.{predefined_of, is_predefined}
use Rattle.chi_check_types.specs.Typed.{Typed, after}
use Rattle.chi_check_expr_rules.specs.Calls.{call_of}
use Rattle.chi_check_expr_rules.specs.PredefinedCalls.{predefined_call}
use Rattle.chi_check_expr.specs.Reads.{Read, typed_of, made_of, all_faults}

abbrev pub is_insertion : Option Predefined → Bool
is_insertion (Some predefined.Insert) = true
is_insertion _ = false

-- what is known of a name that isn't predefined
abbrev pub function_known : Names → Option Name → Option Known
function_known names None = None
function_known names (Some name) = if is_predefined name.text then None else known_in names name.text

-- an insertion of an element into a list, by a function
abbrev pub inserted : Site → Names → Name → Option Made → Option Made → Option Name → Typed Made
inserted site names name list element by =
    predefined_call site name.place predefined.Insert (list ∷ element ∷ None ∷ []) (function_known names by)

-- a call of a predefined name, or of what is known of another one
abbrev pub call_by : Site → Names → Name → Option Predefined → List (Option Made) → Typed Made
call_by site names name (Some p) arguments = predefined_call site name.place p arguments None
call_by site names name None arguments = call_of site name.place (known_in names name.text) arguments

abbrev pub called_with : Site → Names → Name → List (Typed Made) → Typed Made
called_with site names name arguments =
    after (all_faults arguments) (call_by site names name (predefined_of name.text) (map made_of arguments))

-- A call. The third of three arguments of an insertion isn't typed, and no rule is broken within it.
abbrev pub called : Site → Names → Name → Bool → List Read → Typed Made
called site names name true (list ∷ element ∷ third ∷ []) =
    after (list.typed.faults ++ element.typed.faults) (inserted site names name list.typed.made element.typed.made third.name)
called site names name insertion arguments = called_with site names name (map typed_of arguments)

abbrev pub call : Site → Names → Name → List Read → Typed Made
call site names name arguments = called site names name (is_insertion (predefined_of name.text)) arguments
