-- Targets: what a name is where something is stored, and a step into a part of it.
use Rattle.std.specs.Prelude.{ℕ, Bool, true, false, List, [], ◌∷◌, ◌++◌, Option, Some, None, option_map, if◌then◌else◌}
use Rattle.chi_token.specs.declared.place.Place.{Place}
use Rattle.chi_tree.specs.declared.type_tree.Name.{Name}
use Rattle.chi_types.specs.declared.ty.Ty.{Ty, Ty-F, out-Ty}
use Rattle.chi_types.specs.Fits.{fits}
use Rattle.chi_core.specs.declared.target.CStep.{CStep}
use Rattle.chi_core.specs.declared.target.CStep.TheVariants as step
use Rattle.chi_check_types.specs.declared.known.Known.{Known}
use Rattle.chi_check_types.specs.declared.known.Known.TheVariants as known
use Rattle.chi_check_types.specs.declared.known.NameKind.{NameKind}
use Rattle.chi_check_types.specs.declared.known.NameKind.TheVariants as kind
use Rattle.chi_check_types.specs.declared.meant.Made.{Made}
use Rattle.chi_check_types.specs.declared.rules.TheConstants.{VISIBLE_NAME, TARGET, INDEX, FIELD}
use Rattle.chi_check_types.specs.Names.{Names, known_in}
use Rattle.chi_check_types.specs.Predefined.{is_predefined}
use Rattle.chi_check_types.specs.Typed.{Typed, unless, untyped, refused}
use Rattle.chi_check_types.specs.TypeRules.{is_int}
use Rattle.chi_check_expr_rules.specs.Conversions.{converted}
use Rattle.chi_check_expr_rules.specs.Nodes.{of_one}
use Rattle.chi_check_expr_rules.specs.Parts.{field_in}
use Rattle.chi_check_stat_rules.specs.declared.parts.Aim.{Aim}

abbrev pub aim : ℕ → List CStep → Ty → Aim
aim slot steps t = record { target = record { slot = slot; steps = steps }; ty = t }

-- ---- names

-- a name whose own type breaks a rule is a target only where it is a variable that no unwind binds
abbrev pub untyped_target : Place → NameKind → Typed Aim
untyped_target place kind.Variable = untyped []
untyped_target place kind.Unwound = refused TARGET place
untyped_target place kind.Constant = refused TARGET place
untyped_target place kind.Type = refused TARGET place
untyped_target place kind.Function = refused TARGET place
untyped_target place kind.Process = refused TARGET place
untyped_target place kind.Model = refused TARGET place

-- what is known of the name where it stands
abbrev pub visible_target : Place → Option Known → Typed Aim
visible_target place None = refused VISIBLE_NAME place
visible_target place (Some (known.Var slot t)) = unless [] (aim slot [] t)
visible_target place (Some (known.Untyped k)) = untyped_target place k
visible_target place (Some (known.Fixed slot t)) = refused TARGET place
visible_target place (Some (known.Const number t)) = refused TARGET place
visible_target place (Some (known.Kind t)) = refused TARGET place
visible_target place (Some (known.Value enumeration position)) = refused TARGET place
visible_target place (Some (known.Func number params result)) = refused TARGET place
visible_target place (Some (known.Proc number params exit)) = refused TARGET place
visible_target place (Some (known.Model number params exit)) = refused TARGET place
visible_target place (Some (known.Xper number)) = refused TARGET place

abbrev pub named_target : Names → Name → Typed Aim
named_target names name = if is_predefined name.text then refused TARGET name.place else visible_target name.place (known_in names name.text)

-- ---- steps

-- one step further, to a part of a type
abbrev pub stepped : Aim → CStep → Ty → Aim
stepped a s t = aim a.target.slot (a.target.steps ++ s ∷ []) t

abbrev pub to_element : Aim → Ty → Made → Option Aim
to_element a element index = if is_int (out-Ty index.ty) then Some (stepped a (step.Index index.core) element) else None

abbrev pub to_key : Aim → Ty → Ty → Made → Option Aim
to_key a key value index = if fits index.ty key then Some (stepped a (step.Index (converted index key)) value) else None

abbrev pub indexed : Ty-F Ty → Aim → Made → Option Aim
indexed (Ty-F.ListOf element) a index = to_element a element index
indexed (Ty-F.DictOf key value) a index = to_key a key value index
indexed _ a index = None

abbrev pub is_text : Ty-F Ty → Bool
is_text Ty-F.Text = true
is_text _ = false

-- An index on a string breaks the rule of targets, at the target's name, whatever the index is.
abbrev pub index_into : Place → Place → Aim → Option Made → Typed Aim
index_into name place a index = if is_text (out-Ty a.ty) then refused TARGET name else of_one INDEX place (indexed (out-Ty a.ty) a) index

abbrev pub index_step : Place → Place → Option Aim → Option Made → Typed Aim
index_step name place None index = untyped []
index_step name place (Some a) index = index_into name place a index

abbrev pub to_part : Aim → ℕ × Ty → Aim
to_part a found = stepped a (step.Part found.0) found.1

abbrev pub field_of : List ℕ → Aim → Option Aim
field_of name a = option_map (to_part a) (field_in (out-Ty a.ty) name)

abbrev pub field_step : Name → Option Aim → Typed Aim
field_step name a = of_one FIELD name.place (field_of name.text) a
