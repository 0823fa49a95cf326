-- Private to proofs. Constants, types and bodies come to something where no rule is broken, and the names that they see have types.
use Rattle.std.proofs.Common.{ℕ, ◌≡◌, Bool, true, false, cond, List, [], ◌∷◌, ◌++◌, map, Option, Some, None, refl, sym, subst}
use Rattle.chi_token.specs.declared.place.Place.{Place}
use Rattle.chi_tree.specs.declared.definition.Definition.{Definition}
use Rattle.chi_tree.specs.declared.definition.Definition.TheVariants as definition
use Rattle.chi_tree.specs.declared.expr.Expr.{Expr}
use Rattle.chi_tree.specs.declared.type_tree.Name.{Name}
use Rattle.chi_tree.specs.declared.type_tree.TypeTree.{TypeTree}
use Rattle.chi_types.specs.declared.ty.Ty.{Ty}
use Rattle.chi_core.specs.declared.program.ConstDef.{ConstDef}
use Rattle.chi_check_types.specs.declared.fault.Fault.{Fault}
use Rattle.chi_check_types.specs.declared.known.Known.{Known}
use Rattle.chi_check_types.specs.declared.known.Known.TheVariants as known
use Rattle.chi_check_types.specs.declared.known.NameKind.{NameKind}
use Rattle.chi_check_types.specs.declared.known.NameKind.TheVariants as kind
use Rattle.chi_check_types.specs.declared.meant.Made.{Made}
use Rattle.chi_check_types.specs.declared.meant.Meant.{Meant}
use Rattle.chi_check_types.specs.declared.rules.TheConstants.{INITIAL_VALUE}
use Rattle.chi_check_types.specs.declared.site.Site.TheVariants as site
use Rattle.chi_check_types.specs.Names.{Names, known_in}
use Rattle.chi_check_expr.specs.Typing.{typing, reading}
use Rattle.chi_check_expr.proofs.Exact.{exact_typing}
use Rattle.chi_check_expr.proofs.Kept.{Good}
use Rattle.chi_check_expr.proofs.Nodes.{left_nil, right_nil}
use Rattle.chi_check.specs.Below.chi_check_stat_rules.specs.Values.{fitted, constant_rule, initial_value, constant_value}
use Rattle.chi_check.specs.Below.chi_check_stat_lines.specs.Stated.{in_turn}
use Rattle.chi_check.specs.Below.chi_check_stat_lines.specs.States.{with_name}
use Rattle.chi_check.specs.Below.chi_check_headers.specs.declared.sketch.Early.{Early}
use Rattle.chi_check.specs.Below.chi_check_headers.specs.Headers.{type_of, type_in}
use Rattle.chi_check.specs.Below.chi_check_headers.specs.Definitions.{means, with_definition, constant_known, constant, constant_defined, type_known, type_defined, early_defined, with_meaning, late_name, with_late, with_all_late}
use Rattle.chi_check_laws.proofs.Entries.{Entries, entries_with}
use Rattle.chi_check_laws.proofs.Headers.{StandsForOne}
use Rattle.chi_check_laws.proofs.Lookups.{Continues, continues_same, continues_on, continues_with}
use Rattle.chi_check_laws.proofs.Shaped.{Fine, Shaped, HasShape, clean_of, reading_shaped}
use Rattle.chi_check_laws.proofs.Sketches.{Named, EachNamed}
use Rattle.chi_check_laws.proofs.ProgramTurns.{Keeps, turns_keep, each_keeps}
use Rattle.chi_check_laws.proofs.WholeHeaders.{Comes, exact_whole, barred_whole, of_two_whole, mapped_comes, both_comes}

-- ---- types and constants

abbrev pub FineEarly : Early → Type 0
FineEarly s = Entries Fine s.names

either_definition : (b : Bool) (names : Names) (text : List ℕ) (k : Known) → Entries Fine names → Fine k → Entries Fine (cond b (with_name names text k) names)
either_definition true names text k h f = entries_with Fine names text k h f
either_definition false names text k h f = h

pub definition_fine : (all : Names) (n : NameKind) (names : Names) (name : Name) (k : Known) → Entries Fine names → Fine k → Entries Fine (with_definition all n names name k)
definition_fine all n names name k h f = either_definition (means n (known_in all name.text)) names name.text k h f

-- a type, and that it has a shape
type_comes : (fs : List Fault) (m : Option Meant) → Good Shaped fs m → fs ≡ [] → (t : Ty) × (type_of m ≡ Some t) × HasShape t
type_comes fs None g e = absurd (g e)
type_comes fs (Some m) g e = (m.ty, refl, g.1.0)

constant_fine : (number : ℕ) (t : Option Ty) → Comes t → Fine (constant_known number t)
constant_fine number None c = absurd c
constant_fine number (Some t) c = tt

value_comes : (equals : Place) (m : Option Made) (t : Option Ty) → Comes m → Comes t → (constant_value equals m t).faults ≡ [] → Comes (constant_value equals m t).made
value_comes equals m t c d = barred_whole (constant_rule equals t) (initial_value equals m t) (of_two_whole INITIAL_VALUE equals fitted m t c d)

constant_keeps : (all : Names) (place : Place) (tree : TypeTree) (name : Name) (equals : Place) (value : Expr) → Keeps FineEarly (constant_defined all place tree name equals value)
constant_keeps all place tree name equals value s h e =
    let r = reading site.Constant s.names tree false in
    let t = type_in site.Constant s.names tree in
    let v = typing site.Constant s.names value in
    let x = constant_value equals v.made t.given in
    let first = left_nil (t.faults ++ v.faults) x.faults e in
    let found = type_comes r.faults r.made (reading_shaped site.Constant s.names h tree false) (left_nil t.faults v.faults first) in
    let given : Comes t.given = subst Comes (sym found.1) tt in
    let there = value_comes equals v.made t.given (exact_whole v (exact_typing site.Constant s.names value (clean_of s.names h)) (right_nil t.faults v.faults first)) given (right_nil (t.faults ++ v.faults) x.faults e) in
    (both_comes (constant place.line) t.given x.made given there, definition_fine all kind.Constant s.names name (constant_known s.constants t.given) h (constant_fine s.constants t.given given))

shape_fine : (o : Option Ty) (t : Ty) → o ≡ Some t → HasShape t → Fine (type_known o)
shape_fine None t e h = absurd (cc)
shape_fine (Some u) t e h =
    let same : t ≡ u = cc in
    subst HasShape same h

type_keeps : (all : Names) (name : Name) (tree : TypeTree) → Keeps FineEarly (type_defined all name tree)
type_keeps all name tree s h e =
    let r = reading site.Constant s.names tree false in
    let t = type_in site.Constant s.names tree in
    let found = type_comes r.faults r.made (reading_shaped site.Constant s.names h tree false) e in
    let given : Comes t.given = subst Comes (sym found.1) tt in
    (mapped_comes {B = List ConstDef} (λ t. []) t.given given, definition_fine all kind.Type s.names name (type_known t.given) h (shape_fine t.given found.0 found.1 found.2))

early_keeps : (all : Names) (d : Definition) → Keeps FineEarly (early_defined all d)
early_keeps all (definition.Const place tree name equals value) s h e = constant_keeps all place tree name equals value s h e
early_keeps all (definition.TypeWord place name tree) s h e = type_keeps all name tree s h e
early_keeps all (definition.Enum place name values) s h e = (tt, h)
early_keeps all (definition.Func place tree name formals steps) s h e = (tt, h)
early_keeps all (definition.Proc place tree name formals steps) s h e = (tt, h)
early_keeps all (definition.Model place tree name formals steps) s h e = (tt, h)
early_keeps all (definition.Xper place name steps) s h e = (tt, h)

pub all_early_keep : (all : Names) (ds : List Definition) → Keeps FineEarly (in_turn (map (early_defined all) ds))
all_early_keep all ds = turns_keep FineEarly (map (early_defined all) ds) (each_keeps FineEarly (early_defined all) (early_keeps all) ds)

-- ---- the names that headers see

meaning_continues : (names : Names) (name : Name) (o : Option Known) → Continues names (with_meaning names name o)
meaning_continues names name None = continues_same names
meaning_continues names name (Some (known.Untyped k)) = continues_with names name.text (known.Untyped k)
meaning_continues names name (Some (known.Xper number)) = continues_with names name.text (known.Xper number)
meaning_continues names name (Some (known.Var slot t)) = continues_same names
meaning_continues names name (Some (known.Fixed slot t)) = continues_same names
meaning_continues names name (Some (known.Const number t)) = continues_same names
meaning_continues names name (Some (known.Kind t)) = continues_same names
meaning_continues names name (Some (known.Value enumeration position)) = continues_same names
meaning_continues names name (Some (known.Func number params result)) = continues_same names
meaning_continues names name (Some (known.Proc number params exit)) = continues_same names
meaning_continues names name (Some (known.Model number params exit)) = continues_same names

late_continues : (all names : Names) (o : Option Name) → Continues names (with_late all names o)
late_continues all names None = continues_same names
late_continues all names (Some name) = meaning_continues names name (known_in all name.text)

pub all_late_continue : (all names : Names) (ds : List Definition) → Continues names (with_all_late all names ds)
all_late_continue all names [] = continues_same names
all_late_continue all names (d ∷ ds) = continues_on names (with_late all names (late_name d)) (with_all_late all (with_late all names (late_name d)) ds) (late_continues all names (late_name d)) (all_late_continue all (with_late all names (late_name d)) ds)

module _ (P : Known → Type 0) where
  abbrev Kept : Names → Name → Option Known → Type 0
  Kept names name o = Entries P (with_meaning names name o)

  pub meant_as : (names : Names) (name : Name) (o : Option Known) (k : Known) → o ≡ Some k → Kept names name (Some k) → Kept names name o
  meant_as names name o k e h = subst (Kept names name) (sym e) h

  module _ (function : P (known.Untyped kind.Function)) (process : P (known.Untyped kind.Process)) (model : P (known.Untyped kind.Model)) (xper : (number : ℕ) → P (known.Xper number)) (all : Names) where
    late_entries : (names : Names) (d : Definition) → Named all d → Entries P names → Entries P (with_late all names (late_name d))
    late_entries names (definition.Func place tree name formals steps) n h = meant_as names name (known_in all name.text) (known.Untyped kind.Function) n (entries_with P names name.text (known.Untyped kind.Function) h function)
    late_entries names (definition.Proc place tree name formals steps) n h = meant_as names name (known_in all name.text) (known.Untyped kind.Process) n (entries_with P names name.text (known.Untyped kind.Process) h process)
    late_entries names (definition.Model place tree name formals steps) n h = meant_as names name (known_in all name.text) (known.Untyped kind.Model) n (entries_with P names name.text (known.Untyped kind.Model) h model)
    late_entries names (definition.Xper place name steps) n h = meant_as names name (known_in all name.text) (known.Xper n.0) n.1 (entries_with P names name.text (known.Xper n.0) h (xper n.0))
    late_entries names (definition.Enum place name values) n h = h
    late_entries names (definition.Const place tree name equals value) n h = h
    late_entries names (definition.TypeWord place name tree) n h = h

    pub all_late_entries : (names : Names) (ds : List Definition) → EachNamed all ds → Entries P names → Entries P (with_all_late all names ds)
    all_late_entries names [] n h = h
    all_late_entries names (d ∷ ds) n h = all_late_entries (with_late all names (late_name d)) ds n.1 (late_entries names d n.0 h)

pub stands_for_one : (k : Known) → Fine k → StandsForOne k
stands_for_one (known.Untyped k) h = absurd h
stands_for_one (known.Kind t) h = tt
stands_for_one (known.Var slot t) h = tt
stands_for_one (known.Fixed slot t) h = tt
stands_for_one (known.Const number t) h = tt
stands_for_one (known.Value enumeration position) h = tt
stands_for_one (known.Func number params result) h = tt
stands_for_one (known.Proc number params exit) h = tt
stands_for_one (known.Model number params exit) h = tt
stands_for_one (known.Xper number) h = tt
