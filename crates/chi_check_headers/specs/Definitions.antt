-- The definitions of a program: their names, and what types and constants come to.
use Rattle.std.specs.Prelude.{ℕ, ◌+◌, Bool, true, false, List, [], ◌∷◌, ◌++◌, Option, Some, None, option_map, if◌then◌else◌}
use Rattle.chi_token.specs.declared.place.Place.{Place}
use Rattle.chi_tree.specs.declared.definition.Definition.{Definition}
use Rattle.chi_tree.specs.declared.definition.Definition.TheVariants as definition
use Rattle.chi_tree.specs.declared.expr.Expr.{Expr}
use Rattle.chi_tree.specs.declared.type_tree.Name.{Name}
use Rattle.chi_tree.specs.declared.type_tree.TypeTree.{TypeTree}
use Rattle.chi_types.specs.declared.ty.Ty.{Ty}
use Rattle.chi_types.specs.declared.ty.Ty.TheVariants as ty
use Rattle.chi_core.specs.declared.expression.CExpr.{CExpr}
use Rattle.chi_core.specs.declared.program.ConstDef.{ConstDef}
use Rattle.chi_check_types.specs.declared.known.Known.{Known}
use Rattle.chi_check_types.specs.declared.known.Known.TheVariants as known
use Rattle.chi_check_types.specs.declared.known.NameKind.{NameKind}
use Rattle.chi_check_types.specs.declared.known.NameKind.TheVariants as kind
use Rattle.chi_check_types.specs.declared.site.Site.TheVariants as site
use Rattle.chi_check_types.specs.Names.{Names, known_in}
use Rattle.chi_check_expr.specs.Typing.{typing}
use Rattle.chi_check_stat_rules.specs.Values.{constant_value}
use Rattle.chi_check_stat_lines.specs.Stated.{Turn, both, done, in_turn}
use Rattle.chi_check_stat_lines.specs.States.{is_taken, new_name_rule, with_name}
use Rattle.chi_check_headers.specs.declared.header.Header.{Header}
use Rattle.chi_check_headers.specs.declared.sketch.Sketch.{Sketch}
use Rattle.chi_check_headers.specs.declared.sketch.Early.{Early}
use Rattle.chi_check_headers.specs.declared.sketch.Named.{Named}
use Rattle.chi_check_headers.specs.Headers.{type_in, function_headed, process_headed, model_headed}

-- ---- the names of all definitions, in the order of the text

-- a name of an enumeration is visible early too, where it is new
abbrev pub with_early : Names → Names → Name → Known → Names
with_early all early name k = if is_taken all name.text then early else with_name early name.text k

-- an enumeration, or its value at a position
abbrev pub early_known : ℕ → Option ℕ → Known
early_known enumeration None = known.Kind (ty.Choice enumeration)
early_known enumeration (Some position) = known.Value enumeration position

abbrev pub named_early : Name → ℕ → Option ℕ → Sketch → Sketch
named_early name enumeration position s = record s {
  all = with_name s.all name.text (early_known enumeration position);
  early = with_early s.all s.early name (early_known enumeration position);
}

abbrev pub named_late : Name → Known → Sketch → Sketch
named_late name k s = record s { all = with_name s.all name.text k }

abbrev pub value_named : ℕ → ℕ → Name → Turn Sketch (List ℕ)
value_named enumeration position value s = record {
  next = named_early value enumeration (Some position) s;
  faults = new_name_rule s.all value;
  made = Some (value.text ∷ []);
}

-- the values of an enumeration, from a position on, with their names
abbrev pub values_from : ℕ → ℕ → List Name → List (Turn Sketch (List ℕ))
values_from enumeration position [] = []
values_from enumeration position (value ∷ values) = value_named enumeration position value ∷ values_from enumeration (position + 1) values

abbrev pub one_enumeration : Sketch → Sketch
one_enumeration s = record s { enumerations = s.enumerations + 1 }

abbrev pub one_process : Sketch → Sketch
one_process s = record s { processes = s.processes + 1 }

abbrev pub one_experiment : Sketch → Sketch
one_experiment s = record s { experiments = s.experiments + 1 }

abbrev pub enumeration_named : Name → List Name → Turn Sketch (List (List ℕ))
enumeration_named name values s =
    let each = in_turn (values_from s.enumerations 0 values) (named_early name s.enumerations None s) in
    record {
      next = one_enumeration each.next;
      faults = new_name_rule s.all name ++ each.faults;
      made = option_map (λ names. names ∷ []) each.made;
    }

abbrev pub late_named : Name → Known → (Sketch → Sketch) → Turn Sketch (List (List ℕ))
late_named name k counted s = record { next = counted (named_late name k s); faults = new_name_rule s.all name; made = Some [] }

-- What it comes to are the names of an enumeration's values.
abbrev pub sketching : Definition → Turn Sketch (List (List ℕ))
sketching (definition.Enum place name values) s = enumeration_named name values s
sketching (definition.Const place tree name equals value) s = late_named name (known.Untyped kind.Constant) (λ s. s) s
sketching (definition.TypeWord place name tree) s = late_named name (known.Untyped kind.Type) (λ s. s) s
sketching (definition.Func place tree name formals steps) s = late_named name (known.Untyped kind.Function) (λ s. s) s
sketching (definition.Proc place tree name formals steps) s = late_named name (known.Untyped kind.Process) one_process s
sketching (definition.Model place tree name formals steps) s = late_named name (known.Untyped kind.Model) one_process s
sketching (definition.Xper place name steps) s = late_named name (known.Xper s.experiments) one_experiment s

-- ---- types and constants: each sees those before it, and all enumerations

abbrev pub is_kind : NameKind → NameKind → Bool
is_kind kind.Constant kind.Constant = true
is_kind kind.Type kind.Type = true
is_kind kind.Function kind.Function = true
is_kind kind.Process kind.Process = true
is_kind kind.Model kind.Model = true
is_kind _ _ = false

-- the name means a definition of the kind
abbrev pub means : NameKind → Option Known → Bool
means k (Some (known.Untyped other)) = is_kind k other
means k _ = false

-- a definition with a name that means another one isn't visible
abbrev pub with_definition : Names → NameKind → Names → Name → Known → Names
with_definition all k names name what = if means k (known_in all name.text) then with_name names name.text what else names

abbrev pub constant_known : ℕ → Option Ty → Known
constant_known number None = known.Untyped kind.Constant
constant_known number (Some t) = known.Const number t

abbrev pub type_known : Option Ty → Known
type_known None = known.Untyped kind.Type
type_known (Some t) = known.Kind t

abbrev pub constant : ℕ → Ty → CExpr → List ConstDef
constant line t value = record { line = line; ty = t; value = value } ∷ []

abbrev pub constant_made : ℕ → Option Ty → Option CExpr → Option (List ConstDef)
constant_made line = both (constant line)

abbrev pub constant_defined : Names → Place → TypeTree → Name → Place → Expr → Turn Early ConstDef
constant_defined all place tree name equals value s =
    let t = type_in site.Constant s.names tree in
    let v = typing site.Constant s.names value in
    let e = constant_value equals v.made t.given in
    record {
      next = record {
        names = with_definition all kind.Constant s.names name (constant_known s.constants t.given);
        constants = s.constants + 1;
      };
      faults = t.faults ++ v.faults ++ e.faults;
      made = constant_made place.line t.given e.made;
    }

abbrev pub type_defined : Names → Name → TypeTree → Turn Early ConstDef
type_defined all name tree s =
    let t = type_in site.Constant s.names tree in
    record {
      next = record { names = with_definition all kind.Type s.names name (type_known t.given); constants = s.constants };
      faults = t.faults;
      made = option_map (λ t. []) t.given;
    }

abbrev pub early_defined : Names → Definition → Turn Early ConstDef
early_defined all (definition.Const place tree name equals value) s = constant_defined all place tree name equals value s
early_defined all (definition.TypeWord place name tree) s = type_defined all name tree s
early_defined all (definition.Enum place name values) s = done s
early_defined all (definition.Func place tree name formals steps) s = done s
early_defined all (definition.Proc place tree name formals steps) s = done s
early_defined all (definition.Model place tree name formals steps) s = done s
early_defined all (definition.Xper place name steps) s = done s

-- ---- functions, processes, models and experiments

-- what a name means that isn't visible early: it is visible in headers, without its types
abbrev pub with_meaning : Names → Name → Option Known → Names
with_meaning names name (Some (known.Untyped k)) = with_name names name.text (known.Untyped k)
with_meaning names name (Some (known.Xper number)) = with_name names name.text (known.Xper number)
with_meaning names name _ = names

abbrev pub late_name : Definition → Option Name
late_name (definition.Func place tree name formals steps) = Some name
late_name (definition.Proc place tree name formals steps) = Some name
late_name (definition.Model place tree name formals steps) = Some name
late_name (definition.Xper place name steps) = Some name
late_name (definition.Enum place name values) = None
late_name (definition.Const place tree name equals value) = None
late_name (definition.TypeWord place name tree) = None

abbrev pub with_late : Names → Names → Option Name → Names
with_late all names None = names
with_late all names (Some name) = with_meaning names name (known_in all name.text)

-- the names that headers see, after those that are visible early
abbrev pub with_all_late : Names → Names → List Definition → Names
with_all_late all names [] = names
with_all_late all names (d ∷ ds) = with_all_late all (with_late all names (late_name d)) ds

-- the names that bodies see: now with the types of the headers
abbrev pub with_function : Names → Name → Header → Named → Named
with_function all name h s = record {
  names = with_definition all kind.Function s.names name (function_headed s.functions h);
  functions = s.functions + 1;
  processes = s.processes;
}

abbrev pub with_process : Names → Name → Header → Named → Named
with_process all name h s = record {
  names = with_definition all kind.Process s.names name (process_headed s.processes h);
  functions = s.functions;
  processes = s.processes + 1;
}

abbrev pub with_model : Names → Name → Header → Named → Named
with_model all name h s = record {
  names = with_definition all kind.Model s.names name (model_headed s.processes h);
  functions = s.functions;
  processes = s.processes + 1;
}

abbrev pub with_experiment : Names → Name → Named → Named
with_experiment all name s = record { names = with_late all s.names (Some name); functions = s.functions; processes = s.processes }

abbrev pub with_headed : Names → Definition → Option Header → Named → Named
with_headed all (definition.Func place tree name formals steps) (Some h) s = with_function all name h s
with_headed all (definition.Proc place tree name formals steps) (Some h) s = with_process all name h s
with_headed all (definition.Model place tree name formals steps) (Some h) s = with_model all name h s
with_headed all (definition.Xper place name steps) h s = with_experiment all name s
with_headed all _ _ s = s

-- each definition with its header
abbrev pub with_all_headed : Names → List Definition → List (Option Header) → Named → Named
with_all_headed all (d ∷ ds) (h ∷ hs) s = with_all_headed all ds hs (with_headed all d h s)
with_all_headed all _ _ s = s
