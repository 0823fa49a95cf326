-- What is known of the names of definitions is the same without places, and so is what constants come to, but for their lines.
use Rattle.std.proofs.Common.{◌≡◌, ℕ, ◌+◌, List, [], ◌∷◌, ◌++◌, map, Option, Some, None, refl, ap, ◌∙◌}
use Rattle.std.specs.Prelude.{option_map}
use Rattle.chi_token.specs.declared.place.Place.{Place}
use Rattle.chi_tree.specs.declared.definition.Definition.{Definition}
use Rattle.chi_tree.specs.declared.definition.Definition.TheVariants as definition
use Rattle.chi_tree.specs.declared.expr.Expr.{Expr}
use Rattle.chi_tree.specs.declared.type_tree.Name.{Name}
use Rattle.chi_tree.specs.declared.type_tree.TypeTree.{TypeTree}
use Rattle.chi_tree.specs.View.{nowhere}
use Rattle.chi_tree_laws.specs.Unplaced.{unplaced_name, unplaced_expr, unplaced_type}
use Rattle.chi_tree_laws.specs.UnplacedStatements.{unplaced_definition}
use Rattle.chi_types.specs.declared.ty.Ty.{Ty}
use Rattle.chi_core.specs.declared.expression.CExpr.{CExpr}
use Rattle.chi_check_types.specs.declared.known.Known.{Known}
use Rattle.chi_check_types.specs.declared.known.Known.TheVariants as known
use Rattle.chi_check_types.specs.declared.known.NameKind.TheVariants as kind
use Rattle.chi_check_types.specs.declared.site.Site.TheVariants as site
use Rattle.chi_check_types.specs.Names.{Names}
use Rattle.chi_check_expr.specs.Typing.{typing}
use Rattle.chi_check.specs.Below.chi_check_stat_rules.specs.Values.{constant_value}
use Rattle.chi_check.specs.Below.chi_check_stat_lines.specs.Stated.{in_turn}
use Rattle.chi_check.specs.Below.chi_check_stat_lines.specs.States.{new_name_rule}
use Rattle.chi_check.specs.Below.chi_check_headers.specs.declared.header.Header.{Header}
use Rattle.chi_check.specs.Below.chi_check_headers.specs.declared.sketch.Sketch.{Sketch}
use Rattle.chi_check.specs.Below.chi_check_headers.specs.declared.sketch.Early.{Early}
use Rattle.chi_check.specs.Below.chi_check_headers.specs.declared.sketch.Named.{Named}
use Rattle.chi_check.specs.Below.chi_check_headers.specs.Headers.{type_in}
use Rattle.chi_check.specs.Below.chi_check_headers.specs.Definitions.{named_early, named_late, values_from, one_enumeration, one_process, one_experiment, enumeration_named, late_named, sketching, with_definition, constant_known, type_known, constant, constant_made, constant_defined, type_defined, early_defined, late_name, with_late, with_all_late, with_headed, with_all_headed}
use Rattle.chi_check_places.specs.UnplacedTyped.{unplaced_faults}
use Rattle.chi_check_places.proofs.Faults.{faults-append, both-faults}
use Rattle.chi_check_places.proofs.Induction.{typing-unplaced}
use Rattle.chi_check_program_places.specs.Lineless.{lineless_constant}
use Rattle.chi_check_program_places.proofs.By.{stated_by, turn_by, unplaced_stated, unplaced_turn, mapped, both-plain, in-turn-unplaced}
use Rattle.chi_check_program_places.proofs.Declarations.{new-name-unplaced}
use Rattle.chi_check_program_places.proofs.Headers.{type-in-unplaced}
use Rattle.chi_check_program_places.proofs.Parts.{constant-unplaced}

-- ---- the names of all definitions

values-unplaced : (enumeration position : ℕ) (values : List Name) → values_from enumeration position (map unplaced_name values) ≡ map unplaced_turn (values_from enumeration position values)
values-unplaced enumeration position [] = refl
values-unplaced enumeration position (value ∷ values) =
    λ i. (λ s. record {
      next = named_early value enumeration (Some position) s;
      faults = new-name-unplaced s.all value i;
      made = Some (value.text ∷ []);
    }) ∷ values-unplaced enumeration (position + 1) values i

enumeration-unplaced : (name : Name) (values : List Name) (s : Sketch) → enumeration_named (unplaced_name name) (map unplaced_name values) s ≡ unplaced_stated (enumeration_named name values s)
enumeration-unplaced name values s =
    let start = named_early name s.enumerations None s in
    let each = in_turn (values_from s.enumerations 0 values) start in
    let same : in_turn (values_from s.enumerations 0 (map unplaced_name values)) start ≡ unplaced_stated each =
    ap (λ ts. in_turn ts start) (values-unplaced s.enumerations 0 values) ∙ in-turn-unplaced (values_from s.enumerations 0 values) start in
    (λ i. record {
      next = one_enumeration (same i).next;
      faults = new-name-unplaced s.all name i ++ (same i).faults;
      made = option_map (λ names. names ∷ []) (same i).made;
    })
    ∙ (λ i. record {
      next = one_enumeration each.next;
      faults = faults-append (new_name_rule s.all name) each.faults i;
      made = option_map (λ names. names ∷ []) each.made;
    })

late-unplaced : (name : Name) (k : Known) (counted : Sketch → Sketch) (s : Sketch) → late_named (unplaced_name name) k counted s ≡ unplaced_stated (late_named name k counted s)
late-unplaced name k counted s = λ i. record {
  next = counted (named_late name k s);
  faults = new-name-unplaced s.all name i;
  made = Some [];
}

sketching-unplaced : (d : Definition) (s : Sketch) → sketching (unplaced_definition d) s ≡ unplaced_stated (sketching d s)
sketching-unplaced (definition.Enum place name values) s = enumeration-unplaced name values s
sketching-unplaced (definition.Const place tree name equals value) s = late-unplaced name (known.Untyped kind.Constant) (λ s. s) s
sketching-unplaced (definition.TypeWord place name tree) s = late-unplaced name (known.Untyped kind.Type) (λ s. s) s
sketching-unplaced (definition.Func place tree name formals steps) s = late-unplaced name (known.Untyped kind.Function) (λ s. s) s
sketching-unplaced (definition.Proc place tree name formals steps) s = late-unplaced name (known.Untyped kind.Process) one_process s
sketching-unplaced (definition.Model place tree name formals steps) s = late-unplaced name (known.Untyped kind.Model) one_process s
sketching-unplaced (definition.Xper place name steps) s = late-unplaced name (known.Xper s.experiments) one_experiment s

pub all-sketching : (ds : List Definition) → map sketching (map unplaced_definition ds) ≡ map unplaced_turn (map sketching ds)
all-sketching [] = refl
all-sketching (d ∷ ds) = λ i. (λ s. sketching-unplaced d s i) ∷ all-sketching ds i

-- ---- types and constants

constant-same : (line : ℕ) (t : Option Ty) (e : Option CExpr) → constant_made 0 t e ≡ option_map (map lineless_constant) (constant_made line t e)
constant-same line t e = both-plain (map lineless_constant) (constant 0) (constant line) (λ t e. refl) t e

constant-by : (all : Names) (place : Place) (tree : TypeTree) (name : Name) (equals : Place) (value : Expr) (s : Early)
    → constant_defined all nowhere (unplaced_type tree) (unplaced_name name) nowhere (unplaced_expr value) s ≡ stated_by (map lineless_constant) (constant_defined all place tree name equals value s)
constant-by all place tree name equals value s =
    let t = type_in site.Constant s.names tree in
    let v = typing site.Constant s.names value in
    let e = constant_value equals v.made t.given in
    let types = type-in-unplaced site.Constant s.names tree in
    let values = typing-unplaced site.Constant s.names value in
    let whole = constant-unplaced equals v.made t.given in
    let next : Early = record { names = with_definition all kind.Constant s.names name (constant_known s.constants t.given); constants = s.constants + 1 } in
    (λ i. record {
      next = record { names = with_definition all kind.Constant s.names name (constant_known s.constants (types i).given); constants = s.constants + 1 };
      faults = (types i).faults ++ (values i).faults ++ (constant_value nowhere (values i).made (types i).given).faults;
      made = constant_made 0 (types i).given (constant_value nowhere (values i).made (types i).given).made;
    })
    ∙ (λ i. record { next = next; faults = unplaced_faults t.faults ++ unplaced_faults v.faults ++ (whole i).faults; made = constant_made 0 t.given (whole i).made })
    ∙ (λ i. record {
      next = next;
      faults = both-faults (t.faults ++ v.faults) e.faults (faults-append t.faults v.faults) refl i;
      made = constant-same place.line t.given e.made i;
    })

type-by : (all : Names) (name : Name) (tree : TypeTree) (s : Early) → type_defined all (unplaced_name name) (unplaced_type tree) s ≡ stated_by (map lineless_constant) (type_defined all name tree s)
type-by all name tree s =
    let t = type_in site.Constant s.names tree in
    let types = type-in-unplaced site.Constant s.names tree in
    (λ i. record {
      next = record { names = with_definition all kind.Type s.names name (type_known (types i).given); constants = s.constants };
      faults = (types i).faults;
      made = option_map (λ t. []) (types i).given;
    })
    ∙ (λ i. record {
      next = record { names = with_definition all kind.Type s.names name (type_known t.given); constants = s.constants };
      faults = unplaced_faults t.faults;
      made = mapped (map lineless_constant) (λ t. []) (λ t. []) (λ t. refl) t.given i;
    })

early-by : (all : Names) (d : Definition) (s : Early) → early_defined all (unplaced_definition d) s ≡ stated_by (map lineless_constant) (early_defined all d s)
early-by all (definition.Const place tree name equals value) s = constant-by all place tree name equals value s
early-by all (definition.TypeWord place name tree) s = type-by all name tree s
early-by all (definition.Enum place name values) s = refl
early-by all (definition.Func place tree name formals steps) s = refl
early-by all (definition.Proc place tree name formals steps) s = refl
early-by all (definition.Model place tree name formals steps) s = refl
early-by all (definition.Xper place name steps) s = refl

pub all-early : (all : Names) (ds : List Definition) → map (early_defined all) (map unplaced_definition ds) ≡ map (turn_by lineless_constant) (map (early_defined all) ds)
all-early all [] = refl
all-early all (d ∷ ds) = λ i. (λ s. early-by all d s i) ∷ all-early all ds i

-- ---- functions, processes, models and experiments

late-same : (all names : Names) (d : Definition) → with_late all names (late_name (unplaced_definition d)) ≡ with_late all names (late_name d)
late-same all names (definition.Func place tree name formals steps) = refl
late-same all names (definition.Proc place tree name formals steps) = refl
late-same all names (definition.Model place tree name formals steps) = refl
late-same all names (definition.Xper place name steps) = refl
late-same all names (definition.Enum place name values) = refl
late-same all names (definition.Const place tree name equals value) = refl
late-same all names (definition.TypeWord place name tree) = refl

pub all-late : (all names : Names) (ds : List Definition) → with_all_late all names (map unplaced_definition ds) ≡ with_all_late all names ds
all-late all names [] = refl
all-late all names (d ∷ ds) = ap (λ names. with_all_late all names (map unplaced_definition ds)) (late-same all names d) ∙ all-late all (with_late all names (late_name d)) ds

headed-same : (all : Names) (d : Definition) (h : Option Header) (s : Named) → with_headed all (unplaced_definition d) h s ≡ with_headed all d h s
headed-same all (definition.Func place tree name formals steps) None s = refl
headed-same all (definition.Func place tree name formals steps) (Some h) s = refl
headed-same all (definition.Proc place tree name formals steps) None s = refl
headed-same all (definition.Proc place tree name formals steps) (Some h) s = refl
headed-same all (definition.Model place tree name formals steps) None s = refl
headed-same all (definition.Model place tree name formals steps) (Some h) s = refl
headed-same all (definition.Xper place name steps) h s = refl
headed-same all (definition.Enum place name values) h s = refl
headed-same all (definition.Const place tree name equals value) h s = refl
headed-same all (definition.TypeWord place name tree) h s = refl

pub all-headed : (all : Names) (ds : List Definition) (hs : List (Option Header)) (s : Named) → with_all_headed all (map unplaced_definition ds) hs s ≡ with_all_headed all ds hs s
all-headed all [] [] s = refl
all-headed all [] (h ∷ hs) s = refl
all-headed all (d ∷ ds) [] s = refl
all-headed all (d ∷ ds) (h ∷ hs) s = ap (with_all_headed all (map unplaced_definition ds) hs) (headed-same all d h s) ∙ all-headed all ds hs (with_headed all d h s)
