-- The broken rules of a program, and its core where there are none.
use Rattle.std.specs.Prelude.{◌≡◌, ℕ, ◌+◌, List, [], ◌∷◌, ◌++◌, map, length, take, Option, Some, None, option_map, Result, Ok, Err}
use Rattle.std.specs.Option.{option_and_then}
use Rattle.chi_token.specs.declared.place.Place.{Place}
use Rattle.chi_tree.specs.declared.definition.Definition.{Definition}
use Rattle.chi_tree.specs.declared.definition.Definition.TheVariants as definition
use Rattle.chi_tree.specs.declared.definition.Program.{Program}
use Rattle.chi_core.specs.declared.program.ConstDef.{ConstDef}
use Rattle.chi_core.specs.declared.program.Core.{Core}
use Rattle.chi_core.specs.declared.program.FuncDef.{FuncDef}
use Rattle.chi_core.specs.declared.program.ProcDef.{ProcDef}
use Rattle.chi_core.specs.declared.experiment.XperDef.{XperDef}
use Rattle.chi_check_types.specs.declared.fault.Fault.{Fault}
use Rattle.chi_check_types.specs.declared.fault.TypeFault.{TypeFault}
use Rattle.chi_check_types.specs.declared.fault.TypeFault.TheVariants.{Broken, NoMemory}
use Rattle.chi_check_types.specs.declared.rules.TheConstants.{MODEL}
use Rattle.chi_check_types.specs.Faults.{fault, first}
use Rattle.chi_check_types.specs.Names.{Names}
use Rattle.chi_check_types.specs.Typed.{Typed, unless, refused}
use Rattle.chi_check_streams.specs.Streams.{with_streams}
use Rattle.chi_check_stat_lines.specs.Stated.{in_turn}
use Rattle.chi_check_headers.specs.declared.sketch.Sketch.{Sketch}
use Rattle.chi_check_headers.specs.declared.sketch.Early.{Early}
use Rattle.chi_check_headers.specs.declared.sketch.Named.{Named}
use Rattle.chi_check_headers.specs.Headers.{header_in, header_faults}
use Rattle.chi_check_headers.specs.Definitions.{sketching, early_defined, with_all_late, with_all_headed}
use Rattle.chi_check.specs.Bodies.{functions_of, processes_of, experiments_of}

abbrev pub no_names : Sketch
no_names = record { all = []; early = []; enumerations = 0; processes = 0; experiments = 0 }

abbrev pub first_early : Names → Early
first_early names = record { names = names; constants = 0 }

abbrev pub first_named : Names → Named
first_named names = record { names = names; functions = 0; processes = 0 }

-- ---- the model that is run: the first, by its place among processes and models

abbrev pub first_model : ℕ → List Definition → Option ℕ
first_model number [] = None
first_model number (definition.Model place tree name formals steps ∷ ds) = Some number
first_model number (definition.Proc place tree name formals steps ∷ ds) = first_model (number + 1) ds
first_model number (definition.Func place tree name formals steps ∷ ds) = first_model number ds
first_model number (definition.Enum place name values ∷ ds) = first_model number ds
first_model number (definition.Const place tree name equals value ∷ ds) = first_model number ds
first_model number (definition.TypeWord place name tree ∷ ds) = first_model number ds
first_model number (definition.Xper place name steps ∷ ds) = first_model number ds

-- a file without a model breaks a rule at its last token
abbrev pub model_rule : Place → Option ℕ → List Fault
model_rule last None = fault MODEL last ∷ []
model_rule last (Some number) = []

-- ---- programs

abbrev pub core : List (List (List ℕ)) → List ConstDef → List FuncDef → List ProcDef → List XperDef → ℕ → Core
core enumerations consts funcs procs xpers model = record { consts = consts; funcs = funcs; procs = procs; model = model; names = record { kinds = enumerations }; xpers = xpers }

abbrev pub core_of : Option (List (List (List ℕ))) → Option (List ConstDef) → Option (List FuncDef) → Option (List ProcDef) → Option (List XperDef) → Option ℕ → Option Core
core_of enumerations consts funcs procs xpers model =
    option_and_then (λ es. option_and_then (λ cs. option_and_then (λ fs. option_and_then (λ ps. option_and_then (λ xs. option_map (core es cs fs ps xs) model) xpers) procs) funcs) consts) enumerations

-- the names of all definitions; then types and constants; then the headers; then the bodies
abbrev pub definitions_checked : List Definition → Place → Typed Core
definitions_checked ds last =
    let sketch = in_turn (map sketching ds) no_names in
    let early = in_turn (map (early_defined sketch.next.all) ds) (first_early sketch.next.early) in
    let late = with_all_late sketch.next.all early.next.names ds in
    let headers = map (header_in late) ds in
    let given = map (λ h. h.given) headers in
    let named = with_all_headed sketch.next.all ds given (first_named (take (length early.next.names) late)) in
    let funcs = in_turn (functions_of ds given) named.names in
    let procs = in_turn (processes_of ds given) funcs.next in
    let xpers = in_turn (experiments_of ds) procs.next in
    let model = first_model 0 ds in
    record {
      faults = sketch.faults ++ early.faults ++ header_faults headers ++ funcs.faults ++ procs.faults ++ xpers.faults ++ model_rule last model;
      made = core_of sketch.made early.made funcs.made procs.made xpers.made model;
    }

-- the broken rules of a program, and what it comes to
unfoldable pub checked : Program → Typed Core
checked tree = definitions_checked (map (λ item. item.definition) tree.items) tree.last

-- The core of a program exactly where no rule is broken, each distribution with its stream; else the first broken rule.
abbrev pub Answers : Result Core TypeFault → Typed Core → Type 0
Answers (Ok core) t = (t.faults ≡ []) × (option_map with_streams t.made ≡ Some core)
Answers (Err (Broken rule place)) t = first t.faults ≡ Some (fault rule place)
Answers (Err NoMemory) t = Unit {0}
