-- What a program comes to is the same without places, but for its lines.
use Rattle.std.proofs.Common.{◌≡◌, ℕ, ◌+◌, List, [], ◌∷◌, ◌++◌, map, length, take, Option, Some, None, refl, ap, ◌∙◌}
use Rattle.std.specs.Prelude.{option_map}
use Rattle.chi_token.specs.declared.place.Place.{Place}
use Rattle.chi_tree.specs.declared.definition.Definition.{Definition}
use Rattle.chi_tree.specs.declared.definition.Definition.TheVariants as definition
use Rattle.chi_tree.specs.declared.definition.Item.{Item}
use Rattle.chi_tree.specs.declared.definition.Program.{Program}
use Rattle.chi_tree.specs.View.{nowhere}
use Rattle.chi_tree_laws.specs.UnplacedStatements.{unplaced_definition, unplaced_item, unplaced}
use Rattle.chi_core.specs.declared.experiment.XperDef.{XperDef}
use Rattle.chi_core.specs.declared.program.ConstDef.{ConstDef}
use Rattle.chi_core.specs.declared.program.Core.{Core}
use Rattle.chi_core.specs.declared.program.FuncDef.{FuncDef}
use Rattle.chi_core.specs.declared.program.ProcDef.{ProcDef}
use Rattle.chi_check_types.specs.declared.fault.Fault.{Fault}
use Rattle.chi_check_types.specs.Names.{Names}
use Rattle.chi_check_types.specs.Typed.{Typed}
use Rattle.chi_check.specs.Below.chi_check_stat_lines.specs.Stated.{Stated, in_turn}
use Rattle.chi_check.specs.Below.chi_check_headers.specs.declared.header.Header.{Header}
use Rattle.chi_check.specs.Below.chi_check_headers.specs.declared.sketch.Sketch.{Sketch}
use Rattle.chi_check.specs.Below.chi_check_headers.specs.declared.sketch.Early.{Early}
use Rattle.chi_check.specs.Below.chi_check_headers.specs.declared.sketch.Named.{Named}
use Rattle.chi_check.specs.Below.chi_check_headers.specs.Headers.{Found, header_in, header_faults}
use Rattle.chi_check.specs.Below.chi_check_headers.specs.Definitions.{sketching, early_defined, with_all_late, with_all_headed}
use Rattle.chi_check.specs.Bodies.{functions_of, processes_of, experiments_of}
use Rattle.chi_check.specs.Programs.{no_names, first_early, first_named, first_model, model_rule, core_of, definitions_checked, checked}
use Rattle.chi_check_places.specs.UnplacedTyped.{unplaced_faults}
use Rattle.chi_check_places.proofs.Faults.{both-faults, faults-append}
use Rattle.chi_check_program_places.specs.Lineless.{lineless_constant, lineless_function, lineless_process, lineless_experiment, lineless, lineless_typed}
use Rattle.chi_check_program_places.proofs.By.{stated_by, unplaced_stated, in-turn-by, in-turn-unplaced}
use Rattle.chi_check_program_places.proofs.Bodies.{functions-by, processes-by, experiments-by}
use Rattle.chi_check_program_places.proofs.Definitions.{all-sketching, all-early, all-late, all-headed}
use Rattle.chi_check_program_places.proofs.Headers.{unplaced_found, headers-unplaced, header-faults-unplaced, headers-given}

-- ---- the parts of what is checked, each of what those before it come to

abbrev Names_of_values : Type 0
Names_of_values = List (List (List ℕ))

-- the bodies of functions, of processes and models, and of experiments
record Made_bodies : Type 0 where
  funcs : Stated Names (List FuncDef)
  procs : Stated Names (List ProcDef)
  xpers : Stated Names (List XperDef)

abbrev bodies_without : Made_bodies → Made_bodies
bodies_without bodies = record {
  funcs = stated_by (map lineless_function) bodies.funcs;
  procs = stated_by (map lineless_process) bodies.procs;
  xpers = stated_by (map lineless_experiment) bodies.xpers;
}

abbrev whole : Stated Sketch Names_of_values → Stated Early (List ConstDef) → List Fault → Made_bodies → List Fault → Option ℕ → Typed Core
whole sketch early headers bodies models model = record {
  faults = sketch.faults ++ early.faults ++ headers ++ bodies.funcs.faults ++ bodies.procs.faults ++ bodies.xpers.faults ++ models;
  made = core_of sketch.made early.made bodies.funcs.made bodies.procs.made bodies.xpers.made model;
}

abbrev after_bodies : List Definition → Place → Stated Sketch Names_of_values → Stated Early (List ConstDef) → List Fault → Made_bodies → Typed Core
after_bodies ds last sketch early headers bodies = whole sketch early headers bodies (model_rule last (first_model 0 ds)) (first_model 0 ds)

abbrev after_processes : List Definition → Place → Stated Sketch Names_of_values → Stated Early (List ConstDef) → List Fault → Stated Names (List FuncDef) → Stated Names (List ProcDef) → Typed Core
after_processes ds last sketch early headers funcs procs =
    after_bodies ds last sketch early headers (record { funcs = funcs; procs = procs; xpers = in_turn (experiments_of ds) procs.next })

abbrev after_functions : List Definition → Place → Stated Sketch Names_of_values → Stated Early (List ConstDef) → List Fault → List (Option Header) → Stated Names (List FuncDef) → Typed Core
after_functions ds last sketch early headers given funcs = after_processes ds last sketch early headers funcs (in_turn (processes_of ds given) funcs.next)

abbrev after_named : List Definition → Place → Stated Sketch Names_of_values → Stated Early (List ConstDef) → List Fault → List (Option Header) → Named → Typed Core
after_named ds last sketch early headers given named = after_functions ds last sketch early headers given (in_turn (functions_of ds given) named.names)

abbrev after_given : List Definition → Place → Stated Sketch Names_of_values → Stated Early (List ConstDef) → Names → List Fault → List (Option Header) → Typed Core
after_given ds last sketch early late headers given =
    after_named ds last sketch early headers given (with_all_headed sketch.next.all ds given (first_named (take (length early.next.names) late)))

abbrev after_headers : List Definition → Place → Stated Sketch Names_of_values → Stated Early (List ConstDef) → Names → List (Found (Option Header)) → Typed Core
after_headers ds last sketch early late headers = after_given ds last sketch early late (header_faults headers) (map (λ h. h.given) headers)

abbrev after_late : List Definition → Place → Stated Sketch Names_of_values → Stated Early (List ConstDef) → Names → Typed Core
after_late ds last sketch early late = after_headers ds last sketch early late (map (header_in late) ds)

abbrev after_early : List Definition → Place → Stated Sketch Names_of_values → Stated Early (List ConstDef) → Typed Core
after_early ds last sketch early = after_late ds last sketch early (with_all_late sketch.next.all early.next.names ds)

abbrev after_sketch : List Definition → Place → Stated Sketch Names_of_values → Typed Core
after_sketch ds last sketch = after_early ds last sketch (in_turn (map (early_defined sketch.next.all) ds) (first_early sketch.next.early))

-- ---- the model, and the core

model-same : (number : ℕ) (ds : List Definition) → first_model number (map unplaced_definition ds) ≡ first_model number ds
model-same number [] = refl
model-same number (definition.Model place tree name formals steps ∷ ds) = refl
model-same number (definition.Proc place tree name formals steps ∷ ds) = model-same (number + 1) ds
model-same number (definition.Func place tree name formals steps ∷ ds) = model-same number ds
model-same number (definition.Enum place name values ∷ ds) = model-same number ds
model-same number (definition.Const place tree name equals value ∷ ds) = model-same number ds
model-same number (definition.TypeWord place name tree ∷ ds) = model-same number ds
model-same number (definition.Xper place name steps ∷ ds) = model-same number ds

model-unplaced : (last : Place) (model : Option ℕ) → model_rule nowhere model ≡ unplaced_faults (model_rule last model)
model-unplaced last None = refl
model-unplaced last (Some number) = refl

core-same : (es : Option Names_of_values) (cs : Option (List ConstDef)) (fs : Option (List FuncDef)) (ps : Option (List ProcDef)) (xs : Option (List XperDef)) (model : Option ℕ)
    → core_of es (option_map (map lineless_constant) cs) (option_map (map lineless_function) fs) (option_map (map lineless_process) ps) (option_map (map lineless_experiment) xs) model
    ≡ option_map lineless (core_of es cs fs ps xs model)
core-same None cs fs ps xs model = refl
core-same (Some es) None fs ps xs model = refl
core-same (Some es) (Some cs) None ps xs model = refl
core-same (Some es) (Some cs) (Some fs) None xs model = refl
core-same (Some es) (Some cs) (Some fs) (Some ps) None model = refl
core-same (Some es) (Some cs) (Some fs) (Some ps) (Some xs) None = refl
core-same (Some es) (Some cs) (Some fs) (Some ps) (Some xs) (Some model) = refl

whole-unplaced : (sketch : Stated Sketch Names_of_values) (early : Stated Early (List ConstDef)) (headers : List Fault) (bodies : Made_bodies) (models : List Fault) (model : Option ℕ)
    → whole (unplaced_stated sketch) (stated_by (map lineless_constant) early) (unplaced_faults headers) (bodies_without bodies) (unplaced_faults models) model
    ≡ lineless_typed (whole sketch early headers bodies models model)
whole-unplaced sketch early headers bodies models model = λ i. record {
  faults = both-faults (sketch.faults ++ early.faults ++ headers ++ bodies.funcs.faults ++ bodies.procs.faults ++ bodies.xpers.faults) models
      (both-faults (sketch.faults ++ early.faults ++ headers ++ bodies.funcs.faults ++ bodies.procs.faults) bodies.xpers.faults
      (both-faults (sketch.faults ++ early.faults ++ headers ++ bodies.funcs.faults) bodies.procs.faults
      (both-faults (sketch.faults ++ early.faults ++ headers) bodies.funcs.faults
      (both-faults (sketch.faults ++ early.faults) headers (faults-append sketch.faults early.faults) refl) refl) refl) refl) refl i;
  made = core-same sketch.made early.made bodies.funcs.made bodies.procs.made bodies.xpers.made model i;
}

-- ---- programs

bodies-unplaced : (ds : List Definition) (last : Place) (sketch : Stated Sketch Names_of_values) (early : Stated Early (List ConstDef)) (headers : List Fault) (bodies : Made_bodies)
    → after_bodies (map unplaced_definition ds) nowhere (unplaced_stated sketch) (stated_by (map lineless_constant) early) (unplaced_faults headers) (bodies_without bodies)
    ≡ lineless_typed (after_bodies ds last sketch early headers bodies)
bodies-unplaced ds last sketch early headers bodies =
    let model = first_model 0 ds in
    (λ i. whole (unplaced_stated sketch) (stated_by (map lineless_constant) early) (unplaced_faults headers) (bodies_without bodies) (model_rule nowhere (model-same 0 ds i)) (model-same 0 ds i))
    ∙ (λ i. whole (unplaced_stated sketch) (stated_by (map lineless_constant) early) (unplaced_faults headers) (bodies_without bodies) (model-unplaced last model i) model)
    ∙ whole-unplaced sketch early headers bodies (model_rule last model) model

processes-unplaced : (ds : List Definition) (last : Place) (sketch : Stated Sketch Names_of_values) (early : Stated Early (List ConstDef)) (headers : List Fault) (funcs : Stated Names (List FuncDef)) (procs : Stated Names (List ProcDef))
    → after_processes (map unplaced_definition ds) nowhere (unplaced_stated sketch) (stated_by (map lineless_constant) early) (unplaced_faults headers) (stated_by (map lineless_function) funcs) (stated_by (map lineless_process) procs)
    ≡ lineless_typed (after_processes ds last sketch early headers funcs procs)
processes-unplaced ds last sketch early headers funcs procs =
    let same : in_turn (experiments_of (map unplaced_definition ds)) procs.next ≡ stated_by (map lineless_experiment) (in_turn (experiments_of ds) procs.next) =
    ap (λ ts. in_turn ts procs.next) (experiments-by ds) ∙ in-turn-by lineless_experiment (experiments_of ds) procs.next in
    (λ i. after_bodies (map unplaced_definition ds) nowhere (unplaced_stated sketch) (stated_by (map lineless_constant) early) (unplaced_faults headers)
    (record { funcs = stated_by (map lineless_function) funcs; procs = stated_by (map lineless_process) procs; xpers = same i }))
    ∙ bodies-unplaced ds last sketch early headers (record { funcs = funcs; procs = procs; xpers = in_turn (experiments_of ds) procs.next })

functions-unplaced : (ds : List Definition) (last : Place) (sketch : Stated Sketch Names_of_values) (early : Stated Early (List ConstDef)) (headers : List Fault) (given : List (Option Header)) (funcs : Stated Names (List FuncDef))
    → after_functions (map unplaced_definition ds) nowhere (unplaced_stated sketch) (stated_by (map lineless_constant) early) (unplaced_faults headers) given (stated_by (map lineless_function) funcs)
    ≡ lineless_typed (after_functions ds last sketch early headers given funcs)
functions-unplaced ds last sketch early headers given funcs =
    ap (after_processes (map unplaced_definition ds) nowhere (unplaced_stated sketch) (stated_by (map lineless_constant) early) (unplaced_faults headers) (stated_by (map lineless_function) funcs))
    (ap (λ ts. in_turn ts funcs.next) (processes-by ds given) ∙ in-turn-by lineless_process (processes_of ds given) funcs.next)
    ∙ processes-unplaced ds last sketch early headers funcs (in_turn (processes_of ds given) funcs.next)

named-unplaced : (ds : List Definition) (last : Place) (sketch : Stated Sketch Names_of_values) (early : Stated Early (List ConstDef)) (headers : List Fault) (given : List (Option Header)) (named : Named)
    → after_named (map unplaced_definition ds) nowhere (unplaced_stated sketch) (stated_by (map lineless_constant) early) (unplaced_faults headers) given named
    ≡ lineless_typed (after_named ds last sketch early headers given named)
named-unplaced ds last sketch early headers given named =
    ap (after_functions (map unplaced_definition ds) nowhere (unplaced_stated sketch) (stated_by (map lineless_constant) early) (unplaced_faults headers) given)
    (ap (λ ts. in_turn ts named.names) (functions-by ds given) ∙ in-turn-by lineless_function (functions_of ds given) named.names)
    ∙ functions-unplaced ds last sketch early headers given (in_turn (functions_of ds given) named.names)

headers-then : (ds : List Definition) (last : Place) (sketch : Stated Sketch Names_of_values) (early : Stated Early (List ConstDef)) (late : Names) (headers : List (Found (Option Header)))
    → after_headers (map unplaced_definition ds) nowhere (unplaced_stated sketch) (stated_by (map lineless_constant) early) late (map unplaced_found headers)
    ≡ lineless_typed (after_headers ds last sketch early late headers)
headers-then ds last sketch early late headers =
    let given = map (λ h. h.given) headers in
    let start = first_named (take (length early.next.names) late) in
    (λ i. after_given (map unplaced_definition ds) nowhere (unplaced_stated sketch) (stated_by (map lineless_constant) early) late (header-faults-unplaced headers i) (headers-given headers i))
    ∙ ap (after_named (map unplaced_definition ds) nowhere (unplaced_stated sketch) (stated_by (map lineless_constant) early) (unplaced_faults (header_faults headers)) given) (all-headed sketch.next.all ds given start)
    ∙ named-unplaced ds last sketch early (header_faults headers) given (with_all_headed sketch.next.all ds given start)

early-then : (ds : List Definition) (last : Place) (sketch : Stated Sketch Names_of_values) (early : Stated Early (List ConstDef))
    → after_early (map unplaced_definition ds) nowhere (unplaced_stated sketch) (stated_by (map lineless_constant) early) ≡ lineless_typed (after_early ds last sketch early)
early-then ds last sketch early =
    let late = with_all_late sketch.next.all early.next.names ds in
    ap (after_late (map unplaced_definition ds) nowhere (unplaced_stated sketch) (stated_by (map lineless_constant) early)) (all-late sketch.next.all early.next.names ds)
    ∙ ap (after_headers (map unplaced_definition ds) nowhere (unplaced_stated sketch) (stated_by (map lineless_constant) early) late) (headers-unplaced late ds)
    ∙ headers-then ds last sketch early late (map (header_in late) ds)

sketch-then : (ds : List Definition) (last : Place) (sketch : Stated Sketch Names_of_values) → after_sketch (map unplaced_definition ds) nowhere (unplaced_stated sketch) ≡ lineless_typed (after_sketch ds last sketch)
sketch-then ds last sketch =
    let start = first_early sketch.next.early in
    ap (after_early (map unplaced_definition ds) nowhere (unplaced_stated sketch))
    (ap (λ ts. in_turn ts start) (all-early sketch.next.all ds) ∙ in-turn-by lineless_constant (map (early_defined sketch.next.all) ds) start)
    ∙ early-then ds last sketch (in_turn (map (early_defined sketch.next.all) ds) start)

definitions-unplaced : (ds : List Definition) (last : Place) → definitions_checked (map unplaced_definition ds) nowhere ≡ lineless_typed (definitions_checked ds last)
definitions-unplaced ds last =
    ap (after_sketch (map unplaced_definition ds) nowhere) (ap (λ ts. in_turn ts no_names) (all-sketching ds) ∙ in-turn-unplaced (map sketching ds) no_names)
    ∙ sketch-then ds last (in_turn (map sketching ds) no_names)

definitions-of : (items : List Item) → map (λ item. item.definition) (map unplaced_item items) ≡ map unplaced_definition (map (λ item. item.definition) items)
definitions-of [] = refl
definitions-of (item ∷ items) = ap (λ ds. unplaced_definition item.definition ∷ ds) (definitions-of items)

pub checked-unplaced : (program : Program) → checked (unplaced program) ≡ lineless_typed (checked program)
unfolding checked
checked-unplaced program =
    ap (λ ds. definitions_checked ds nowhere) (definitions-of program.items) ∙ definitions-unplaced (map (λ item. item.definition) program.items) program.last
