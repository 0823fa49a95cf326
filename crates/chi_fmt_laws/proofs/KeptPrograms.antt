-- What a program comes to is the same with the `;` that are kept.
use Rattle.std.proofs.Common.{◌≡◌, ℕ, ◌+◌, false, List, [], ◌∷◌, ◌++◌, map, length, take, Option, Some, None, refl, ap, ◌∙◌}
use Rattle.std.specs.Prelude.{option_map}
use Rattle.chi_token.specs.declared.place.Place.{Place}
use Rattle.chi_tree.specs.declared.definition.Definition.{Definition}
use Rattle.chi_tree.specs.declared.definition.Definition.TheVariants as definition
use Rattle.chi_tree.specs.declared.definition.Item.{Item}
use Rattle.chi_tree.specs.declared.definition.Program.{Program}
use Rattle.chi_tree.specs.declared.statement.Step.{Step}
use Rattle.chi_tree.specs.declared.type_tree.Formal.{Formal}
use Rattle.chi_tree.specs.declared.type_tree.Name.{Name}
use Rattle.chi_core.specs.declared.experiment.XStat.{XStat}
use Rattle.chi_core.specs.declared.experiment.XperDef.{XperDef}
use Rattle.chi_core.specs.declared.program.ConstDef.{ConstDef}
use Rattle.chi_core.specs.declared.program.Core.{Core}
use Rattle.chi_core.specs.declared.program.FuncDef.{FuncDef}
use Rattle.chi_core.specs.declared.program.ProcDef.{ProcDef}
use Rattle.chi_core.specs.declared.statement.CStat.{CStat}
use Rattle.chi_types.specs.declared.ty.Ty.{Ty}
use Rattle.chi_check_types.specs.Names.{Names}
use Rattle.chi_check_types.specs.Typed.{Typed}
use Rattle.chi_check_program_places.specs.Below.chi_check_stat_lines.specs.declared.state.State.{State}
use Rattle.chi_check_program_places.specs.Below.chi_check_stat_lines.specs.Stated.{Stated, Turn, in_turn}
use Rattle.chi_check_program_places.specs.Below.chi_check_headers.specs.declared.header.Header.{Header}
use Rattle.chi_check_program_places.specs.Below.chi_check_headers.specs.declared.sketch.Sketch.{Sketch}
use Rattle.chi_check_program_places.specs.Below.chi_check_headers.specs.declared.sketch.Early.{Early}
use Rattle.chi_check_program_places.specs.Below.chi_check_headers.specs.declared.sketch.Named.{Named}
use Rattle.chi_check_program_places.specs.Below.chi_check_headers.specs.Headers.{Found, header_in, header_faults}
use Rattle.chi_check_program_places.specs.Below.chi_check_headers.specs.Definitions.{sketching, early_defined, late_name, with_late, with_all_late, with_headed, with_all_headed}
use Rattle.chi_check_program_places.specs.Below.chi_check.specs.Bodies.{formals_bound, body_made, body_in, function_made, process_made, function_defined, process_defined, function_of, process_of, functions_of, processes_of, experiment, experiment_defined, experiment_of}
use Rattle.chi_check_program_places.specs.Below.chi_check.specs.Programs.{no_names, first_early, first_named, first_model, model_rule, core_of, definitions_checked, checked}
use Rattle.chi_fmt.specs.Kept.{kept_block, kept_definition, kept_item, kept}
use Rattle.chi_fmt_laws.proofs.KeptStatements.{stating-kept}
use Rattle.chi_fmt_laws.proofs.KeptTrials.{trying-all-kept}

-- ---- bodies

body-kept : (h : Header) (fs : List Formal) (steps : List Step) (names : Names) → body_in h fs (kept_block steps) names ≡ body_in h fs steps names
body-kept h fs steps names =
    let bound = in_turn (formals_bound fs h.formals) (record { names = names; slots = [] }) in
    let same = stating-kept h.home false steps bound.next in
    λ i. record {
      next = take (length names) (same i).next.names;
      faults = bound.faults ++ (same i).faults;
      made = body_made bound.made (same i).made (same i).next.slots;
    }

function-kept : (name : Name) (h : Header) (fs : List Formal) (steps : List Step) (names : Names) → function_defined name h fs (kept_block steps) names ≡ function_defined name h fs steps names
function-kept name h fs steps names = ap (λ (b : Stated Names (List CStat × List Ty)). record { next = b.next; faults = b.faults; made = function_made name.text h b.made }) (body-kept h fs steps names)

process-kept : (name : Name) (h : Header) (fs : List Formal) (steps : List Step) (names : Names) → process_defined name h fs (kept_block steps) names ≡ process_defined name h fs steps names
process-kept name h fs steps names = ap (λ (b : Stated Names (List CStat × List Ty)). record { next = b.next; faults = b.faults; made = process_made name.text h b.made }) (body-kept h fs steps names)

function-of-kept : (d : Definition) (h : Option Header) → function_of (kept_definition d) h ≡ function_of d h
function-of-kept (definition.Func place t name fs steps) None = refl
function-of-kept (definition.Func place t name fs steps) (Some h) = λ i names. function-kept name h fs steps names i
function-of-kept (definition.Enum place name values) h = refl
function-of-kept (definition.Const place t name equals value) h = refl
function-of-kept (definition.TypeWord place name t) h = refl
function-of-kept (definition.Proc place t name fs steps) h = refl
function-of-kept (definition.Model place t name fs steps) h = refl
function-of-kept (definition.Xper place name steps) h = refl

process-of-kept : (d : Definition) (h : Option Header) → process_of (kept_definition d) h ≡ process_of d h
process-of-kept (definition.Proc place t name fs steps) None = refl
process-of-kept (definition.Proc place t name fs steps) (Some h) = λ i names. process-kept name h fs steps names i
process-of-kept (definition.Model place t name fs steps) None = refl
process-of-kept (definition.Model place t name fs steps) (Some h) = λ i names. process-kept name h fs steps names i
process-of-kept (definition.Enum place name values) h = refl
process-of-kept (definition.Const place t name equals value) h = refl
process-of-kept (definition.TypeWord place name t) h = refl
process-of-kept (definition.Func place t name fs steps) h = refl
process-of-kept (definition.Xper place name steps) h = refl

functions-kept : (ds : List Definition) (hs : List (Option Header)) → functions_of (map kept_definition ds) hs ≡ functions_of ds hs
functions-kept [] [] = refl
functions-kept [] (h ∷ hs) = refl
functions-kept (d ∷ ds) [] = refl
functions-kept (d ∷ ds) (h ∷ hs) = λ i. function-of-kept d h i ∷ functions-kept ds hs i

processes-kept : (ds : List Definition) (hs : List (Option Header)) → processes_of (map kept_definition ds) hs ≡ processes_of ds hs
processes-kept [] [] = refl
processes-kept [] (h ∷ hs) = refl
processes-kept (d ∷ ds) [] = refl
processes-kept (d ∷ ds) (h ∷ hs) = λ i. process-of-kept d h i ∷ processes-kept ds hs i

experiment-kept : (name : Name) (steps : List Step) (names : Names) → experiment_defined name (kept_block steps) names ≡ experiment_defined name steps names
experiment-kept name steps names =
    ap (λ (b : Stated State (List XStat)). record { next = take (length names) b.next.names; faults = b.faults; made = option_map (experiment name.text b.next.slots) b.made })
    (trying-all-kept false steps (record { names = names; slots = [] }))

experiment-of-kept : (d : Definition) → experiment_of (kept_definition d) ≡ experiment_of d
experiment-of-kept (definition.Xper place name steps) = λ i names. experiment-kept name steps names i
experiment-of-kept (definition.Enum place name values) = refl
experiment-of-kept (definition.Const place t name equals value) = refl
experiment-of-kept (definition.TypeWord place name t) = refl
experiment-of-kept (definition.Func place t name fs steps) = refl
experiment-of-kept (definition.Proc place t name fs steps) = refl
experiment-of-kept (definition.Model place t name fs steps) = refl

-- ---- what doesn't look into bodies

-- a function of a definition that its body doesn't change
module _ {A : Type 0} (f : Definition → A) (same : (d : Definition) → f (kept_definition d) ≡ f d) where
  each-kept : (ds : List Definition) → map f (map kept_definition ds) ≡ map f ds
  each-kept [] = refl
  each-kept (d ∷ ds) = λ i. same d i ∷ each-kept ds i

sketching-kept : (d : Definition) → sketching (kept_definition d) ≡ sketching d
sketching-kept (definition.Enum place name values) = refl
sketching-kept (definition.Const place t name equals value) = refl
sketching-kept (definition.TypeWord place name t) = refl
sketching-kept (definition.Func place t name fs steps) = refl
sketching-kept (definition.Proc place t name fs steps) = refl
sketching-kept (definition.Model place t name fs steps) = refl
sketching-kept (definition.Xper place name steps) = refl

early-kept : (all : Names) (d : Definition) → early_defined all (kept_definition d) ≡ early_defined all d
early-kept all (definition.Enum place name values) = refl
early-kept all (definition.Const place t name equals value) = refl
early-kept all (definition.TypeWord place name t) = refl
early-kept all (definition.Func place t name fs steps) = refl
early-kept all (definition.Proc place t name fs steps) = refl
early-kept all (definition.Model place t name fs steps) = refl
early-kept all (definition.Xper place name steps) = refl

header-kept : (names : Names) (d : Definition) → header_in names (kept_definition d) ≡ header_in names d
header-kept names (definition.Enum place name values) = refl
header-kept names (definition.Const place t name equals value) = refl
header-kept names (definition.TypeWord place name t) = refl
header-kept names (definition.Func place t name fs steps) = refl
header-kept names (definition.Proc place t name fs steps) = refl
header-kept names (definition.Model place t name fs steps) = refl
header-kept names (definition.Xper place name steps) = refl

late-name-kept : (d : Definition) → late_name (kept_definition d) ≡ late_name d
late-name-kept (definition.Enum place name values) = refl
late-name-kept (definition.Const place t name equals value) = refl
late-name-kept (definition.TypeWord place name t) = refl
late-name-kept (definition.Func place t name fs steps) = refl
late-name-kept (definition.Proc place t name fs steps) = refl
late-name-kept (definition.Model place t name fs steps) = refl
late-name-kept (definition.Xper place name steps) = refl

late-kept : (all names : Names) (ds : List Definition) → with_all_late all names (map kept_definition ds) ≡ with_all_late all names ds
late-kept all names [] = refl
late-kept all names (d ∷ ds) =
    ap (λ o. with_all_late all (with_late all names o) (map kept_definition ds)) (late-name-kept d) ∙ late-kept all (with_late all names (late_name d)) ds

headed-kept : (all : Names) (d : Definition) (h : Option Header) (s : Named) → with_headed all (kept_definition d) h s ≡ with_headed all d h s
headed-kept all (definition.Func place t name fs steps) None s = refl
headed-kept all (definition.Func place t name fs steps) (Some h) s = refl
headed-kept all (definition.Proc place t name fs steps) None s = refl
headed-kept all (definition.Proc place t name fs steps) (Some h) s = refl
headed-kept all (definition.Model place t name fs steps) None s = refl
headed-kept all (definition.Model place t name fs steps) (Some h) s = refl
headed-kept all (definition.Xper place name steps) h s = refl
headed-kept all (definition.Enum place name values) h s = refl
headed-kept all (definition.Const place t name equals value) h s = refl
headed-kept all (definition.TypeWord place name t) h s = refl

all-headed-kept : (all : Names) (ds : List Definition) (hs : List (Option Header)) (s : Named) → with_all_headed all (map kept_definition ds) hs s ≡ with_all_headed all ds hs s
all-headed-kept all [] [] s = refl
all-headed-kept all [] (h ∷ hs) s = refl
all-headed-kept all (d ∷ ds) [] s = refl
all-headed-kept all (d ∷ ds) (h ∷ hs) s = ap (with_all_headed all (map kept_definition ds) hs) (headed-kept all d h s) ∙ all-headed-kept all ds hs (with_headed all d h s)

model-kept : (number : ℕ) (ds : List Definition) → first_model number (map kept_definition ds) ≡ first_model number ds
model-kept number [] = refl
model-kept number (definition.Model place t name fs steps ∷ ds) = refl
model-kept number (definition.Proc place t name fs steps ∷ ds) = model-kept (number + 1) ds
model-kept number (definition.Func place t name fs steps ∷ ds) = model-kept number ds
model-kept number (definition.Enum place name values ∷ ds) = model-kept number ds
model-kept number (definition.Const place t name equals value ∷ ds) = model-kept number ds
model-kept number (definition.TypeWord place name t ∷ ds) = model-kept number ds
model-kept number (definition.Xper place name steps ∷ ds) = model-kept number ds

-- ---- programs

-- what a program comes to, of what each pass over its definitions is
abbrev passed : List (Turn Sketch (List (List ℕ))) → (Names → List (Turn Early ConstDef)) → (Names → Names → Names) → (Names → List (Found (Option Header))) → (Names → List (Option Header) → Named → Named)
    → (List (Option Header) → List (Turn Names FuncDef)) → (List (Option Header) → List (Turn Names ProcDef)) → List (Turn Names XperDef) → Option ℕ → Place → Typed Core
passed sketches earlies lates headings heads functions processes experiments model last =
    let sketch = in_turn sketches no_names in
    let early = in_turn (earlies sketch.next.all) (first_early sketch.next.early) in
    let late = lates sketch.next.all early.next.names in
    let headers = headings late in
    let given = map (λ h. h.given) headers in
    let named = heads sketch.next.all given (first_named (take (length early.next.names) late)) in
    let funcs = in_turn (functions given) named.names in
    let procs = in_turn (processes given) funcs.next in
    let xpers = in_turn experiments procs.next in
    record {
      faults = sketch.faults ++ early.faults ++ header_faults headers ++ funcs.faults ++ procs.faults ++ xpers.faults ++ model_rule last model;
      made = core_of sketch.made early.made funcs.made procs.made xpers.made model;
    }

definitions-kept : (ds : List Definition) (last : Place) → definitions_checked (map kept_definition ds) last ≡ definitions_checked ds last
definitions-kept ds last =
    λ i. passed (each-kept sketching sketching-kept ds i) (λ all. each-kept (early_defined all) (early-kept all) ds i) (λ all names. late-kept all names ds i) (λ late. each-kept (header_in late) (header-kept late) ds i)
    (λ all hs s. all-headed-kept all ds hs s i) (λ hs. functions-kept ds hs i) (λ hs. processes-kept ds hs i) (each-kept experiment_of experiment-of-kept ds i) (model-kept 0 ds i) last

definitions-of : (items : List Item) → map (λ item. item.definition) (map kept_item items) ≡ map kept_definition (map (λ item. item.definition) items)
definitions-of [] = refl
definitions-of (item ∷ items) = ap (λ ds. kept_definition item.definition ∷ ds) (definitions-of items)

pub kept-checked : (program : Program) → checked (kept program) ≡ checked program
unfolding checked
kept-checked program = ap (λ ds. definitions_checked ds program.last) (definitions-of program.items) ∙ definitions-kept (map (λ item. item.definition) program.items) program.last
