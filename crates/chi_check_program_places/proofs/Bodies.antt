-- What bodies come to is the same without places, but for their lines.
use Rattle.std.proofs.Common.{◌≡◌, ℕ, false, List, [], ◌∷◌, ◌++◌, map, length, take, Option, Some, None, refl, ap, ◌∙◌}
use Rattle.std.specs.Prelude.{option_map}
use Rattle.std.specs.Option.{option_and_then}
use Rattle.chi_tree.specs.declared.definition.Definition.{Definition}
use Rattle.chi_tree.specs.declared.definition.Definition.TheVariants as definition
use Rattle.chi_tree.specs.declared.statement.Step.{Step}
use Rattle.chi_tree.specs.declared.type_tree.Formal.{Formal}
use Rattle.chi_tree.specs.declared.type_tree.Name.{Name}
use Rattle.chi_tree_laws.specs.Unplaced.{unplaced_name, unplaced_formal}
use Rattle.chi_tree_laws.specs.UnplacedStatements.{unplaced_block, unplaced_definition}
use Rattle.chi_types.specs.declared.ty.Ty.{Ty}
use Rattle.chi_core.specs.declared.experiment.XStat.{XStat}
use Rattle.chi_core.specs.declared.statement.CStat.{CStat}
use Rattle.chi_check_types.specs.Names.{Names}
use Rattle.chi_check.specs.Below.chi_check_stat_lines.specs.declared.state.Binder.TheVariants as binder
use Rattle.chi_check.specs.Below.chi_check_stat_lines.specs.declared.state.State.{State}
use Rattle.chi_check.specs.Below.chi_check_stat_lines.specs.Stated.{in_turn}
use Rattle.chi_check.specs.Below.chi_check_stat_lines.specs.States.{binding}
use Rattle.chi_check.specs.Below.chi_check_stat.specs.Statements.{stating_all}
use Rattle.chi_check.specs.Below.chi_check_experiments.specs.Experiments.{trying_all}
use Rattle.chi_check.specs.Below.chi_check_headers.specs.declared.header.Header.{Header}
use Rattle.chi_check.specs.Below.chi_check_headers.specs.Headers.{all_types}
use Rattle.chi_check.specs.Bodies.{formals_bound, body_made, body_in, function, process, result_of, exit_of, function_made, process_made, function_defined, process_defined, function_of, process_of, functions_of, processes_of, experiment, experiment_defined, experiment_of, experiments_of}
use Rattle.chi_check_places.specs.UnplacedTyped.{unplaced_faults}
use Rattle.chi_check_places.proofs.Faults.{faults-append}
use Rattle.chi_check_program_places.specs.Lineless.{lineless_statement, lineless_xstat, lineless_function, lineless_process, lineless_experiment}
use Rattle.chi_check_program_places.proofs.By.{stated_by, turn_by, unplaced_stated, unplaced_turn, both-second, in-turn-unplaced}
use Rattle.chi_check_program_places.proofs.Declarations.{binding-unplaced}
use Rattle.chi_check_program_places.proofs.Places.{formal-is}
use Rattle.chi_check_program_places.proofs.Statements.{stating-all-by}
use Rattle.chi_check_program_places.proofs.Trials.{trying-all-by}

abbrev lineless_body : List CStat × List Ty → List CStat × List Ty
lineless_body b = (map lineless_statement b.0, b.1)

formals-bound : (fs : List Formal) (ts : List (Option Ty)) → formals_bound (map unplaced_formal fs) ts ≡ map unplaced_turn (formals_bound fs ts)
formals-bound [] [] = refl
formals-bound [] (t ∷ ts) = refl
formals-bound (f ∷ fs) [] = refl
formals-bound (f ∷ fs) (t ∷ ts) =
    λ i. (ap (λ (g : Formal). binding binder.Variable g.name t) (formal-is f) ∙ binding-unplaced binder.Variable f.name t) i ∷ formals-bound fs ts i

body-same : (bound : Option (List ℕ)) (b : Option (List CStat)) (slots : List Ty) → body_made bound (option_map (map lineless_statement) b) slots ≡ option_map lineless_body (body_made bound b slots)
body-same bound b slots = both-second lineless_body (map lineless_statement) (λ formals b. (b, slots)) (λ formals b. (b, slots)) (λ formals b. refl) bound b

body-by : (h : Header) (fs : List Formal) (steps : List Step) (names : Names) → body_in h (map unplaced_formal fs) (unplaced_block steps) names ≡ stated_by lineless_body (body_in h fs steps names)
body-by h fs steps names =
    let start : State = record { names = names; slots = [] } in
    let bound = in_turn (formals_bound fs h.formals) start in
    let body = stating_all h.home false steps bound.next in
    let first : in_turn (formals_bound (map unplaced_formal fs) h.formals) start ≡ unplaced_stated bound =
    ap (λ ts. in_turn ts start) (formals-bound fs h.formals) ∙ in-turn-unplaced (formals_bound fs h.formals) start in
    let rest = stating-all-by h.home false steps bound.next in
    (λ i. record {
      next = take (length names) (stating_all h.home false (unplaced_block steps) (first i).next).next.names;
      faults = (first i).faults ++ (stating_all h.home false (unplaced_block steps) (first i).next).faults;
      made = body_made (first i).made (stating_all h.home false (unplaced_block steps) (first i).next).made (stating_all h.home false (unplaced_block steps) (first i).next).next.slots;
    })
    ∙ (λ i. record {
      next = take (length names) (rest i).next.names;
      faults = unplaced_faults bound.faults ++ (rest i).faults;
      made = body_made bound.made (rest i).made (rest i).next.slots;
    })
    ∙ (λ i. record {
      next = take (length names) body.next.names;
      faults = faults-append bound.faults body.faults i;
      made = body-same bound.made body.made body.next.slots i;
    })

module _ {X A : Type 0} (g : A → A) where
  then-same : (k' k : X → Option A) → ((x : X) → k' x ≡ option_map g (k x)) → (o : Option X) → option_and_then k' o ≡ option_map g (option_and_then k o)
  then-same k' k same None = refl
  then-same k' k same (Some x) = same x

function-of-body : (name : List ℕ) (params : List Ty) (r : Ty) (b : Option (List CStat × List Ty))
    → option_map (function name params r) (option_map lineless_body b) ≡ option_map (map lineless_function) (option_map (function name params r) b)
function-of-body name params r None = refl
function-of-body name params r (Some b) = refl

process-of-body : (name : List ℕ) (params : List Ty) (e : Option Ty) (b : Option (List CStat × List Ty))
    → option_map (process name params e) (option_map lineless_body b) ≡ option_map (map lineless_process) (option_map (process name params e) b)
process-of-body name params e None = refl
process-of-body name params e (Some b) = refl

function-same : (name : List ℕ) (h : Header) (b : Option (List CStat × List Ty)) → function_made name h (option_map lineless_body b) ≡ option_map (map lineless_function) (function_made name h b)
function-same name h b =
    then-same (map lineless_function) (λ params. option_and_then (λ r. option_map (function name params r) (option_map lineless_body b)) (result_of h.home))
    (λ params. option_and_then (λ r. option_map (function name params r) b) (result_of h.home))
    (λ params. then-same (map lineless_function) (λ r. option_map (function name params r) (option_map lineless_body b)) (λ r. option_map (function name params r) b) (λ r. function-of-body name params r b) (result_of h.home))
    (all_types h.formals)

process-same : (name : List ℕ) (h : Header) (b : Option (List CStat × List Ty)) → process_made name h (option_map lineless_body b) ≡ option_map (map lineless_process) (process_made name h b)
process-same name h b =
    then-same (map lineless_process) (λ params. option_and_then (λ e. option_map (process name params e) (option_map lineless_body b)) (exit_of h.home))
    (λ params. option_and_then (λ e. option_map (process name params e) b) (exit_of h.home))
    (λ params. then-same (map lineless_process) (λ e. option_map (process name params e) (option_map lineless_body b)) (λ e. option_map (process name params e) b) (λ e. process-of-body name params e b) (exit_of h.home))
    (all_types h.formals)

function-by : (name : Name) (h : Header) (fs : List Formal) (steps : List Step) (names : Names)
    → function_defined (unplaced_name name) h (map unplaced_formal fs) (unplaced_block steps) names ≡ stated_by (map lineless_function) (function_defined name h fs steps names)
function-by name h fs steps names =
    let b = body_in h fs steps names in
    (λ i. record { next = (body-by h fs steps names i).next; faults = (body-by h fs steps names i).faults; made = function_made name.text h (body-by h fs steps names i).made })
    ∙ (λ i. record { next = b.next; faults = unplaced_faults b.faults; made = function-same name.text h b.made i })

process-by : (name : Name) (h : Header) (fs : List Formal) (steps : List Step) (names : Names)
    → process_defined (unplaced_name name) h (map unplaced_formal fs) (unplaced_block steps) names ≡ stated_by (map lineless_process) (process_defined name h fs steps names)
process-by name h fs steps names =
    let b = body_in h fs steps names in
    (λ i. record { next = (body-by h fs steps names i).next; faults = (body-by h fs steps names i).faults; made = process_made name.text h (body-by h fs steps names i).made })
    ∙ (λ i. record { next = b.next; faults = unplaced_faults b.faults; made = process-same name.text h b.made i })

function-of-by : (d : Definition) (h : Option Header) (names : Names) → function_of (unplaced_definition d) h names ≡ stated_by (map lineless_function) (function_of d h names)
function-of-by (definition.Func place tree name fs steps) None names = refl
function-of-by (definition.Func place tree name fs steps) (Some h) names = function-by name h fs steps names
function-of-by (definition.Enum place name values) h names = refl
function-of-by (definition.Const place tree name equals value) h names = refl
function-of-by (definition.TypeWord place name tree) h names = refl
function-of-by (definition.Proc place tree name fs steps) h names = refl
function-of-by (definition.Model place tree name fs steps) h names = refl
function-of-by (definition.Xper place name steps) h names = refl

process-of-by : (d : Definition) (h : Option Header) (names : Names) → process_of (unplaced_definition d) h names ≡ stated_by (map lineless_process) (process_of d h names)
process-of-by (definition.Proc place tree name fs steps) None names = refl
process-of-by (definition.Proc place tree name fs steps) (Some h) names = process-by name h fs steps names
process-of-by (definition.Model place tree name fs steps) None names = refl
process-of-by (definition.Model place tree name fs steps) (Some h) names = process-by name h fs steps names
process-of-by (definition.Enum place name values) h names = refl
process-of-by (definition.Const place tree name equals value) h names = refl
process-of-by (definition.TypeWord place name tree) h names = refl
process-of-by (definition.Func place tree name fs steps) h names = refl
process-of-by (definition.Xper place name steps) h names = refl

pub functions-by : (ds : List Definition) (hs : List (Option Header)) → functions_of (map unplaced_definition ds) hs ≡ map (turn_by lineless_function) (functions_of ds hs)
functions-by [] [] = refl
functions-by [] (h ∷ hs) = refl
functions-by (d ∷ ds) [] = refl
functions-by (d ∷ ds) (h ∷ hs) = λ i. (λ s. function-of-by d h s i) ∷ functions-by ds hs i

pub processes-by : (ds : List Definition) (hs : List (Option Header)) → processes_of (map unplaced_definition ds) hs ≡ map (turn_by lineless_process) (processes_of ds hs)
processes-by [] [] = refl
processes-by [] (h ∷ hs) = refl
processes-by (d ∷ ds) [] = refl
processes-by (d ∷ ds) (h ∷ hs) = λ i. (λ s. process-of-by d h s i) ∷ processes-by ds hs i

-- ---- experiments

experiment-same : (name : List ℕ) (slots : List Ty) (b : Option (List XStat))
    → option_map (experiment name slots) (option_map (map lineless_xstat) b) ≡ option_map (map lineless_experiment) (option_map (experiment name slots) b)
experiment-same name slots None = refl
experiment-same name slots (Some b) = refl

experiment-by : (name : Name) (steps : List Step) (names : Names) → experiment_defined (unplaced_name name) (unplaced_block steps) names ≡ stated_by (map lineless_experiment) (experiment_defined name steps names)
experiment-by name steps names =
    let start : State = record { names = names; slots = [] } in
    let body = trying_all false steps start in
    let same = trying-all-by false steps start in
    (λ i. record { next = take (length names) (same i).next.names; faults = (same i).faults; made = option_map (experiment name.text (same i).next.slots) (same i).made })
    ∙ (λ i. record { next = take (length names) body.next.names; faults = unplaced_faults body.faults; made = experiment-same name.text body.next.slots body.made i })

experiment-of-by : (d : Definition) (names : Names) → experiment_of (unplaced_definition d) names ≡ stated_by (map lineless_experiment) (experiment_of d names)
experiment-of-by (definition.Xper place name steps) names = experiment-by name steps names
experiment-of-by (definition.Enum place name values) names = refl
experiment-of-by (definition.Const place tree name equals value) names = refl
experiment-of-by (definition.TypeWord place name tree) names = refl
experiment-of-by (definition.Func place tree name fs steps) names = refl
experiment-of-by (definition.Proc place tree name fs steps) names = refl
experiment-of-by (definition.Model place tree name fs steps) names = refl

pub experiments-by : (ds : List Definition) → experiments_of (map unplaced_definition ds) ≡ map (turn_by lineless_experiment) (experiments_of ds)
experiments-by [] = refl
experiments-by (d ∷ ds) = λ i. (λ s. experiment-of-by d s i) ∷ experiments-by ds i
