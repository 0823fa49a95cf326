-- The bodies of functions, processes, models and experiments, and what these come to.
use Rattle.std.specs.Prelude.{ℕ, false, List, [], ◌∷◌, ◌++◌, length, map, take, Option, Some, None, option_map}
use Rattle.std.specs.Option.{option_and_then}
use Rattle.chi_tree.specs.declared.definition.Definition.{Definition}
use Rattle.chi_tree.specs.declared.definition.Definition.TheVariants as definition
use Rattle.chi_tree.specs.declared.statement.Step.{Step}
use Rattle.chi_tree.specs.declared.type_tree.Formal.{Formal}
use Rattle.chi_tree.specs.declared.type_tree.Name.{Name}
use Rattle.chi_types.specs.declared.ty.Ty.{Ty}
use Rattle.chi_core.specs.declared.program.FuncDef.{FuncDef}
use Rattle.chi_core.specs.declared.program.ProcDef.{ProcDef}
use Rattle.chi_core.specs.declared.experiment.XStat.{XStat}
use Rattle.chi_core.specs.declared.experiment.XperDef.{XperDef}
use Rattle.chi_core.specs.declared.statement.CStat.{CStat}
use Rattle.chi_check_types.specs.Names.{Names}
use Rattle.chi_check_stat_rules.specs.declared.home.ExitType.{ExitType}
use Rattle.chi_check_stat_rules.specs.declared.home.ExitType.TheVariants as exit
use Rattle.chi_check_stat_rules.specs.declared.home.Home.{Home}
use Rattle.chi_check_stat_rules.specs.declared.home.Home.TheVariants as home
use Rattle.chi_check_stat_lines.specs.declared.state.Binder.TheVariants as binder
use Rattle.chi_check_stat_lines.specs.declared.state.State.{State}
use Rattle.chi_check_stat_lines.specs.Stated.{Stated, Turn, both, done, in_turn}
use Rattle.chi_check_stat_lines.specs.States.{binding}
use Rattle.chi_check_stat.specs.Statements.{stating_all}
use Rattle.chi_check_experiments.specs.Experiments.{trying_all}
use Rattle.chi_check_headers.specs.declared.header.Header.{Header}
use Rattle.chi_check_headers.specs.Headers.{all_types}

-- formals in turn, with their types
abbrev pub formals_bound : List Formal → List (Option Ty) → List (Turn State ℕ)
formals_bound (f ∷ fs) (t ∷ types) = binding binder.Variable f.name t ∷ formals_bound fs types
formals_bound _ _ = []

abbrev pub body_made : Option (List ℕ) → Option (List CStat) → List Ty → Option (List CStat × List Ty)
body_made bound body slots = both (λ formals b. (b, slots)) bound body

-- the formals are the first slots; none of the names of a body is visible after it
abbrev pub body_in : Header → List Formal → List Step → Names → Stated Names (List CStat × List Ty)
body_in h formals steps names =
    let fs = in_turn (formals_bound formals h.formals) (record { names = names; slots = [] }) in
    let body = stating_all h.home false steps fs.next in
    record {
      next = take (length names) body.next.names;
      faults = fs.faults ++ body.faults;
      made = body_made fs.made body.made body.next.slots;
    }

abbrev pub function : List ℕ → List Ty → Ty → List CStat × List Ty → List FuncDef
function name params result body = record { name = name; arity = length params; result = result; slots = body.1; body = body.0 } ∷ []

abbrev pub process : List ℕ → List Ty → Option Ty → List CStat × List Ty → List ProcDef
process name params e body = record { name = name; params = params; exit = e; slots = body.1; body = body.0 } ∷ []

-- the result of a function whose header has types
abbrev pub result_of : Home → Option Ty
result_of (home.Function result) = result
result_of (home.Process own) = None
result_of home.Experiment = None

-- the exit type of a process whose header has types, if it has an exit type
abbrev pub exit_known : ExitType → Option (Option Ty)
exit_known exit.Nothing = Some None
exit_known exit.Untyped = None
exit_known (exit.Given t) = Some (Some t)

abbrev pub exit_of : Home → Option (Option Ty)
exit_of (home.Function result) = None
exit_of (home.Process own) = exit_known own
exit_of home.Experiment = None

abbrev pub function_made : List ℕ → Header → Option (List CStat × List Ty) → Option (List FuncDef)
function_made name h body =
    option_and_then (λ params. option_and_then (λ r. option_map (function name params r) body) (result_of h.home)) (all_types h.formals)

abbrev pub process_made : List ℕ → Header → Option (List CStat × List Ty) → Option (List ProcDef)
process_made name h body =
    option_and_then (λ params. option_and_then (λ e. option_map (process name params e) body) (exit_of h.home)) (all_types h.formals)

abbrev pub function_defined : Name → Header → List Formal → List Step → Turn Names FuncDef
function_defined name h formals steps names =
    let b = body_in h formals steps names in
    record { next = b.next; faults = b.faults; made = function_made name.text h b.made }

abbrev pub process_defined : Name → Header → List Formal → List Step → Turn Names ProcDef
process_defined name h formals steps names =
    let b = body_in h formals steps names in
    record { next = b.next; faults = b.faults; made = process_made name.text h b.made }

abbrev pub function_of : Definition → Option Header → Turn Names FuncDef
function_of (definition.Func place tree name formals steps) (Some h) names = function_defined name h formals steps names
function_of _ _ names = done names

abbrev pub process_of : Definition → Option Header → Turn Names ProcDef
process_of (definition.Proc place tree name formals steps) (Some h) names = process_defined name h formals steps names
process_of (definition.Model place tree name formals steps) (Some h) names = process_defined name h formals steps names
process_of _ _ names = done names

abbrev pub functions_of : List Definition → List (Option Header) → List (Turn Names FuncDef)
functions_of (d ∷ ds) (h ∷ hs) = function_of d h ∷ functions_of ds hs
functions_of _ _ = []

abbrev pub processes_of : List Definition → List (Option Header) → List (Turn Names ProcDef)
processes_of (d ∷ ds) (h ∷ hs) = process_of d h ∷ processes_of ds hs
processes_of _ _ = []

-- ---- experiments

abbrev pub experiment : List ℕ → List Ty → List XStat → List XperDef
experiment name slots body = record { name = name; slots = slots; body = body } ∷ []

abbrev pub experiment_defined : Name → List Step → Turn Names XperDef
experiment_defined name steps names =
    let body = trying_all false steps (record { names = names; slots = [] }) in
    record { next = take (length names) body.next.names; faults = body.faults; made = option_map (experiment name.text body.next.slots) body.made }

abbrev pub experiment_of : Definition → Turn Names XperDef
experiment_of (definition.Xper place name steps) names = experiment_defined name steps names
experiment_of _ names = done names

abbrev pub experiments_of : List Definition → List (Turn Names XperDef)
experiments_of ds = map experiment_of ds
