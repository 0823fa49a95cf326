-- Private to proofs. Bodies come to something where no rule is broken and their headers have types.
use Rattle.std.proofs.Common.{ℕ, ◌≡◌, false, List, [], ◌∷◌, length, Option, Some, None}
use Rattle.std.specs.Prelude.{option_map}
use Rattle.std.specs.Option.{option_and_then}
use Rattle.chi_tree.specs.declared.definition.Definition.{Definition}
use Rattle.chi_tree.specs.declared.definition.Definition.TheVariants as definition
use Rattle.chi_tree.specs.declared.statement.Step.{Step}
use Rattle.chi_tree.specs.declared.type_tree.Formal.{Formal}
use Rattle.chi_tree.specs.declared.type_tree.Name.{Name}
use Rattle.chi_types.specs.declared.ty.Ty.{Ty}
use Rattle.chi_check_types.specs.declared.known.Known.TheVariants as known
use Rattle.chi_check_types.specs.declared.known.NameKind.TheVariants as kind
use Rattle.chi_check_types.specs.Names.{Names, known_in}
use Rattle.chi_check_expr.proofs.Nodes.{left_nil, right_nil}
use Rattle.chi_check.specs.Below.chi_check_stat_rules.specs.declared.home.ExitType.{ExitType}
use Rattle.chi_check.specs.Below.chi_check_stat_rules.specs.declared.home.ExitType.TheVariants as exit
use Rattle.chi_check.specs.Below.chi_check_stat_rules.specs.declared.home.Home.{Home}
use Rattle.chi_check.specs.Below.chi_check_stat_rules.specs.declared.home.Home.TheVariants as home
use Rattle.chi_check.specs.Below.chi_check_stat_lines.specs.declared.state.Binder.TheVariants as binder
use Rattle.chi_check.specs.Below.chi_check_stat_lines.specs.declared.state.State.{State}
use Rattle.chi_check.specs.Below.chi_check_stat_lines.specs.Stated.{in_turn}
use Rattle.chi_check.specs.Below.chi_check_stat.specs.Statements.{stating_all}
use Rattle.chi_check.specs.Below.chi_check_headers.specs.declared.header.Header.{Header}
use Rattle.chi_check.specs.Below.chi_check_headers.specs.declared.sketch.Named.{Named as Bodies}
use Rattle.chi_check.specs.Below.chi_check_headers.specs.Headers.{all_types, function_known, process_known, model_known, result_in, exit_in, function_headed, process_headed, model_headed}
use Rattle.chi_check.specs.Below.chi_check_headers.specs.Definitions.{with_headed, with_all_headed}
use Rattle.chi_check.specs.Bodies.{formals_bound, body_in, function, process, result_of, exit_known, exit_of, process_made, function_of, process_of, functions_of, processes_of}
use Rattle.chi_check_laws.proofs.Bindings.{binding_keeps, fine_takes, fine_holds}
use Rattle.chi_check_laws.proofs.Definitions.{definition_fine, meant_as}
use Rattle.chi_check_laws.proofs.Entries.{Entries, entries_with, first_entries}
use Rattle.chi_check_laws.proofs.Headers.{HeaderTyped, HeadersTyped}
use Rattle.chi_check_laws.proofs.Lines.{TypedExit, TypedHome}
use Rattle.chi_check_laws.proofs.Shaped.{Fine}
use Rattle.chi_check_laws.proofs.Sketches.{Named, EachNamed}
use Rattle.chi_check_laws.proofs.MadeStatements.{stating_keeps}
use Rattle.chi_check_laws.proofs.ProgramTurns.{Leaves, Keeps, EachKeeps, turns_keep, FineState}
use Rattle.chi_check_laws.proofs.WholeHeaders.{Comes, EachComes, mapped_comes, both_comes}

-- ---- headers that have types

result_typed : (h : Home) → Comes (result_of h) → TypedHome h
result_typed (home.Function result) c = c
result_typed (home.Process own) c = absurd c
result_typed home.Experiment c = absurd c

own_typed : (own : ExitType) → Comes (exit_known own) → TypedExit own
own_typed exit.Nothing c = tt
own_typed exit.Untyped c = absurd c
own_typed (exit.Given t) c = tt

exit_typed : (h : Home) → Comes (exit_of h) → TypedHome h
exit_typed (home.Function result) c = absurd c
exit_typed (home.Process own) c = own_typed own c
exit_typed home.Experiment c = absurd c

pub all_types_come : (types : List (Option Ty)) → EachComes types → Comes (all_types types)
all_types_come [] h = tt
all_types_come (t ∷ types) h = both_comes (λ x xs. x ∷ xs) t (all_types types) h.0 (all_types_come types h.1)

function_fine : (number : ℕ) (params : Option (List Ty)) (result : Option Ty) → Comes params → Comes result → Fine (function_known number params result)
function_fine number None result c d = absurd c
function_fine number (Some params) None c d = absurd d
function_fine number (Some params) (Some result) c d = tt

process_fine : (number : ℕ) (params : Option (List Ty)) (own : ExitType) → Comes params → TypedExit own → Fine (process_known number params own)
process_fine number None own c d = absurd c
process_fine number (Some params) exit.Nothing c d = tt
process_fine number (Some params) exit.Untyped c d = absurd d
process_fine number (Some params) (exit.Given t) c d = tt

model_fine : (number : ℕ) (params : Option (List Ty)) (own : ExitType) → Comes params → TypedExit own → Fine (model_known number params own)
model_fine number None own c d = absurd c
model_fine number (Some params) exit.Nothing c d = tt
model_fine number (Some params) exit.Untyped c d = absurd d
model_fine number (Some params) (exit.Given t) c d = tt

result_comes : (h : Home) → Comes (result_of h) → Comes (result_in h)
result_comes (home.Function result) c = c
result_comes (home.Process own) c = absurd c
result_comes home.Experiment c = absurd c

exit_comes : (h : Home) → Comes (exit_of h) → TypedExit (exit_in h)
exit_comes (home.Function result) c = absurd c
exit_comes (home.Process own) c = own_typed own c
exit_comes home.Experiment c = absurd c

-- ---- the names that bodies see

abbrev pub FineBodies : Bodies → Type 0
FineBodies s = Entries Fine s.names

module _ (all : Names) where
  headed_fine : (d : Definition) (h : Option Header) (s : Bodies) → Named all d → HeaderTyped d h → FineBodies s → FineBodies (with_headed all d h s)
  headed_fine (definition.Func place tree name formals steps) None s n t f = absurd t
  headed_fine (definition.Func place tree name formals steps) (Some h) s n t f =
      definition_fine all kind.Function s.names name (function_headed s.functions h) f (function_fine s.functions (all_types h.formals) (result_in h.home) (all_types_come h.formals t.0) (result_comes h.home t.1))
  headed_fine (definition.Proc place tree name formals steps) None s n t f = absurd t
  headed_fine (definition.Proc place tree name formals steps) (Some h) s n t f =
      definition_fine all kind.Process s.names name (process_headed s.processes h) f (process_fine s.processes (all_types h.formals) (exit_in h.home) (all_types_come h.formals t.0) (exit_comes h.home t.1))
  headed_fine (definition.Model place tree name formals steps) None s n t f = absurd t
  headed_fine (definition.Model place tree name formals steps) (Some h) s n t f =
      definition_fine all kind.Model s.names name (model_headed s.processes h) f (model_fine s.processes (all_types h.formals) (exit_in h.home) (all_types_come h.formals t.0) (exit_comes h.home t.1))
  headed_fine (definition.Xper place name steps) h s n t f = meant_as Fine s.names name (known_in all name.text) (known.Xper n.0) n.1 (entries_with Fine s.names name.text (known.Xper n.0) f tt)
  headed_fine (definition.Enum place name values) h s n t f = f
  headed_fine (definition.Const place tree name equals value) h s n t f = f
  headed_fine (definition.TypeWord place name tree) h s n t f = f

  pub all_headed_fine : (ds : List Definition) (hs : List (Option Header)) (s : Bodies) → EachNamed all ds → HeadersTyped ds hs → FineBodies s → FineBodies (with_all_headed all ds hs s)
  all_headed_fine [] hs s n t f = f
  all_headed_fine (d ∷ ds) [] s n t f = absurd t
  all_headed_fine (d ∷ ds) (h ∷ hs) s n t f = all_headed_fine ds hs (with_headed all d h s) n.1 t.1 (headed_fine d h s n.0 t.0 f)

-- ---- bodies

abbrev pub FineNames : Names → Type 0
FineNames names = Entries Fine names

bound_keep : (fs : List Formal) (types : List (Option Ty)) → EachComes types → EachKeeps FineState (formals_bound fs types)
bound_keep [] types h = tt
bound_keep (f ∷ fs) [] h = tt
bound_keep (f ∷ fs) (None ∷ types) h = absurd h.0
bound_keep (f ∷ fs) (Some t ∷ types) h = (binding_keeps FineState binder.Variable f.name t (fine_takes binder.Variable t), bound_keep fs types h.1)

body_leaves : (h : Header) (formals : List Formal) (steps : List Step) (names : Names) → FineNames names → EachComes h.formals → TypedHome h.home → Leaves FineNames (body_in h formals steps names)
body_leaves h formals steps names f c t e =
    let start : State = record { names = names; slots = [] } in
    let fs = in_turn (formals_bound formals h.formals) start in
    let body = stating_all h.home false steps fs.next in
    let bound = turns_keep FineState (formals_bound formals h.formals) (bound_keep formals h.formals c) start f (left_nil fs.faults body.faults e) in
    let stated = stating_keeps h.home t FineState (fine_holds h.home) false steps fs.next bound.1 (right_nil fs.faults body.faults e) in
    (both_comes (λ formals b. (b, body.next.slots)) fs.made body.made bound.0 stated.0, first_entries Fine (length names) body.next.names stated.1)

three_come : {A B C D : Type 0} (f : A → B → C → D) (a : Option A) (b : Option B) (c : Option C) → Comes a → Comes b → Comes c → Comes (option_and_then (λ x. option_and_then (λ y. option_map (f x y) c) b) a)
three_come f None b c x y z = absurd x
three_come f (Some a) None c x y z = absurd y
three_come f (Some a) (Some b) c x y z = mapped_comes (f a b) c z

function_keeps : (d : Definition) (h : Option Header) → HeaderTyped d h → Keeps FineNames (function_of d h)
function_keeps (definition.Func place tree name formals steps) None t names f e = absurd t
function_keeps (definition.Func place tree name formals steps) (Some h) t names f e =
    let left = body_leaves h formals steps names f t.0 (result_typed h.home t.1) e in
    (three_come (function name.text) (all_types h.formals) (result_of h.home) (body_in h formals steps names).made (all_types_come h.formals t.0) t.1 left.0, left.1)
function_keeps (definition.Proc place tree name formals steps) h t names f e = (tt, f)
function_keeps (definition.Model place tree name formals steps) h t names f e = (tt, f)
function_keeps (definition.Enum place name values) h t names f e = (tt, f)
function_keeps (definition.Const place tree name equals value) h t names f e = (tt, f)
function_keeps (definition.TypeWord place name tree) h t names f e = (tt, f)
function_keeps (definition.Xper place name steps) h t names f e = (tt, f)

running_leaves : (name : Name) (h : Header) (formals : List Formal) (steps : List Step) (names : Names) → FineNames names → EachComes h.formals → Comes (exit_of h.home)
    → (body_in h formals steps names).faults ≡ [] → Comes (process_made name.text h (body_in h formals steps names).made) × FineNames (body_in h formals steps names).next
running_leaves name h formals steps names f c t e =
    let left = body_leaves h formals steps names f c (exit_typed h.home t) e in
    (three_come (process name.text) (all_types h.formals) (exit_of h.home) (body_in h formals steps names).made (all_types_come h.formals c) t left.0, left.1)

process_keeps : (d : Definition) (h : Option Header) → HeaderTyped d h → Keeps FineNames (process_of d h)
process_keeps (definition.Proc place tree name formals steps) None t names f e = absurd t
process_keeps (definition.Proc place tree name formals steps) (Some h) t names f e = running_leaves name h formals steps names f t.0 t.1 e
process_keeps (definition.Model place tree name formals steps) None t names f e = absurd t
process_keeps (definition.Model place tree name formals steps) (Some h) t names f e = running_leaves name h formals steps names f t.0 t.1 e
process_keeps (definition.Func place tree name formals steps) h t names f e = (tt, f)
process_keeps (definition.Enum place name values) h t names f e = (tt, f)
process_keeps (definition.Const place tree name equals value) h t names f e = (tt, f)
process_keeps (definition.TypeWord place name tree) h t names f e = (tt, f)
process_keeps (definition.Xper place name steps) h t names f e = (tt, f)

each_function : (ds : List Definition) (hs : List (Option Header)) → HeadersTyped ds hs → EachKeeps FineNames (functions_of ds hs)
each_function [] hs t = tt
each_function (d ∷ ds) [] t = absurd t
each_function (d ∷ ds) (h ∷ hs) t = (function_keeps d h t.0, each_function ds hs t.1)

each_process : (ds : List Definition) (hs : List (Option Header)) → HeadersTyped ds hs → EachKeeps FineNames (processes_of ds hs)
each_process [] hs t = tt
each_process (d ∷ ds) [] t = absurd t
each_process (d ∷ ds) (h ∷ hs) t = (process_keeps d h t.0, each_process ds hs t.1)

pub functions_keep : (ds : List Definition) (hs : List (Option Header)) → HeadersTyped ds hs → Keeps FineNames (in_turn (functions_of ds hs))
functions_keep ds hs t = turns_keep FineNames (functions_of ds hs) (each_function ds hs t)

pub processes_keep : (ds : List Definition) (hs : List (Option Header)) → HeadersTyped ds hs → Keeps FineNames (in_turn (processes_of ds hs))
processes_keep ds hs t = turns_keep FineNames (processes_of ds hs) (each_process ds hs t)
