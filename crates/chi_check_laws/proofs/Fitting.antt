-- Private to proofs. Functions and processes are made in the order of their headers, with the types of these.
use Rattle.std.proofs.Common.{◌≡◌, false, List, [], ◌∷◌, ◌++◌, length, Option, Some, None, refl, sym, ap, subst, ◌∙◌, arith, append_assoc, append-nil}
use Rattle.std.specs.Prelude.{option_map, IsTrue}
use Rattle.std.specs.Option.{option_and_then}
use Rattle.chi_tree.specs.declared.definition.Definition.{Definition}
use Rattle.chi_tree.specs.declared.definition.Definition.TheVariants as definition
use Rattle.chi_tree.specs.declared.statement.Step.{Step}
use Rattle.chi_tree.specs.declared.type_tree.Formal.{Formal}
use Rattle.chi_tree.specs.declared.type_tree.Name.{Name}
use Rattle.chi_types.specs.declared.ty.Ty.{Ty}
use Rattle.chi_core.specs.declared.program.FuncDef.{FuncDef}
use Rattle.chi_core.specs.declared.program.ProcDef.{ProcDef}
use Rattle.chi_core.specs.declared.statement.CStat.{CStat}
use Rattle.chi_check_types.specs.Names.{Names}
use Rattle.chi_check.specs.Below.chi_check_stat_lines.specs.declared.state.Binder.TheVariants as binder
use Rattle.chi_check.specs.Below.chi_check_stat_lines.specs.declared.state.State.{State}
use Rattle.chi_check.specs.Below.chi_check_stat_lines.specs.Stated.{in_turn}
use Rattle.chi_check.specs.Below.chi_check_stat_lines.specs.States.{with_variable}
use Rattle.chi_check.specs.Below.chi_check_stat.specs.Statements.{stating_all}
use Rattle.chi_check.specs.Below.chi_check_headers.specs.declared.header.Header.{Header}
use Rattle.chi_check.specs.Below.chi_check_headers.specs.Headers.{all_types}
use Rattle.chi_check.specs.Bodies.{formals_bound, body_in, function, process, result_of, exit_of, function_made, process_made, function_of, process_of, functions_of, processes_of}
use Rattle.chi_check_laws.specs.Whole.{steps_are_whole}
use Rattle.chi_check_laws.proofs.Homes.{body_names}
use Rattle.chi_check_laws.proofs.WholeFills.{statements_grow}
use Rattle.chi_check_laws.specs.CheckedBodies.{BodyIsWhole, EachIsWhole}
use Rattle.chi_check_laws.proofs.Positions.{joined_parts, both_parts, map_parts, some_same}

-- ---- its parameters are its first slots

pub begun_slots : (formals : List Formal) (types : List (Option Ty)) (params : List Ty) (s : State) → length types ≡ length formals → all_types types ≡ Some params → (in_turn (formals_bound formals types) s).next.slots ≡ s.slots ++ params
begun_slots [] [] params s l e = sym (append-nil s.slots) ∙ ap (λ params. s.slots ++ params) (some_same [] params e)
begun_slots [] (t ∷ types) params s l e = absurd (omega arith)
begun_slots (f ∷ formals) [] params s l e = absurd (omega arith)
begun_slots (f ∷ formals) (None ∷ types) params s l e = absurd (cc)
begun_slots (f ∷ formals) (Some t ∷ types) params s l e =
    let parts = map_parts (λ more. t ∷ more) (all_types types) params e in
    begun_slots formals types parts.0 (with_variable binder.Variable f.name (Some t) s) (omega (arith, l)) parts.1 ∙ append_assoc s.slots (t ∷ []) parts.0 ∙ ap (λ params. s.slots ++ params) parts.2

-- more slots than these
abbrev pub More : List Ty → List Ty → Type 0
More slots longer = (others : List Ty) × (longer ≡ slots ++ others)

pub slots_begin : (h : Header) (formals : List Formal) (steps : List Step) (names : Names) (body : List CStat) (slots params : List Ty) → IsTrue (steps_are_whole steps) → (body_in h formals steps names).made ≡ Some (body, slots)
    → length h.formals ≡ length formals → all_types h.formals ≡ Some params → More params slots
slots_begin h formals steps names body slots params whole made l e =
    let start : State = record { names = names; slots = [] } in
    let bound = in_turn (formals_bound formals h.formals) start in
    let stated = stating_all h.home false steps bound.next in
    let parts = both_parts {C = List CStat × List Ty} (λ formals b. (b, stated.next.slots)) bound.made stated.made (body, slots) made in
    let left : stated.next.slots ≡ slots = ap (λ (made : List CStat × List Ty). made.1) parts.4 in
    let begins : bound.next.slots ≡ params = begun_slots formals h.formals params start l e in
    let grown = statements_grow h.home false steps bound.next whole in
    (grown.slots.0, sym left ∙ grown.slots.1 ∙ ap (λ slots. slots ++ grown.slots.0) begins)

-- ---- functions and processes

pub record FunctionFits (name : Name) (formals : List Formal) (steps : List Step) (h : Header) (names : Names) (f : FuncDef) : Type 0 where
  pub params : List Ty
  pub types : all_types h.formals ≡ Some params
  pub result : result_of h.home ≡ Some f.result
  pub called : f.name ≡ name.text
  pub arity : f.arity ≡ length params
  pub whole : IsTrue (steps_are_whole steps)
  pub body : (body_in h formals steps names).made ≡ Some (f.body, f.slots)

pub record ProcessFits (name : Name) (formals : List Formal) (steps : List Step) (h : Header) (names : Names) (d : ProcDef) : Type 0 where
  pub types : all_types h.formals ≡ Some d.params
  pub own : exit_of h.home ≡ Some d.exit
  pub called : d.name ≡ name.text
  pub whole : IsTrue (steps_are_whole steps)
  pub body : (body_in h formals steps names).made ≡ Some (d.body, d.slots)

three_parts : {A B C D : Type 0} (f : A → B → C → D) (a : Option A) (b : Option B) (c : Option C) (z : D) → option_and_then (λ x. option_and_then (λ y. option_map (f x y) c) b) a ≡ Some z
    → (x : A) × (y : B) × (w : C) × (a ≡ Some x) × (b ≡ Some y) × (c ≡ Some w) × (f x y w ≡ z)
three_parts f None b c z e = absurd (cc)
three_parts f (Some x) None c z e = absurd (cc)
three_parts f (Some x) (Some y) None z e = absurd (cc)
three_parts f (Some x) (Some y) (Some w) z e =
    let same : f x y w ≡ z = cc in
    (x, y, w, refl, refl, refl, same)

abbrev pub FitsOne : Names → Definition → Option Header → List FuncDef → Type 0
FitsOne names (definition.Func place tree name formals steps) (Some h) x = (f : FuncDef) × (f ∷ [] ≡ x) × FunctionFits name formals steps h names f
FitsOne names _ _ x = [] ≡ x

abbrev pub Fits : Names → List Definition → List (Option Header) → List FuncDef → Type 0
Fits names (d ∷ ds) (h ∷ hs) fs = (x : List FuncDef) × (more : List FuncDef) × FitsOne names d h x × Fits names ds hs more × (x ++ more ≡ fs)
Fits names _ _ fs = [] ≡ fs

function_fits : (name : Name) (formals : List Formal) (steps : List Step) (h : Header) (names : Names) (x : List FuncDef) → IsTrue (steps_are_whole steps)
    → function_made name.text h (body_in h formals steps names).made ≡ Some x → (f : FuncDef) × (f ∷ [] ≡ x) × FunctionFits name formals steps h names f
function_fits name formals steps h names x w m =
    let parts = three_parts (function name.text) (all_types h.formals) (result_of h.home) (body_in h formals steps names).made x m in (
      record { name = name.text; arity = length parts.0; result = parts.1; slots = parts.2.1; body = parts.2.0 },
      parts.6,
      record { params = parts.0; types = parts.3; result = parts.4; called = refl; arity = refl; whole = w; body = parts.5 },
    )

one_fits : (d : Definition) (h : Option Header) (names : Names) (x : List FuncDef) → BodyIsWhole d → (function_of d h names).made ≡ Some x → FitsOne names d h x
one_fits (definition.Func place tree name formals steps) None names x w m = some_same [] x m
one_fits (definition.Func place tree name formals steps) (Some h) names x w m = function_fits name formals steps h names x w m
one_fits (definition.Proc place tree name formals steps) h names x w m = some_same [] x m
one_fits (definition.Model place tree name formals steps) h names x w m = some_same [] x m
one_fits (definition.Enum place name values) h names x w m = some_same [] x m
one_fits (definition.Const place tree name equals value) h names x w m = some_same [] x m
one_fits (definition.TypeWord place name tree) h names x w m = some_same [] x m
one_fits (definition.Xper place name steps) h names x w m = some_same [] x m

one_stays : (d : Definition) (h : Option Header) (names : Names) → BodyIsWhole d → (function_of d h names).next ≡ names
one_stays (definition.Func place tree name formals steps) None names w = refl
one_stays (definition.Func place tree name formals steps) (Some h) names w = body_names h formals steps names w
one_stays (definition.Proc place tree name formals steps) h names w = refl
one_stays (definition.Model place tree name formals steps) h names w = refl
one_stays (definition.Enum place name values) h names w = refl
one_stays (definition.Const place tree name equals value) h names w = refl
one_stays (definition.TypeWord place name tree) h names w = refl
one_stays (definition.Xper place name steps) h names w = refl

pub functions_stay : (ds : List Definition) (hs : List (Option Header)) (names : Names) → EachIsWhole ds → (in_turn (functions_of ds hs) names).next ≡ names
functions_stay [] hs names w = refl
functions_stay (d ∷ ds) [] names w = refl
functions_stay (d ∷ ds) (h ∷ hs) names w = functions_stay ds hs (function_of d h names).next w.1 ∙ one_stays d h names w.0

pub functions_fit : (ds : List Definition) (hs : List (Option Header)) (names : Names) (fs : List FuncDef) → EachIsWhole ds → (in_turn (functions_of ds hs) names).made ≡ Some fs → Fits names ds hs fs
functions_fit [] hs names fs w m = some_same [] fs m
functions_fit (d ∷ ds) [] names fs w m = some_same [] fs m
functions_fit (d ∷ ds) (h ∷ hs) names fs w m =
    let first = function_of d h names in
    let parts = joined_parts first.made (in_turn (functions_of ds hs) first.next).made fs m in
    let rest = functions_fit ds hs first.next parts.1 w.1 parts.3 in
    (parts.0, parts.1, one_fits d h names parts.0 w.0 parts.2, subst (λ names. Fits names ds hs parts.1) (one_stays d h names w.0) rest, parts.4)

-- ---- the same of processes and models

abbrev pub RunsOne : Names → Definition → Option Header → List ProcDef → Type 0
RunsOne names (definition.Proc place tree name formals steps) (Some h) x = (d : ProcDef) × (d ∷ [] ≡ x) × ProcessFits name formals steps h names d
RunsOne names (definition.Model place tree name formals steps) (Some h) x = (d : ProcDef) × (d ∷ [] ≡ x) × ProcessFits name formals steps h names d
RunsOne names _ _ x = [] ≡ x

abbrev pub Runs : Names → List Definition → List (Option Header) → List ProcDef → Type 0
Runs names (d ∷ ds) (h ∷ hs) ps = (x : List ProcDef) × (more : List ProcDef) × RunsOne names d h x × Runs names ds hs more × (x ++ more ≡ ps)
Runs names _ _ ps = [] ≡ ps

process_fits : (name : Name) (formals : List Formal) (steps : List Step) (h : Header) (names : Names) (x : List ProcDef) → IsTrue (steps_are_whole steps)
    → process_made name.text h (body_in h formals steps names).made ≡ Some x → (d : ProcDef) × (d ∷ [] ≡ x) × ProcessFits name formals steps h names d
process_fits name formals steps h names x w m =
    let parts = three_parts (process name.text) (all_types h.formals) (exit_of h.home) (body_in h formals steps names).made x m in (
      record { name = name.text; params = parts.0; exit = parts.1; slots = parts.2.1; body = parts.2.0 },
      parts.6,
      record { types = parts.3; own = parts.4; called = refl; whole = w; body = parts.5 },
    )

one_runs : (d : Definition) (h : Option Header) (names : Names) (x : List ProcDef) → BodyIsWhole d → (process_of d h names).made ≡ Some x → RunsOne names d h x
one_runs (definition.Proc place tree name formals steps) None names x w m = some_same [] x m
one_runs (definition.Proc place tree name formals steps) (Some h) names x w m = process_fits name formals steps h names x w m
one_runs (definition.Model place tree name formals steps) None names x w m = some_same [] x m
one_runs (definition.Model place tree name formals steps) (Some h) names x w m = process_fits name formals steps h names x w m
one_runs (definition.Func place tree name formals steps) h names x w m = some_same [] x m
one_runs (definition.Enum place name values) h names x w m = some_same [] x m
one_runs (definition.Const place tree name equals value) h names x w m = some_same [] x m
one_runs (definition.TypeWord place name tree) h names x w m = some_same [] x m
one_runs (definition.Xper place name steps) h names x w m = some_same [] x m

one_remains : (d : Definition) (h : Option Header) (names : Names) → BodyIsWhole d → (process_of d h names).next ≡ names
one_remains (definition.Proc place tree name formals steps) None names w = refl
one_remains (definition.Proc place tree name formals steps) (Some h) names w = body_names h formals steps names w
one_remains (definition.Model place tree name formals steps) None names w = refl
one_remains (definition.Model place tree name formals steps) (Some h) names w = body_names h formals steps names w
one_remains (definition.Func place tree name formals steps) h names w = refl
one_remains (definition.Enum place name values) h names w = refl
one_remains (definition.Const place tree name equals value) h names w = refl
one_remains (definition.TypeWord place name tree) h names w = refl
one_remains (definition.Xper place name steps) h names w = refl

pub processes_stay : (ds : List Definition) (hs : List (Option Header)) (names : Names) → EachIsWhole ds → (in_turn (processes_of ds hs) names).next ≡ names
processes_stay [] hs names w = refl
processes_stay (d ∷ ds) [] names w = refl
processes_stay (d ∷ ds) (h ∷ hs) names w = processes_stay ds hs (process_of d h names).next w.1 ∙ one_remains d h names w.0

pub processes_run : (ds : List Definition) (hs : List (Option Header)) (names : Names) (ps : List ProcDef) → EachIsWhole ds → (in_turn (processes_of ds hs) names).made ≡ Some ps → Runs names ds hs ps
processes_run [] hs names ps w m = some_same [] ps m
processes_run (d ∷ ds) [] names ps w m = some_same [] ps m
processes_run (d ∷ ds) (h ∷ hs) names ps w m =
    let first = process_of d h names in
    let parts = joined_parts first.made (in_turn (processes_of ds hs) first.next).made ps m in
    let rest = processes_run ds hs first.next parts.1 w.1 parts.3 in
    (parts.0, parts.1, one_runs d h names parts.0 w.0 parts.2, subst (λ names. Runs names ds hs parts.1) (one_remains d h names w.0) rest, parts.4)
