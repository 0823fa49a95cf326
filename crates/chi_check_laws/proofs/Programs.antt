-- Private to proofs. A program comes to a core where no rule is broken.
use Rattle.std.proofs.Common.{ℕ, ◌≡◌, List, [], ◌++◌, map, length, take, Option, Some, None, sym, subst}
use Rattle.std.specs.Prelude.{IsTrue}
use Rattle.chi_token.specs.declared.place.Place.{Place}
use Rattle.chi_tree.specs.declared.definition.Definition.{Definition}
use Rattle.chi_tree.specs.declared.definition.Program.{Program}
use Rattle.chi_core.specs.declared.program.ConstDef.{ConstDef}
use Rattle.chi_core.specs.declared.experiment.XperDef.{XperDef}
use Rattle.chi_core.specs.declared.program.Core.{Core}
use Rattle.chi_core.specs.declared.program.FuncDef.{FuncDef}
use Rattle.chi_core.specs.declared.program.ProcDef.{ProcDef}
use Rattle.chi_check_expr.proofs.Nodes.{left_nil, right_nil, cons_nil}
use Rattle.chi_check.specs.Below.chi_check_stat_lines.specs.Stated.{in_turn}
use Rattle.chi_check.specs.Below.chi_check_headers.specs.Headers.{header_in, header_faults}
use Rattle.chi_check.specs.Below.chi_check_headers.specs.Definitions.{sketching, early_defined, with_all_late, with_all_headed}
use Rattle.chi_check.specs.Bodies.{functions_of, processes_of, experiments_of}
use Rattle.chi_check.specs.Programs.{no_names, first_early, first_named, first_model, model_rule, core_of, definitions_checked, checked}
use Rattle.chi_check_laws.specs.Formals.{headers_are_typed, formals_are_typed}
use Rattle.chi_check_laws.proofs.MadeBodies.{all_headed_fine, functions_keep, processes_keep}
use Rattle.chi_check_laws.proofs.Definitions.{all_early_keep, all_late_continue, all_late_entries, stands_for_one}
use Rattle.chi_check_laws.proofs.Entries.{Entries, entries_so}
use Rattle.chi_check_laws.proofs.Headers.{StandsForOne, headers_typed}
use Rattle.chi_check_laws.proofs.Lookups.{first_again}
use Rattle.chi_check_laws.proofs.Shaped.{Fine}
use Rattle.chi_check_laws.proofs.Sketches.{each_named, sketch_keeps}
use Rattle.chi_check_laws.proofs.TrialPrograms.{experiments_keep}
use Rattle.chi_check_laws.proofs.WholeHeaders.{Comes, what_comes}

model_comes : (last : Place) (o : Option ℕ) → model_rule last o ≡ [] → Comes o
model_comes last None e = absurd (cons_nil _ _ e)
model_comes last (Some number) e = tt

core_comes : (es : Option (List (List (List ℕ)))) (cs : Option (List ConstDef)) (fs : Option (List FuncDef)) (ps : Option (List ProcDef)) (xs : Option (List XperDef)) (m : Option ℕ)
    → Comes es → Comes cs → Comes fs → Comes ps → Comes xs → Comes m → Comes (core_of es cs fs ps xs m)
core_comes None cs fs ps xs m a b c d e f = absurd a
core_comes (Some es) None fs ps xs m a b c d e f = absurd b
core_comes (Some es) (Some cs) None ps xs m a b c d e f = absurd c
core_comes (Some es) (Some cs) (Some fs) None xs m a b c d e f = absurd d
core_comes (Some es) (Some cs) (Some fs) (Some ps) None m a b c d e f = absurd e
core_comes (Some es) (Some cs) (Some fs) (Some ps) (Some xs) None a b c d e f = absurd f
core_comes (Some es) (Some cs) (Some fs) (Some ps) (Some xs) (Some m) a b c d e f = tt

pub definitions_whole : (ds : List Definition) (last : Place) → IsTrue (headers_are_typed ds) → (definitions_checked ds last).faults ≡ [] → Comes (definitions_checked ds last).made
definitions_whole ds last typed e =
    let sketch = in_turn (map sketching ds) no_names in
    let early = in_turn (map (early_defined sketch.next.all) ds) (first_early sketch.next.early) in
    let late = with_all_late sketch.next.all early.next.names ds in
    let headers = map (header_in late) ds in
    let given = map (λ h. h.given) headers in
    let named = with_all_headed sketch.next.all ds given (first_named (take (length early.next.names) late)) in
    let funcs = in_turn (functions_of ds given) named.names in
    let procs = in_turn (processes_of ds given) funcs.next in
    let xpers = in_turn (experiments_of ds) procs.next in
    let model = first_model 0 ds in
    let f1 = sketch.faults ++ early.faults in
    let f2 = f1 ++ header_faults headers in
    let f3 = f2 ++ funcs.faults in
    let f4 = f3 ++ procs.faults in
    let f5 = f4 ++ xpers.faults in
    let e5 = left_nil f5 (model_rule last model) e in
    let e4 = left_nil f4 xpers.faults e5 in
    let e3 = left_nil f3 procs.faults e4 in
    let e2 = left_nil f2 funcs.faults e3 in
    let e1 = left_nil f1 (header_faults headers) e2 in
    let unbroken = left_nil sketch.faults early.faults e1 in
    let means = each_named ds no_names unbroken in
    let first = sketch_keeps ds no_names tt unbroken in
    let second = all_early_keep sketch.next.all ds (first_early sketch.next.early) first.1 (right_nil sketch.faults early.faults e1) in
    let stands = all_late_entries StandsForOne tt tt tt (λ number. tt) sketch.next.all early.next.names ds means (entries_so Fine StandsForOne stands_for_one early.next.names second.1) in
    let heads = headers_typed late stands ds typed (right_nil f1 (header_faults headers) e2) in
    let seen = subst (Entries Fine) (sym (first_again early.next.names late (all_late_continue sketch.next.all early.next.names ds))) second.1 in
    let fine = all_headed_fine sketch.next.all ds given (first_named (take (length early.next.names) late)) means heads seen in
    let third = functions_keep ds given heads named.names fine (right_nil f2 funcs.faults e3) in
    let fourth = processes_keep ds given heads funcs.next third.1 (right_nil f3 procs.faults e4) in
    let fifth = experiments_keep ds procs.next fourth.1 (right_nil f4 xpers.faults e5) in
    core_comes sketch.made early.made funcs.made procs.made xpers.made model first.0 second.0 third.0 fourth.0 fifth.0 (model_comes last model (right_nil f5 (model_rule last model) e))

pub program_whole : (tree : Program) → IsTrue (formals_are_typed tree) → (checked tree).faults ≡ [] → (core : Core) × ((checked tree).made ≡ Some core)
unfolding checked
program_whole tree typed e = what_comes (checked tree).made (definitions_whole (map (λ item. item.definition) tree.items) tree.last typed e)
