use Rattle.std.proofs.Common.{◌≡◌, rules, w64, FitsSigned}
use Rattle.std.proofs.lemmas.Int.{to_z-of_z}
use Rattle.chi_exec_steps.specs.Views.{state_of}
use Rattle.chi_exec.specs.Evaluations.{scene_in}
use Rattle.chi_exec.proofs.Answers.{scene_found, list_halts, list_values, list_rests, list_variables, list_stops}
use Rattle.chi_exec.proofs.evaluating.Exec.run_expr.Goals as goal

pub run_on-requires-clause-halts : goal.run_on-requires-clause-halts
run_on-requires-clause-halts c =
    let o = c.args.outlook.now in
    let fits : FitsSigned w64 o.clock = search rules in
    list_halts c.args.code.now (scene_in c.args.code.now.names c.args.self.now.constants.items o) c.args.at o.variables o.view (state_of c.set_out.new.m) _ c.requires.ready c.set_out.ensures
    (scene_found c.args.code.now.names c.args.self.now.constants.items o _ _ _ (to_z-of_z w64 o.clock fits) c.as_slice.ensures.value c.as_slice-2.ensures.value)

pub returns-then-run_on-clause-says : goal.returns-then-run_on-clause-says
returns-then-run_on-clause-says c = λ core es r.
    let o = c.args.outlook.now in
    let fits : FitsSigned w64 o.clock = search rules in
    list_values c.args.code.now (scene_in c.args.code.now.names c.args.self.now.constants.items o) c.args.at o.variables o.view (state_of c.set_out.new.m) _ core es c.run_on.new.m _ _ r c.set_out.ensures
    (scene_found c.args.code.now.names c.args.self.now.constants.items o _ _ _ (to_z-of_z w64 o.clock fits) c.as_slice.ensures.value c.as_slice-2.ensures.value)
    (c.run_on.ensures.rests (search rules)) (cc) (cc)

pub returns-then-run_on-clause-kept : goal.returns-then-run_on-clause-kept
returns-then-run_on-clause-kept c = λ _.
    let o = c.args.outlook.now in
    let fits : FitsSigned w64 o.clock = search rules in
    let same : c.run_on.new.m.frame.value.variables ≡ o.variables = list_variables c.args.code.now (scene_in c.args.code.now.names c.args.self.now.constants.items o) c.args.at o.variables o.view
    (state_of c.set_out.new.m) _ c.run_on.new.m c.requires.ready c.set_out.ensures
    (scene_found c.args.code.now.names c.args.self.now.constants.items o _ _ _ (to_z-of_z w64 o.clock fits) c.as_slice.ensures.value c.as_slice-2.ensures.value)
    (c.run_on.ensures.rests (search rules)) in
    cc

pub returns-then-run_on-clause-rests : goal.returns-then-run_on-clause-rests
returns-then-run_on-clause-rests c = λ _ core es r.
    let o = c.args.outlook.now in
    let fits : FitsSigned w64 o.clock = search rules in
    list_rests c.args.code.now (scene_in c.args.code.now.names c.args.self.now.constants.items o) c.args.at o.variables o.view (state_of c.set_out.new.m) _ core es c.run_on.new.m r c.set_out.ensures
    (scene_found c.args.code.now.names c.args.self.now.constants.items o _ _ _ (to_z-of_z w64 o.clock fits) c.as_slice.ensures.value c.as_slice-2.ensures.value)
    (c.run_on.ensures.rests (search rules))

pub returns-else-run_on-clause-says : goal.returns-else-run_on-clause-says
returns-else-run_on-clause-says c = λ core es r.
    let o = c.args.outlook.now in
    let fits : FitsSigned w64 o.clock = search rules in
    c.answer_of.ensures.says _ _
    (list_stops c.args.code.now (scene_in c.args.code.now.names c.args.self.now.constants.items o) c.args.at o.variables o.view (state_of c.set_out.new.m) _ core es c.run_on.new.m.stop r c.set_out.ensures
    (scene_found c.args.code.now.names c.args.self.now.constants.items o _ _ _ (to_z-of_z w64 o.clock fits) c.as_slice.ensures.value c.as_slice-2.ensures.value)
    (c.run_on.ensures.ends (search rules)))
