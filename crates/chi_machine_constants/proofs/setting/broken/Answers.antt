use Rattle.std.proofs.Common.{◌≡◌, List, Some, None, sym, ◌∙◌, subst, [], ap}
use Rattle.std.specs.Prelude.{drop}
use Rattle.chi_core.specs.Beginning.{constant_view}
use Rattle.chi_core_frame.specs.declared.stop.Stop.{Stop}
use Rattle.chi_code.specs.declared.instr.Instr.{Instr}
use Rattle.chi_exec.specs.Ends.{EndedAt}
use Rattle.chi_exec_law.specs.Laws.{begun}
use Rattle.chi_exec_law.specs.Machine.{in_expressions, step}
use Rattle.chi_machine_laws.specs.Beginning.{line_from, scene_before}
use Rattle.chi_machine_constants.proofs.Once.{never_spends, has_line, is_broken}
use Rattle.chi_machine_constants.proofs.setting.broken.Goals as goal

pub unreachable-requires : goal.unreachable-requires
unreachable-requires c =
    let code = c.args.code.now in
    let before = c.args.before.now in
    never_spends code c.args.seed before c.args.at c.requires.may
    (subst (λ (why : Stop). EndedAt (step (in_expressions code (scene_before code c.args.seed before))) (begun c.args.at [] constant_view) why) c.in-Spent.is c.requires.ended)

pub unreachable-requires-in-None : goal.unreachable-requires-in-None
unreachable-requires-in-None c =
    let code = c.args.code.now in
    let before = c.args.before.now in
    let f = has_line code c.args.seed before c.args.at c.in-Fault.kind c.requires.may
    (subst (λ (why : Stop). EndedAt (step (in_expressions code (scene_before code c.args.seed before))) (begun c.args.at [] constant_view) why) c.in-Fault.is c.requires.ended) in
    let z : None ≡ Some f.0 = sym c.in-None.is ∙ c.line_from.ensures ∙ ap (λ (l : List Instr). line_from (drop c.args.at l)) c.as_slice.ensures.same ∙ f.1 in
    cc

pub returns : goal.returns
returns c =
    let code = c.args.code.now in
    let before = c.args.before.now in
    is_broken code c.args.seed before c.args.at c.in-Fault.kind c.in-Some.line
    (subst (λ (why : Stop). EndedAt (step (in_expressions code (scene_before code c.args.seed before))) (begun c.args.at [] constant_view) why) c.in-Fault.is c.requires.ended)
    (sym (ap (λ (l : List Instr). line_from (drop c.args.at l)) c.as_slice.ensures.same) ∙ sym c.line_from.ensures ∙ c.in-Some.is)
