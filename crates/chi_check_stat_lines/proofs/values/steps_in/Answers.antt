use Rattle.std.proofs.Common.{◌≡◌, sym, ◌∙◌, arith}
use Rattle.std.proofs.lemmas.Grind.{common_steps}
use Rattle.chi_check_stat_lines.proofs.Parts.{step_made, step_noted, steps_end_noted}
use Rattle.chi_check_stat_lines.proofs.values.steps_in.Goals as goal

pub loop-step-preserved : goal.loop-step-preserved
loop-step-preserved c =
    let l = c.loop-step in
    let x = c.step-item.result in
    let r = c.in_ok-part.ensures in
    record {
      made = step_made c.args.home.now c.args.scope.now c.args.name c.args.steps.now _ l.part _ l.step-index x l.invariant.made c.loop-step-test.true c.step-item.is r.made;
      noted = step_noted c.args.home.now c.args.scope.now c.args.name c.args.steps.now _ l.kept _ l.part _ l.step-index x l.invariant.noted c.loop-step-test.true c.step-item.is r.made r.noted;
    }

pub returns-clause-noted : goal.returns-clause-noted
returns-clause-noted c =
    let l = c.loop-step in
    sym (l.invariant.noted ∙ steps_end_noted c.args.home.now c.args.scope.now c.args.name c.args.steps.now l.step-index l.part l.kept (omega arith))
