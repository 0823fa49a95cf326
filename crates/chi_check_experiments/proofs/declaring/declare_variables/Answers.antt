use Rattle.std.proofs.Common.{◌+◌, map, drop, refl, sym, ap, ◌∙◌, arith}
use Rattle.chi_check_stat_lines.specs.Stated.{joined}
use Rattle.chi_check_stat_lines.proofs.Turns.{step_next, step_made, step_noted, end_next, end_made, end_noted}
use Rattle.chi_check_experiments.specs.Experiments.{variable_tried}
use Rattle.chi_check_experiments.proofs.declaring.declare_variables.Goals as goal

pub loop-variable-preserved : goal.loop-variable-preserved
loop-variable-preserved c =
    let l = c.loop-variable in
    let x = c.variable-item.result in
    let r = c.in_ok-made.ensures in
    record {
      next = step_next (map (variable_tried c.args.line c.args.meant.now)) c.args.variables.now _ l.variable-index l.state _ x (variable_tried c.args.line c.args.meant.now x) (map (variable_tried c.args.line c.args.meant.now) (drop (l.variable-index + 1) c.args.variables.now)) l.invariant.next c.loop-variable-test.true c.variable-item.is (refl) r.next;
      made = step_made (map (variable_tried c.args.line c.args.meant.now)) c.args.variables.now _ l.variable-index l.state _ l.all _ x (variable_tried c.args.line c.args.meant.now x) (map (variable_tried c.args.line c.args.meant.now) (drop (l.variable-index + 1) c.args.variables.now)) l.invariant.made c.loop-variable-test.true c.variable-item.is (refl) r.next (c.in_ok-all-2.ensures ∙ ap (joined l.all) r.made);
      noted = step_noted (map (variable_tried c.args.line c.args.meant.now)) c.args.variables.now _ l.variable-index l.state _ l.kept _ x (variable_tried c.args.line c.args.meant.now x) (map (variable_tried c.args.line c.args.meant.now) (drop (l.variable-index + 1) c.args.variables.now)) l.invariant.noted c.loop-variable-test.true c.variable-item.is (refl) r.next r.noted;
    }

pub returns-clause-next : goal.returns-clause-next
returns-clause-next c =
    let l = c.loop-variable in
    sym (l.invariant.next ∙ end_next (map (variable_tried c.args.line c.args.meant.now)) c.args.variables.now l.variable-index l.state (omega arith) refl)

pub returns-clause-made : goal.returns-clause-made
returns-clause-made c =
    let l = c.loop-variable in
    sym (l.invariant.made ∙ end_made (map (variable_tried c.args.line c.args.meant.now)) c.args.variables.now l.variable-index l.state l.all (omega arith) refl)

pub returns-clause-noted : goal.returns-clause-noted
returns-clause-noted c =
    let l = c.loop-variable in
    sym (l.invariant.noted ∙ end_noted (map (variable_tried c.args.line c.args.meant.now)) c.args.variables.now l.variable-index l.state l.kept (omega arith) refl)
