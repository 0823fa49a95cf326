use Rattle.std.proofs.Common.{arith}
use Rattle.chi_gen_parts.proofs.AddedExpressions.{add_none}
use Rattle.chi_gen_parts.proofs.AddedTargets.{add_step_next}
use Rattle.chi_gen_parts.proofs.targets.step_indexes.Goals as goal

pub loop-step-init : goal.loop-step-init
loop-step-init c = add_none c.args.code.now.items

pub loop-step-preserved : goal.loop-step-preserved
loop-step-preserved c = add_step_next c.args.steps.now c.loop-step.step-index c.step-item.result _ _ _ (omega arith) c.step-item.is c.loop-step.invariant c.in_ok-step_index.ensures
