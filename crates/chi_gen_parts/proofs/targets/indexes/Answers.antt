use Rattle.std.proofs.Common.{arith}
use Rattle.chi_gen_parts.proofs.AddedExpressions.{add_none}
use Rattle.chi_gen_parts.proofs.AddedTargets.{add_target_next}
use Rattle.chi_gen_parts.proofs.targets.indexes.Goals as goal

pub loop-target-init : goal.loop-target-init
loop-target-init c = add_none c.args.code.now.items

pub loop-target-preserved : goal.loop-target-preserved
loop-target-preserved c = add_target_next c.args.targets.now c.loop-target.target-index c.target-item.result _ _ _ (omega arith) c.target-item.is c.loop-target.invariant c.in_ok-indexes_of.ensures
