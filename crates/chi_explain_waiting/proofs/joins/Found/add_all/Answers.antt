use Rattle.std.proofs.Common.{get_or, refl, ◌∙◌, arith}
use Rattle.chi_explain_waiting.proofs.Findings.{adds_more, with_more}
use Rattle.chi_explain_waiting.proofs.joins.Found.add_all.Goals as goal

pub loop-pid-preserved : goal.loop-pid-preserved
loop-pid-preserved c = (
  c.in_ok-add.ensures.marked,
  c.in_ok-add.ensures.room ∙ c.loop-pid.invariant.1,
  adds_more _ _ _ c.args.pids.now c.loop-pid.pid-index (get_or c.args.pids.now c.loop-pid.pid-index 0) c.loop-pid.invariant.2 c.in_ok-add.ensures.adds
      (omega arith) refl,
  with_more _ _ _ c.args.pids.now c.loop-pid.pid-index (get_or c.args.pids.now c.loop-pid.pid-index 0) c.loop-pid.invariant.3 c.in_ok-add.ensures.once
      (omega arith) refl,
)
