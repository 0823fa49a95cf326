use Rattle.std.proofs.Common.{arith}
use Rattle.chi_explain_waiting.proofs.Writing.{texts-more}
use Rattle.chi_explain_waiting.proofs.waiting.instances_text.Goals as goal

pub loop-pid-preserved : goal.loop-pid-preserved
loop-pid-preserved c =
    texts-more _ c.args.pids.now c.loop-pid.pid-index c.loop-pid.text.items _ _ _ _ c.loop-pid.invariant (omega arith)
    c.in_ok-extend_from_slice.ensures.items c.deref.ensures.value c.in_ok-told.ensures
