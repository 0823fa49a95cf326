use Rattle.chi_core_frame.proofs.Begun.{Filled}
use Rattle.chi_core_frame.proofs.reusing.fill.Given as goal

abbrev pub invariant-loop-left : goal.invariant-loop-left
invariant-loop-left l = Filled l.arity l.left l.slots.items l.fn.values.items l.values.items

abbrev pub decreases-loop-left : goal.decreases-loop-left
decreases-loop-left l = l.left
