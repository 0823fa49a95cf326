use Rattle.std.proofs.Common.{◌≡◌, ◌-◌, ◌++◌, None, length}
use Rattle.std.specs.Prelude.{replicate}
use Rattle.chi_core_frame.proofs.reusing.widen.Given as goal

abbrev pub invariant-loop-slots : goal.invariant-loop-slots
invariant-loop-slots l =
    l.slots.items ++ replicate (l.count - length l.slots.items) None ≡ l.fn.slots.items ++ replicate (l.count - length l.fn.slots.items) None

abbrev pub decreases-loop-slots : goal.decreases-loop-slots
decreases-loop-slots l = l.count - length l.slots.items
