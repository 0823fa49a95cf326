use Rattle.std.proofs.Common.{◌≡◌, drop}
use Rattle.chi_core.specs.Variables.{bindings_at}
use Rattle.chi_plain_open.proofs.Keeping.{joined}
use Rattle.chi_plain_open.proofs.opening.bindings_at.Given as goal

abbrev pub invariant-loop-slot : goal.invariant-loop-slot
invariant-loop-slot l =
    bindings_at l.fn.slots l.fn.variables ≡ joined l.bindings.items (bindings_at (drop l.slot-index l.slots) l.fn.variables)
