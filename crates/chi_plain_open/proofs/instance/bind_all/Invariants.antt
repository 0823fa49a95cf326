use Rattle.std.proofs.Common.{◌≡◌}
use Rattle.chi_core.specs.Variables.{bind}
use Rattle.chi_plain_open.proofs.instance.bind_all.Given as goal

abbrev pub invariant-loop-slot : goal.invariant-loop-slot
invariant-loop-slot l = bind l.fn.bindings l.fn.variables ≡ bind l.slot-iterator.rest.items l.variables
