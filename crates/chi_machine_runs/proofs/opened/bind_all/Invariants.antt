use Rattle.chi_machine_runs.proofs.Bound.{IsBound}
use Rattle.chi_machine_runs.proofs.opened.bind_all.Given as goal

abbrev pub invariant-loop-slot : goal.invariant-loop-slot
invariant-loop-slot l = IsBound l.alternative l.names l.fn.variables l.slot-index l.fn.bindings.items l.bindings.items
