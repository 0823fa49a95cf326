use Rattle.std.proofs.Common.{◌≡◌, length, reverse}
use Rattle.chi_core.specs.Variables.{bind}
use Rattle.chi_machine_runs.specs.Kept.{bound_at}
use Rattle.chi_machine_runs.proofs.taken.bind_back.Given as goal

abbrev pub invariant-loop-binding : goal.invariant-loop-binding
invariant-loop-binding l = bind (bound_at l.a l.fn.bindings.items) l.fn.variables ≡ bind (bound_at l.a (reverse l.bindings.items)) l.variables

abbrev pub decreases-loop-binding : goal.decreases-loop-binding
decreases-loop-binding l = length l.bindings.items
