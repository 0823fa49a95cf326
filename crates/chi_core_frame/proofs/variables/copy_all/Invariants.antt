use Rattle.std.proofs.Common.{◌≡◌, take}
use Rattle.chi_core_frame.proofs.variables.copy_all.Given as goal

abbrev pub invariant-loop-variable : goal.invariant-loop-variable
invariant-loop-variable l = l.copies.items ≡ take l.variable-index l.variables
