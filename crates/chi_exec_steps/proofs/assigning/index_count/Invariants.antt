use Rattle.std.proofs.Common.{◌≡◌, ◌+◌, drop}
use Rattle.chi_exec_law.specs.Instructions.{index_count}
use Rattle.chi_exec_steps.proofs.assigning.index_count.Given as goal

abbrev pub invariant-loop-aim : goal.invariant-loop-aim
invariant-loop-aim l = l.count + index_count (drop l.aim-index l.aims) ≡ index_count l.aims
