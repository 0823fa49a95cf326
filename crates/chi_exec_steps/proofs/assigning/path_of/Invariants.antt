use Rattle.std.proofs.Common.{◌≡◌, drop, reverse}
use Rattle.chi_ops.specs.Paths.{steps_of}
use Rattle.chi_exec_law.specs.Instructions.{path_from}
use Rattle.chi_exec_steps.proofs.Aims.{on_rest}
use Rattle.chi_exec_steps.proofs.assigning.path_of.Given as goal

abbrev pub invariant-loop-step : goal.invariant-loop-step
invariant-loop-step l = path_from l.steps (reverse l.fn.left.items) ≡ on_rest (steps_of l.path.items) (path_from (drop l.step-index l.steps) (reverse l.left.items))
