use Rattle.chi_machine.specs.Calls.{IsMachine}
use Rattle.chi_machine_tests.proofs.runs.expect_by.Given as goal

abbrev pub invariant-loop-piece : goal.invariant-loop-piece
invariant-loop-piece g l = IsMachine l.code l.machine
