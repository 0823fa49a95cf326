use Rattle.std.proofs.Common.{◌≡◌, drop}
use Rattle.chi_machine_laws.specs.Beginning as law
use Rattle.chi_machine_constants.proofs.lines.line_from.Given as goal

abbrev pub invariant-loop-place : goal.invariant-loop-place
invariant-loop-place l = law.line_from (drop l.place l.instrs) ≡ law.line_from (drop l.at l.instrs)
