use Rattle.std.proofs.Common.{◌≡◌, length}
use Rattle.chi_exec.specs.Hints.{AreRight}
use Rattle.chi_machine_tests.specs.Programs.{StandAt}
use Rattle.chi_machine_tests.proofs.expressions.set_all.Given as goal

abbrev pub invariant-loop-constant : goal.invariant-loop-constant
invariant-loop-constant g l = record {
  stand : StandAt l.p.core l.p.code l.exec.constants.items l.at;
  count : l._constant-index ≡ length l.exec.constants.items;
  right : AreRight l.exec.hints.items l.p.code.instrs;
}
