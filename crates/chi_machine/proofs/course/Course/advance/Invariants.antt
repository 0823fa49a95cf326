use Rattle.chi_machine.proofs.Coursed.{Coursing}
use Rattle.chi_machine.proofs.course.Course.advance.Given as goal

abbrev pub invariant-loop-done : goal.invariant-loop-done
invariant-loop-done g l = Coursing l.code (g.C.Chooser.gives l.chooser) l._done l.fn.self l.self l.fn.out.items l.out.items
