use Rattle.std.proofs.Common.{arith}
use Rattle.chi_machine.proofs.Answers.{err_so}
use Rattle.chi_machine.proofs.Coursed.{course_first, turn_early, course_on, course_ends, course_lost, course_stops}
use Rattle.chi_machine.proofs.Turned.{picked_by, none_ends}
use Rattle.chi_machine.proofs.course.Course.advance.Goals as goal

pub loop-done-init : goal.loop-done-init
loop-done-init g c = course_first c.args.code.now (g.C.Chooser.gives c.args.chooser.now) c.args.self.now c.args.out.now.items c.requires

pub pick-requires-clause-kept : goal.pick-requires-clause-kept
pick-requires-clause-kept g c = c.loop-done.invariant.course.kept.crowd

pub pick-requires-clause-early : goal.pick-requires-clause-early
pick-requires-clause-early g c =
    turn_early c.args.code.now (g.C.Chooser.gives c.args.chooser.now) c.loop-done._done c.args.self.now c.loop-done.self c.args.out.now.items c.loop-done.out.items c.loop-done.invariant

pub take-requires-clause-course : goal.take-requires-clause-course
take-requires-clause-course g c = c.loop-done.invariant.course

pub take-requires-clause-picked : goal.take-requires-clause-picked
take-requires-clause-picked g c =
    let by = c.chooser_law.ensures in
    picked_by (g.C.Chooser.gives c.args.chooser.now) c.loop-done.self c.in-Some.label c.in-Some.ensures by.0 by.1

pub ending-requires : goal.ending-requires
ending-requires g c = c.loop-done.invariant.course.kept.crowd

pub ending-requires-2 : goal.ending-requires-2
ending-requires-2 g c = c.loop-done.invariant.course.kept.crowd

pub loop-done-preserved : goal.loop-done-preserved
loop-done-preserved g c =
    course_on c.args.code.now (g.C.Chooser.gives c.args.chooser.now) c.loop-done._done c.args.self.now c.loop-done.self c.args.out.now.items c.loop-done.out.items c.loop-done.invariant
    c.in-Some.label c.in-Some.ensures c.take.new.self c.take.new.out.items c.in_ok-take-in-Some.field-0 c.in_ok-take-in-Some.ensures.taken c.in-None-2.is

pub returns-in_err-take-in-Some-clause-written : goal.returns-in_err-take-in-Some-clause-written
returns-in_err-take-in-Some-clause-written g c =
    let t = c.loop-done-test.true in
    err_so c.from_residual.result
    (course_lost c.args.code.now (g.C.Chooser.gives c.args.chooser.now) c.loop-done._done c.args.self.now c.loop-done.self c.args.out.now.items c.loop-done.out.items c.loop-done.invariant
    c.args.turns (omega (arith, t)) c.take.new.out.items c.in_err-take-in-Some.ensures.kept)

pub returns-in-Some-2-clause-advanced : goal.returns-in-Some-2-clause-advanced
returns-in-Some-2-clause-advanced g c =
    course_ends c.args.code.now (g.C.Chooser.gives c.args.chooser.now) c.loop-done._done c.args.self.now c.loop-done.self c.args.out.now.items c.loop-done.out.items c.loop-done.invariant
    c.in-Some.label c.in-Some.ensures c.take.new.self c.take.new.out.items c.in_ok-take-in-Some.field-0 c.in_ok-take-in-Some.ensures.taken c.in-Some-2.ending c.in-Some-2.is c.args.turns c.loop-done-test.true c.args.self.now

pub returns-in-None-clause-advanced : goal.returns-in-None-clause-advanced
returns-in-None-clause-advanced g c =
    let t = c.loop-done-test.true in
    course_stops c.args.code.now (g.C.Chooser.gives c.args.chooser.now) c.loop-done._done c.args.self.now c.loop-done.self c.args.out.now.items c.loop-done.out.items c.loop-done.invariant
    c.args.turns (omega (arith, t)) (λ pick answers e. absurd (none_ends c.safe_law.ensures.safe c.args.code.now c.loop-done.self c.loop-done.invariant.course (g.C.Chooser.gives c.args.chooser.now) c.in-None.ensures pick answers e)) c.ending.result c.ending.ensures

pub returns-clause-advanced : goal.returns-clause-advanced
returns-clause-advanced g c =
    let t = c.loop-done-test.false in
    let n = c.loop-done.auto._done-end in
    course_stops c.args.code.now (g.C.Chooser.gives c.args.chooser.now) c.loop-done._done c.args.self.now c.loop-done.self c.args.out.now.items c.loop-done.out.items c.loop-done.invariant
    c.args.turns (omega (arith, t, n)) (λ pick answers e. omega (arith, t, n)) c.ending-2.result c.ending-2.ensures
