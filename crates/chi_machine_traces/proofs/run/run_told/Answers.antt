use Rattle.std.proofs.Common.{[], refl, option_map, subst}
use Rattle.chi_io.specs.Counts.{Rose}
use Rattle.chi_io.specs.Sink.{Grew}
use Rattle.chi_io.proofs.Passed.{Grew-nothing}
use Rattle.chi_machine_told.specs.Below.chi_machine.specs.Calls.{StartsSo}
use Rattle.chi_machine_traces.specs.declared.passing.PassFault.TheVariants as fault
use Rattle.chi_machine_traces.specs.Passing.{OfEach}
use Rattle.chi_machine_traces.specs.Told.{IsTold}
use Rattle.chi_machine_traces.specs.Turns.{OfWay}
use Rattle.chi_machine_traces.proofs.Begins.{begins_going, begins_ended}
use Rattle.chi_machine_traces.proofs.Logged.{TraceLaw}
use Rattle.chi_machine_traces.proofs.Running.{passes_fault, passes_of}
use Rattle.chi_machine_traces.proofs.run.run_told.Goals as goal

pub run_from-requires-clause-course : goal.run_from-requires-clause-course
run_from-requires-clause-course g c =
    let arguments = c.args.arguments.items in
    let terms = c.args.terms.now in
    let s = subst (StartsSo c.args.code.now arguments terms.seed terms.until terms.bound) c.in-Going.is c.in_ok-course.ensures in s.3

pub unreachable-requires : goal.unreachable-requires
unreachable-requires g c =
    let arguments = c.args.arguments.items in
    let terms = c.args.terms.now in
    subst (StartsSo c.args.code.now arguments terms.seed terms.until terms.bound) c.in-Lost.is c.in_ok-course.ensures

-- nothing was passed on

pub returns-in_default-clause-passes : goal.returns-in_default-clause-passes
returns-in_default-clause-passes g c = (c.requires.out_goes, [], Grew-nothing (g.O.Sink.taken c.args.out.now), λ core runs pick answers whole is. (whole.output, refl))

pub returns-in_err-course-clause-passes : goal.returns-in_err-course-clause-passes
returns-in_err-course-clause-passes g c =
    passes_fault (OfEach (g.C.Chooser.gives c.args.terms.now.policy) c.args.code.now c.args.arguments.items c.args.terms.now)
    (λ passed ran core beginning pick bound. IsTold (option_map g.S.Sieve.keeps_to c.args.terms.now.trace) core beginning pick bound passed ran) (Grew (g.O.Sink.taken c.args.out.now) (g.O.Sink.taken c.args.out.now))
    (Rose (g.O.Sink.faults c.args.out.now) (g.O.Sink.faults c.args.out.now)) (g.O.Sink.stopped c.args.out.now) c.from_residual.result fault.NoMemory c.from_residual.ensures.1
    (c.requires.out_goes, [], Grew-nothing (g.O.Sink.taken c.args.out.now), λ core runs pick answers whole is. (whole.output, refl))

pub returns-in-Going-clause-passes : goal.returns-in-Going-clause-passes
returns-in-Going-clause-passes g c =
    let arguments = c.args.arguments.items in
    let terms = c.args.terms.now in
    let gives = g.C.Chooser.gives c.args.terms.now.policy in
    let trace = option_map g.S.Sieve.keeps_to c.args.terms.now.trace in
    let traces : TraceLaw = record {
      begins = c.tracing_law.ensures.begins;
      on = c.tracing_law.ensures.on;
      over = c.tracing_law.ensures.over;
      whole = c.tracing_law.ensures.whole;
      of_none = c.tracing_law.ensures.of_none;
    } in
    let s = subst (StartsSo c.args.code.now arguments terms.seed terms.until terms.bound) c.in-Going.is c.in_ok-course.ensures in
    passes_of (OfWay gives trace c.args.code.now c.in-Going.course c.in-Ok.told) (OfEach gives c.args.code.now arguments terms)
    (λ passed ran core beginning pick bound. IsTold trace core beginning pick bound passed ran) (Grew (g.O.Sink.taken c.args.out.now) (g.O.Sink.taken c.run_from.new.out))
    (Rose (g.O.Sink.faults c.args.out.now) (g.O.Sink.faults c.run_from.new.out)) (g.O.Sink.stopped c.run_from.new.out) c.run_from.result
    (λ Q of core runs pick answers.
    of core _ pick terms.bound answers
    (begins_going traces trace core c.args.code.now pick terms.bound c.in-Ok.told c.in-Ok.ensures.out c.in-Ok.ensures.log c.start_law.ensures.exact c.kinded_law.ensures.begins
    arguments terms.seed terms.until runs c.turn_law.ensures.begins c.requires.begins.bounded c.in-Going.course s.1 s.2 s.0)) c.run_from.ensures.passes

pub returns-in-Ended-clause-passes : goal.returns-in-Ended-clause-passes
returns-in-Ended-clause-passes g c =
    let arguments = c.args.arguments.items in
    let terms = c.args.terms.now in
    let traces : TraceLaw = record {
      begins = c.tracing_law.ensures.begins;
      on = c.tracing_law.ensures.on;
      over = c.tracing_law.ensures.over;
      whole = c.tracing_law.ensures.whole;
      of_none = c.tracing_law.ensures.of_none;
    } in (
      c.requires.out_goes,
      [],
      Grew-nothing (g.O.Sink.taken c.args.out.now),
      λ core runs pick answers.
          begins_ended traces (option_map g.S.Sieve.keeps_to c.args.terms.now.trace) core c.args.code.now pick terms.bound c.in-Ok.told c.in-Ok.ensures.out c.in-Ok.ensures.log c.start_law.ensures.exact c.kinded_law.ensures.begins
          arguments terms.seed terms.until runs c.in-Ended.ending (subst (StartsSo c.args.code.now arguments terms.seed terms.until terms.bound) c.in-Ended.is c.in_ok-course.ensures),
    )
