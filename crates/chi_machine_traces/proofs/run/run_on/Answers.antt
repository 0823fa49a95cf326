use Rattle.std.proofs.Common.{Some, None, option_map, refl, subst, arith}
use Rattle.chi_io.specs.Counts.{Rose}
use Rattle.chi_io.specs.Sink.{Grew}
use Rattle.chi_machine_traces.specs.Turns.{OfWay}
use Rattle.chi_machine_traces.proofs.Fronts.{PickLaw}
use Rattle.chi_machine_traces.proofs.Running.{running_first, running_short, Turned, running_ends, running_on, running_fault, passes_fault}
use Rattle.chi_machine_traces.proofs.run.run_on.Goals as goal

pub turn-init : goal.turn-init
turn-init g c = record {
  runs = running_first (g.C.Chooser.gives c.args.terms.now.policy) (option_map g.S.Sieve.keeps_to c.args.terms.now.trace) c.args.code.now c.args.course.now c.args.told.now (g.O.Sink.taken c.args.out.now) c.requires.course;
  goes = c.requires.out_goes;
  count = omega arith;
}

pub returns-in-Err-clause-passes : goal.returns-in-Err-clause-passes
returns-in-Err-clause-passes g c =
    let law : PickLaw = record {
      safe = c.safe_law.ensures.safe;
      costs = c.time_law.ensures.costs;
      on = c.run_law.ensures.on;
      over = c.run_law.ensures.over;
      cut_off = c.run_law.ensures.cut_off;
      at_rest = c.run_law.ensures.at_rest;
      once = c.picked_law.ensures.once;
    } in
    let p =
    running_short (g.C.Chooser.gives c.args.terms.now.policy) (option_map g.S.Sieve.keeps_to c.args.terms.now.trace) c.args.code.now c.args.course.now c.args.told.now (g.O.Sink.taken c.args.out.now)
    (g.O.Sink.taken c.turn.out) c.turn.course c.turn.told c.turn.invariant.runs law in
    (c.turn.invariant.goes, p.0, p.1, p.2)

pub returns-in-Ok-Some-clause-passes : goal.returns-in-Ok-Some-clause-passes
returns-in-Ok-Some-clause-passes g c =
    let gives = g.C.Chooser.gives c.args.terms.now.policy in
    let trace = option_map g.S.Sieve.keeps_to c.args.terms.now.trace in
    let code = c.args.code.now in
    let before = c.turn.invariant in
    let turned : Turned gives trace code c.args.course.now c.args.told.now (g.O.Sink.taken c.args.out.now) (g.O.Sink.taken c.turn.out) c.turn.course c.turn.told before.runs c.turn_told.new.course c.turn_told.new.told (Some c.in-Ok-Some.ending) =
    subst (Turned gives trace code c.args.course.now c.args.told.now (g.O.Sink.taken c.args.out.now) (g.O.Sink.taken c.turn.out) c.turn.course c.turn.told before.runs c.turn_told.new.course c.turn_told.new.told) c.in-Ok-Some.field-0-is c.in-Ok-Some.ensures.told in
    let p =
    running_ends gives trace code c.args.course.now c.args.told.now (g.O.Sink.taken c.args.out.now) (g.O.Sink.taken c.turn.out) c.turn.course c.turn.told before.runs c.turn_told.new.course c.turn_told.new.told
    c.in-Ok-Some.ending turned in
    (before.goes, p.0, p.1, p.2)

pub turn-preserved : goal.turn-preserved
turn-preserved g c =
    let gives = g.C.Chooser.gives c.args.terms.now.policy in
    let trace = option_map g.S.Sieve.keeps_to c.args.terms.now.trace in
    let code = c.args.code.now in
    let before = c.turn.invariant in
    let p = c.in_ok-pass_enough.ensures.passes in
    let turned : Turned gives trace code c.args.course.now c.args.told.now (g.O.Sink.taken c.args.out.now) (g.O.Sink.taken c.turn.out) c.turn.course c.turn.told before.runs c.turn_told.new.course c.turn_told.new.told None =
    subst (Turned gives trace code c.args.course.now c.args.told.now (g.O.Sink.taken c.args.out.now) (g.O.Sink.taken c.turn.out) c.turn.course c.turn.told before.runs c.turn_told.new.course c.turn_told.new.told) c.in-Ok-None.field-0-is c.in-Ok-None.ensures.told in
    record {
      runs = running_on gives trace code c.args.course.now c.args.told.now (g.O.Sink.taken c.args.out.now) (g.O.Sink.taken c.turn.out) c.turn.course c.turn.told before.runs c.turn_told.new.course c.turn_told.new.told
          (c.in-Ok-None.ensures.on c.in-Ok-None.field-0-is).0 turned (g.O.Sink.taken c.pass_enough.new.out) (record { out = c.pass_enough.new.kept; log = c.turn_told.new.told.log }) p.1 p.2 refl;
      goes = p.0;
      count = omega (arith, before.count, c.in_ok-pass_enough.ensures.count);
    }

pub returns-in_err-pass_enough-clause-passes : goal.returns-in_err-pass_enough-clause-passes
returns-in_err-pass_enough-clause-passes g c =
    let law : PickLaw = record {
      safe = c.safe_law.ensures.safe;
      costs = c.time_law.ensures.costs;
      on = c.run_law.ensures.on;
      over = c.run_law.ensures.over;
      cut_off = c.run_law.ensures.cut_off;
      at_rest = c.run_law.ensures.at_rest;
      once = c.picked_law.ensures.once;
    } in
    let gives = g.C.Chooser.gives c.args.terms.now.policy in
    let trace = option_map g.S.Sieve.keeps_to c.args.terms.now.trace in
    let code = c.args.code.now in
    let before = c.turn.invariant in
    let turned : Turned gives trace code c.args.course.now c.args.told.now (g.O.Sink.taken c.args.out.now) (g.O.Sink.taken c.turn.out) c.turn.course c.turn.told before.runs c.turn_told.new.course c.turn_told.new.told None =
    subst (Turned gives trace code c.args.course.now c.args.told.now (g.O.Sink.taken c.args.out.now) (g.O.Sink.taken c.turn.out) c.turn.course c.turn.told before.runs c.turn_told.new.course c.turn_told.new.told) c.in-Ok-None.field-0-is c.in-Ok-None.ensures.told in
    passes_fault (OfWay gives trace code c.args.course.now c.args.told.now) _ (Grew (g.O.Sink.taken c.args.out.now) (g.O.Sink.taken c.pass_enough.new.out))
    (Rose (g.O.Sink.faults c.args.out.now) (g.O.Sink.faults c.pass_enough.new.out)) (g.O.Sink.stopped c.pass_enough.new.out) c.from_residual.result c.in_err-pass_enough.field-0.0 c.from_residual.ensures.1
    (running_fault gives trace code c.args.course.now c.args.told.now (g.O.Sink.taken c.args.out.now) (g.O.Sink.taken c.turn.out) c.turn.course c.turn.told before.runs c.turn_told.new.course c.turn_told.new.told
    law turned (g.O.Sink.taken c.pass_enough.new.out) c.pass_enough.new.kept.items (g.O.Sink.faults c.args.out.now) (g.O.Sink.faults c.turn.out) (g.O.Sink.faults c.pass_enough.new.out) (g.O.Sink.stopped c.pass_enough.new.out)
    before.count c.in_err-pass_enough.field-0.0 c.in_err-pass_enough.ensures.passes)
