use Rattle.std.proofs.Common.{option_map, sym, ◌∙◌, arith}
use Rattle.chi_machine_told.specs.Below.chi_machine.proofs.Turned.{picked_by, none_ends}
use Rattle.chi_machine_told.specs.Below.chi_machine.proofs.Turning.{is_lawful}
use Rattle.chi_machine_traces.proofs.Answered.{if_ok, if_both}
use Rattle.chi_machine_traces.proofs.Logged.{TraceLaw}
use Rattle.chi_machine_traces.proofs.Steps.{StepLaw}
use Rattle.chi_machine_traces.proofs.Turns.{WayLaw, rests, tells, comes_to, goes_well}
use Rattle.chi_machine_traces.proofs.turn.turn_told.Goals as goal

pub pick-requires-clause-kept : goal.pick-requires-clause-kept
pick-requires-clause-kept g c = c.requires.kept.crowd

pub pick-requires-clause-early : goal.pick-requires-clause-early
pick-requires-clause-early g c = let b = c.requires.sane.bound.1 in omega (arith, b)

pub take_told-requires-clause-course : goal.take_told-requires-clause-course
take_told-requires-clause-course g c = c.requires

pub take_told-requires-clause-picked : goal.take_told-requires-clause-picked
take_told-requires-clause-picked g c =
    let by = c.chooser_law.ensures in
    picked_by (g.C.Chooser.gives c.args.chooser.now) c.args.course.now c.in-Some.label c.in-Some.ensures by.0 by.1

pub ending-requires : goal.ending-requires
ending-requires g c = c.requires.kept.crowd

pub returns-in-Some-clause-on : goal.returns-in-Some-clause-on
returns-in-Some-clause-on g c =
    let by = c.chooser_law.ensures in
    let law : StepLaw = record { safe = c.safe_law.ensures.safe; exact = c.step_law.ensures.exact; picks = c.options_law.ensures.picked } in
    if_ok c.take_told.result c.take_told.ensures.taken (λ end t e.
    goes_well law c.time_law.ensures.costs c.args.code.now c.args.course.now c.requires c.in-Some.label (picked_by (g.C.Chooser.gives c.args.chooser.now) c.args.course.now c.in-Some.label c.in-Some.ensures by.0 by.1)
    c.take_told.new.course end t.0 t.2 e)

pub returns-in-Some-clause-told : goal.returns-in-Some-clause-told
returns-in-Some-clause-told g c =
    let law : StepLaw = record { safe = c.safe_law.ensures.safe; exact = c.step_law.ensures.exact; picks = c.options_law.ensures.picked } in
    let way : WayLaw = record { on = c.turn_law.ensures.on; over = c.turn_law.ensures.over; cut_off = c.turn_law.ensures.cut_off; at_rest = c.turn_law.ensures.at_rest } in
    let traces : TraceLaw = record {
      begins = c.tracing_law.ensures.begins;
      on = c.tracing_law.ensures.on;
      over = c.tracing_law.ensures.over;
      whole = c.tracing_law.ensures.whole;
      of_none = c.tracing_law.ensures.of_none;
    } in
    let gives = g.C.Chooser.gives c.args.chooser.now in
    let trace = option_map g.S.Sieve.keeps_to c.args.trace.now in
    if_both c.take_told.result c.take_told.ensures.taken c.take_told.ensures.logs (λ end t l core beginning pick bound passed answers u.
    let lawful = is_lawful gives pick answers in
    let own = sym (c.in-Some.ensures pick answers) in
    comes_to law c.options_law.ensures.ending way traces trace core c.args.code.now beginning pick lawful bound passed c.args.course.now c.args.told.now u c.in-Some.label own c.take_told.new.course c.take_told.new.told end t.0 t.1 t.2
    (l core u.config (tells law c.options_law.ensures.ending way traces trace core c.args.code.now beginning pick lawful bound passed c.args.course.now c.args.told.now u c.in-Some.label own c.choice_law.ensures.may_come)))

pub returns-in-None-clause-on : goal.returns-in-None-clause-on
returns-in-None-clause-on g c =
    let by = c.chooser_law.ensures in
    λ e.
    absurd (none_ends c.safe_law.ensures.safe c.args.code.now c.args.course.now c.requires (g.C.Chooser.gives c.args.chooser.now) c.in-None.ensures by.0 by.1 (sym c.ending.ensures ∙ e))

pub returns-in-None-clause-told : goal.returns-in-None-clause-told
returns-in-None-clause-told g c =
    let law : StepLaw = record { safe = c.safe_law.ensures.safe; exact = c.step_law.ensures.exact; picks = c.options_law.ensures.picked } in
    let way : WayLaw = record { on = c.turn_law.ensures.on; over = c.turn_law.ensures.over; cut_off = c.turn_law.ensures.cut_off; at_rest = c.turn_law.ensures.at_rest } in
    let traces : TraceLaw = record {
      begins = c.tracing_law.ensures.begins;
      on = c.tracing_law.ensures.on;
      over = c.tracing_law.ensures.over;
      whole = c.tracing_law.ensures.whole;
      of_none = c.tracing_law.ensures.of_none;
    } in
    let gives = g.C.Chooser.gives c.args.chooser.now in
    λ core beginning pick bound passed answers u.
    rests law c.options_law.ensures.ending way traces (option_map g.S.Sieve.keeps_to c.args.trace.now) core c.args.code.now beginning pick (is_lawful gives pick answers) bound passed c.args.course.now c.args.told.now u
    c.ending.result c.ending.ensures (λ e. none_ends c.safe_law.ensures.safe c.args.code.now c.args.course.now c.requires gives c.in-None.ensures pick answers (sym c.ending.ensures ∙ e))
