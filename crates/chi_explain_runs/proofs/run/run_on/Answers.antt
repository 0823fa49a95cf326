use Rattle.std.proofs.Common.{arith, refl, sym}
use Rattle.chi_explain_runs.proofs.Turns.{TurnLaw, begins, goes_on, rests, spends, noted_next, costs_next, goes_over, ends_over}
use Rattle.chi_explain_runs.proofs.run.run_on.Goals as goal

pub turn-init : goal.turn-init
turn-init g c =
    let law : TurnLaw = record {
      begins = c.turn_law.ensures.begins;
      on = c.turn_law.ensures.on;
      over = c.turn_law.ensures.over;
      cut_off = c.turn_law.ensures.cut_off;
      at_rest = c.turn_law.ensures.at_rest;
    } in
    begins law (g.P.Chooser.gives c.args.policy.now) _ _ _ c.args.runner.now _ _ c.requires.no_lines c.requires.no_counts refl refl c.requires.there

pub picked_label-label-requires-clause-goes_on : goal.picked_label-label-requires-clause-goes_on
picked_label-label-requires-clause-goes_on g c =
    let law : TurnLaw = record {
      begins = c.turn_law.ensures.begins;
      on = c.turn_law.ensures.on;
      over = c.turn_law.ensures.over;
      cut_off = c.turn_law.ensures.cut_off;
      at_rest = c.turn_law.ensures.at_rest;
    } in
    goes_on law _ _ _ _ _ _ _ _ _ c.turn.invariant (sym c.in-None.ensures.verdict)

pub picked_label-label-requires-clause-early : goal.picked_label-label-requires-clause-early
picked_label-label-requires-clause-early g c = let room = c.turn.invariant.room in let below = c.requires.bound in omega arith

pub overflow_add-turn : goal.overflow_add-turn
overflow_add-turn g c = let room = c.turn.invariant.room in let below = c.requires.bound in omega arith

pub overflow_sub-left : goal.overflow_sub-left
overflow_sub-left g c =
    let law : TurnLaw = record {
      begins = c.turn_law.ensures.begins;
      on = c.turn_law.ensures.on;
      over = c.turn_law.ensures.over;
      cut_off = c.turn_law.ensures.cut_off;
      at_rest = c.turn_law.ensures.at_rest;
    } in
    (costs_next law _ _ _ _ c.time_law.ensures.costs _ _ _ _ _ _ _ _ _ _ c.turn.invariant
    (record { picked = c.picked_label-label.ensures.picks; same_core = c.in-Next.ensures.same_core; steps = c.in-Next.ensures.steps })).1

pub turn-smaller-in-Next : goal.turn-smaller-in-Next
turn-smaller-in-Next g c =
    let law : TurnLaw = record {
      begins = c.turn_law.ensures.begins;
      on = c.turn_law.ensures.on;
      over = c.turn_law.ensures.over;
      cut_off = c.turn_law.ensures.cut_off;
      at_rest = c.turn_law.ensures.at_rest;
    } in
    (costs_next law _ _ _ _ c.time_law.ensures.costs _ _ _ _ _ _ _ _ _ _ c.turn.invariant
    (record { picked = c.picked_label-label.ensures.picks; same_core = c.in-Next.ensures.same_core; steps = c.in-Next.ensures.steps })).2

pub turn-preserved-in-Next : goal.turn-preserved-in-Next
turn-preserved-in-Next g c =
    let law : TurnLaw = record {
      begins = c.turn_law.ensures.begins;
      on = c.turn_law.ensures.on;
      over = c.turn_law.ensures.over;
      cut_off = c.turn_law.ensures.cut_off;
      at_rest = c.turn_law.ensures.at_rest;
    } in
    let costs = costs_next law _ _ _ _ c.time_law.ensures.costs _ _ _ _ _ _ _ _ _ _ c.turn.invariant
    (record { picked = c.picked_label-label.ensures.picks; same_core = c.in-Next.ensures.same_core; steps = c.in-Next.ensures.steps }) in
    noted_next law _ _ _ _ _ _ _ _ _ _ _ _ _ _ _ _ _ c.done_at-done.ensures c.in_ok-note-in-Next.ensures.lines c.in_ok-note-in-Next.ensures.counts c.turn.invariant (costs.0, costs.1)
    (record { picked = c.picked_label-label.ensures.picks; same_core = c.in-Next.ensures.same_core; steps = c.in-Next.ensures.steps })

pub turn-smaller : goal.turn-smaller
turn-smaller g c =
    let law : TurnLaw = record {
      begins = c.turn_law.ensures.begins;
      on = c.turn_law.ensures.on;
      over = c.turn_law.ensures.over;
      cut_off = c.turn_law.ensures.cut_off;
      at_rest = c.turn_law.ensures.at_rest;
    } in
    ends_over law _ _ _ _ _ _ _ _ _ _ _ _ _ c.turn.invariant
    (record { picked = c.picked_label-label.ensures.picks; same_core = c.in-Over.ensures.same_core; steps = c.in-Over.ensures.steps })

pub turn-preserved : goal.turn-preserved
turn-preserved g c =
    let law : TurnLaw = record {
      begins = c.turn_law.ensures.begins;
      on = c.turn_law.ensures.on;
      over = c.turn_law.ensures.over;
      cut_off = c.turn_law.ensures.cut_off;
      at_rest = c.turn_law.ensures.at_rest;
    } in
    goes_over law _ _ _ _ _ _ _ _ _ _ _ _ _ c.turn.invariant
    (record { picked = c.picked_label-label.ensures.picks; same_core = c.in-Over.ensures.same_core; steps = c.in-Over.ensures.steps })

pub returns-in-Some : goal.returns-in-Some
returns-in-Some g c =
    let law : TurnLaw = record {
      begins = c.turn_law.ensures.begins;
      on = c.turn_law.ensures.on;
      over = c.turn_law.ensures.over;
      cut_off = c.turn_law.ensures.cut_off;
      at_rest = c.turn_law.ensures.at_rest;
    } in
    record { ran = rests law _ _ _ _ _ _ _ _ _ _ c.turn.invariant (sym c.in-Some.ensures.verdict) }

pub returns-in-Spent : goal.returns-in-Spent
returns-in-Spent g c =
    let law : TurnLaw = record {
      begins = c.turn_law.ensures.begins;
      on = c.turn_law.ensures.on;
      over = c.turn_law.ensures.over;
      cut_off = c.turn_law.ensures.cut_off;
      at_rest = c.turn_law.ensures.at_rest;
    } in
    record {
      ran = spends law _ _ _ _ _ _ _ _ _ _ _ _ _ c.turn.invariant
          (record { picked = c.picked_label-label.ensures.picks; same_core = c.in-Spent.ensures.same_core; steps = c.in-Spent.ensures.steps });
    }
