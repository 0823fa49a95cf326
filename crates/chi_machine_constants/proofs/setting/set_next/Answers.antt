use Rattle.std.proofs.Common.{◌+◌, ◌<◌, [], List, length, reverse, pos, sym, ◌∙◌, subst, refl, rules, arith}
use Rattle.std.specs.Prelude.{IfOk}
use Rattle.chi_value.specs.declared.value.Value.{Value}
use Rattle.chi_exec_steps.specs.Views.{state_of}
use Rattle.chi_machine_constants.specs.Moves.{Moved}
use Rattle.chi_machine_constants.specs.Settings.{MayBegin, LeadsTo}
use Rattle.chi_machine_constants.proofs.Once.{ended_so, halts_so, is_over, is_there, leads_on, no_stack, place_fits, place_within, rests_so, topmost}
use Rattle.chi_machine_constants.proofs.setting.set_next.Goals as goal

pub run_on-requires-clause-halts : goal.run_on-requires-clause-halts
run_on-requires-clause-halts c =
    halts_so c.args.code.now c.args.seed c.args.at c.args.values.now.items _ (state_of c.in_ok-m.m) c.requires.may
    (λ j. record { names = c.args.code.now.names; seed = c.args.seed; clock = pos 0; constants = c.as_slice.ensures.value j; finished = [] }) c.in_ok-m.ensures

pub broken-requires-clause-may : goal.broken-requires-clause-may
broken-requires-clause-may c =
    subst (λ (l : List Value). MayBegin c.args.code.now c.args.seed c.args.at l) (sym c.as_slice-then-not-run_on.ensures.value) c.requires.may

pub broken-requires-clause-ended : goal.broken-requires-clause-ended
broken-requires-clause-ended c =
    ended_so c.args.code.now c.args.seed c.args.at c.args.values.now.items c.as_slice-then-not-run_on.result.now _ (state_of c.in_ok-m.m) c.run_on.new.m.stop
    (λ j. record { names = c.args.code.now.names; seed = c.args.seed; clock = pos 0; constants = c.as_slice.ensures.value j; finished = [] }) c.in_ok-m.ensures
    c.as_slice-then-not-run_on.ensures.value (c.run_on.ensures.ends (search rules))

pub returns-then-not-run_on : goal.returns-then-not-run_on
returns-then-not-run_on c =
    subst (λ (l : List Value). IfOk c.broken.result (λ next. Moved c.args.code.now c.args.seed c.args.at l next l)) c.as_slice-then-not-run_on.ensures.value c.broken.ensures

pub returns-then-height-eq0 : goal.returns-then-height-eq0
returns-then-height-eq0 c =
    let r = rests_so c.args.code.now c.args.seed c.args.at c.args.values.now.items _ (state_of c.in_ok-m.m) (state_of c.run_on.new.m)
    (λ j. record { names = c.args.code.now.names; seed = c.args.seed; clock = pos 0; constants = c.as_slice.ensures.value j; finished = [] }) c.in_ok-m.ensures (c.run_on.ensures.rests (search rules)) in
    (is_over c.args.code.now c.args.seed c.args.values.now.items c.args.at (state_of c.run_on.new.m) c.requires.may r (no_stack c.run_on.new.m.stack.items (sym c.height.ensures ∙ c.if-height-eq0.true)), refl)

pub pop-requires : goal.pop-requires
pop-requires c =
    let h = c.height.ensures in
    let n = c.if-height-eq0.false in
    omega (arith, h, n)

pub overflow_add-result : goal.overflow_add-result
overflow_add-result c =
    let r = rests_so c.args.code.now c.args.seed c.args.at c.args.values.now.items _ (state_of c.in_ok-m.m) (state_of c.run_on.new.m)
    (λ j. record { names = c.args.code.now.names; seed = c.args.seed; clock = pos 0; constants = c.as_slice.ensures.value j; finished = [] }) c.in_ok-m.ensures (c.run_on.ensures.rests (search rules)) in
    let t = is_there c.args.code.now c.args.seed c.args.values.now.items c.args.at (state_of c.run_on.new.m) c.pop.result (reverse c.pop.new.stack.items) c.requires.may r
    (topmost c.run_on.new.m.stack.items c.pop.new.stack.items c.pop.result c.pop.ensures) in
    let w : c.run_on.new.m.at < length c.args.code.now.instrs = place_within c.args.code.now c.run_on.new.m.at t.0 t.1 t.2 in
    grind (arith, place_fits)

pub returns : goal.returns
returns c =
    let r = rests_so c.args.code.now c.args.seed c.args.at c.args.values.now.items _ (state_of c.in_ok-m.m) (state_of c.run_on.new.m)
    (λ j. record { names = c.args.code.now.names; seed = c.args.seed; clock = pos 0; constants = c.as_slice.ensures.value j; finished = [] }) c.in_ok-m.ensures (c.run_on.ensures.rests (search rules)) in
    let on = leads_on c.args.code.now c.args.seed c.args.values.now.items c.args.at (state_of c.run_on.new.m) c.pop.result (reverse c.pop.new.stack.items) c.requires.may r
    (topmost c.run_on.new.m.stack.items c.pop.new.stack.items c.pop.result c.pop.ensures) in
    subst (λ (l : List Value). LeadsTo c.args.code.now c.args.seed c.args.at c.args.values.now.items (c.run_on.new.m.at + 1) l) (sym {A = List Value} c.in_ok-push.ensures.items) on
