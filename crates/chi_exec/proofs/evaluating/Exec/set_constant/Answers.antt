use Rattle.std.proofs.Common.{rules, pos, []}
use Rattle.chi_exec_steps.specs.Views.{state_of}
use Rattle.chi_exec.proofs.Answers.{const_halts, const_there, const_rests, const_sets, const_stops}
use Rattle.chi_exec.proofs.evaluating.Exec.set_constant.Goals as goal

pub run_on-requires-clause-halts : goal.run_on-requires-clause-halts
run_on-requires-clause-halts c =
    const_halts c.args.code.now c.args.at c.args.seed c.args.self.now.constants.items (state_of c.set_out_first.new.m) _ c.requires.ready c.in_ok-set_out_first.ensures.begun (λ j. record { names = c.args.code.now.names; seed = c.args.seed; clock = pos 0; constants = c.as_slice.ensures.value j; finished = [] })

pub pop-value-requires : goal.pop-value-requires
pop-value-requires c =
    const_there c.args.code.now c.args.at c.args.seed c.args.self.now.constants.items (state_of c.set_out_first.new.m) _ c.run_on.new.m c.requires.ready c.in_ok-set_out_first.ensures.begun (λ j. record { names = c.args.code.now.names; seed = c.args.seed; clock = pos 0; constants = c.as_slice.ensures.value j; finished = [] })
    (c.run_on.ensures.rests (search rules))

pub returns-in_ok-push-clause-sets : goal.returns-in_ok-push-clause-sets
returns-in_ok-push-clause-sets c = λ core d r.
    const_sets c.args.code.now c.args.at c.args.seed c.args.self.now.constants.items (state_of c.set_out_first.new.m) _ core d c.run_on.new.m c.pop-value.result _ _ r c.in_ok-set_out_first.ensures.begun
    (λ j. record { names = c.args.code.now.names; seed = c.args.seed; clock = pos 0; constants = c.as_slice.ensures.value j; finished = [] }) (c.run_on.ensures.rests (search rules)) c.pop-value.ensures c.in_ok-push.ensures.items

pub returns-in_ok-push-clause-rests : goal.returns-in_ok-push-clause-rests
returns-in_ok-push-clause-rests c = λ core d r.
    const_rests c.args.code.now c.args.at c.args.seed c.args.self.now.constants.items (state_of c.set_out_first.new.m) _ core d c.run_on.new.m r c.in_ok-set_out_first.ensures.begun
    (λ j. record { names = c.args.code.now.names; seed = c.args.seed; clock = pos 0; constants = c.as_slice.ensures.value j; finished = [] }) (c.run_on.ensures.rests (search rules))

pub returns-else-run_on-clause-stops : goal.returns-else-run_on-clause-stops
returns-else-run_on-clause-stops c = λ core d r.
    const_stops c.args.code.now c.args.at c.args.seed c.args.self.now.constants.items (state_of c.set_out_first.new.m) _ core d c.run_on.new.m.stop r c.in_ok-set_out_first.ensures.begun
    (λ j. record { names = c.args.code.now.names; seed = c.args.seed; clock = pos 0; constants = c.as_slice.ensures.value j; finished = [] }) (c.run_on.ensures.ends (search rules))
