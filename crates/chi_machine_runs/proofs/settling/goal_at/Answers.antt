use Rattle.chi_machine_runs.proofs.Settled.{jump_goes, jump_rests, jump_none}
use Rattle.chi_machine_runs.proofs.settling.goal_at.Goals as goal

pub returns-in-Some-goal_of-clause-leads : goal.returns-in-Some-goal_of-clause-leads
returns-in-Some-goal_of-clause-leads c =
    jump_goes c.args.code.now.instrs c.as_slice.result.now c.args.at c.as_slice.ensures.same c.in-Some.instr.now c.in-Some-goal_of.goal
    c.in-Some.ensures.lookup.3.0 c.in-Some.ensures.lookup.1 c.in-Some-goal_of.ensures.leads

pub returns-in-None-goal_of-clause-rests : goal.returns-in-None-goal_of-clause-rests
returns-in-None-goal_of-clause-rests c =
    jump_rests c.args.code.now.instrs c.as_slice.result.now c.args.at c.as_slice.ensures.same c.in-Some.instr.now
    c.in-Some.ensures.lookup.3.0 c.in-Some.ensures.lookup.1 c.in-None-goal_of.ensures.rests

pub returns-in-None-clause-rests : goal.returns-in-None-clause-rests
returns-in-None-clause-rests c = jump_none c.args.code.now.instrs c.as_slice.result.now c.args.at c.as_slice.ensures.same c.in-None.ensures.lookup.3
