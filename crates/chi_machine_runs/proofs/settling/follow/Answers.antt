use Rattle.std.proofs.Common.{rules}
use Rattle.chi_exec_law.specs.Runs.{Rests}
use Rattle.chi_exec_law.proofs.Going.{leads_same, leads_on, leads_step, reaches_on, reaches_step}
use Rattle.chi_exec_law.proofs.Measure.{over_within, over_next, fewer_left}
use Rattle.chi_machine_laws.specs.Labels.{jumps}
use Rattle.chi_machine_runs.proofs.settling.follow.Invariants.{most}
use Rattle.chi_machine_runs.proofs.settling.follow.Goals as goal

pub loop-goal-init : goal.loop-goal-init
loop-goal-init c =
    let way = c.args.way in
    record {
      over = over_within (jumps way.code.now.instrs) way.from way.ends;
      leads = leads_same (jumps way.code.now.instrs) way.from;
    }

pub loop-goal-smaller : goal.loop-goal-smaller
loop-goal-smaller c =
    let way = c.args.way in
    fewer_left (jumps way.code.now.instrs) (most way) c.loop-goal.at c.in-Some.goal c.loop-goal.invariant.over c.in-Some.ensures.leads

pub loop-goal-preserved : goal.loop-goal-preserved
loop-goal-preserved c =
    let way = c.args.way in
    let step = jumps way.code.now.instrs in
    record {
      over = over_next step (most way) c.loop-goal.at c.in-Some.goal c.loop-goal.invariant.over c.in-Some.ensures.leads;
      leads = leads_on step way.from c.loop-goal.at c.in-Some.goal c.loop-goal.invariant.leads (leads_step step c.loop-goal.at c.in-Some.goal c.in-Some.ensures.leads);
    }

pub returns : goal.returns
returns c =
    let step = jumps c.args.way.code.now.instrs in
    reaches_on step c.args.way.from c.loop-goal.at (Rests c.loop-goal.at) c.loop-goal.invariant.leads (reaches_step step c.loop-goal.at (Rests c.loop-goal.at) (search rules))
