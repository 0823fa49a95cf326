use Rattle.std.proofs.Common.{rules}
use Rattle.chi_exec_steps.specs.Views.{state_of}
use Rattle.chi_exec_law.proofs.Going.{leads_same}
use Rattle.chi_machine_laws.specs.Deeds.{moves}
use Rattle.chi_machine_runs.specs.Views.{brought_of, there, within_of}
use Rattle.chi_machine_runs.proofs.OfferedAlone.{waits_there}
use Rattle.chi_machine_runs.proofs.Ran.{inner, sound, further, halts_still, ended}
use Rattle.chi_machine_runs.proofs.running.run_deeds.Goals as goal

pub deeds-init : goal.deeds-init
deeds-init c = record {
  leads = leads_same (moves (within_of c.args.w.now)) (there c.args.w.now.code.now c.args.m.now c.args.opened.now c.args.brought.now);
  halts = c.requires.halts;
}

pub run_on-requires-clause-halts : goal.run_on-requires-clause-halts
run_on-requires-clause-halts c = inner (within_of c.args.w.now) (state_of c.deeds.m) (brought_of c.args.w.now.code.now c.deeds.opened c.deeds.brought) c.deeds.invariant.halts

pub act_itself-doing-requires : goal.act_itself-doing-requires
act_itself-doing-requires c = record {
  sound = sound (within_of c.args.w.now) (state_of c.deeds.m) (state_of c.run_on.new.m) (brought_of c.args.w.now.code.now c.deeds.opened c.deeds.brought)
      c.deeds.invariant.halts (c.run_on.ensures.rests (search rules));
}

pub returns-then-not-goes_on : goal.returns-then-not-goes_on
returns-then-not-goes_on c =
    let code = c.args.w.now.code.now in
    let now = c.act_itself-doing.new in
    ended (within_of c.args.w.now) (there code c.args.m.now c.args.opened.now c.args.brought.now) (state_of c.deeds.m) (state_of c.run_on.new.m) (state_of now.m)
    (brought_of code c.deeds.opened c.deeds.brought) (brought_of code now.opened now.brought) now.brought now.m.stop c.act_itself-doing.result
    c.deeds.invariant.leads (c.run_on.ensures.rests (search rules)) c.act_itself-doing.ensures (c.goes_on.ensures.off (search rules))

pub returns-then-stands_to_wait : goal.returns-then-stands_to_wait
returns-then-stands_to_wait c =
    let code = c.args.w.now.code.now in
    let now = c.act_itself-doing.new in
    let w = within_of c.args.w.now in
    let first = there code c.args.m.now c.args.opened.now c.args.brought.now in
    let b = brought_of code c.deeds.opened c.deeds.brought in
    let brought = brought_of code now.opened now.brought in
    waits_there w first (state_of now.m) brought
    (further w first (state_of c.deeds.m) (state_of c.run_on.new.m) (state_of now.m) b brought now.brought now.m.stop c.act_itself-doing.result
    c.deeds.invariant.leads c.deeds.invariant.halts (c.run_on.ensures.rests (search rules)) c.act_itself-doing.ensures (c.goes_on.ensures.on (search rules)))
    (c.stands_to_wait.ensures.outside (search rules)) (c.stands_to_wait.ensures.waits (search rules))

pub deeds-preserved : goal.deeds-preserved
deeds-preserved c =
    let code = c.args.w.now.code.now in
    let now = c.act_itself-doing.new in
    let w = within_of c.args.w.now in
    let first = there code c.args.m.now c.args.opened.now c.args.brought.now in
    let b = brought_of code c.deeds.opened c.deeds.brought in
    let l = c.deeds.invariant.leads in
    let h = c.deeds.invariant.halts in
    record {
      leads = further w first (state_of c.deeds.m) (state_of c.run_on.new.m) (state_of now.m) b (brought_of code now.opened now.brought) now.brought now.m.stop c.act_itself-doing.result
          l h (c.run_on.ensures.rests (search rules)) c.act_itself-doing.ensures (c.goes_on.ensures.on (search rules));
      halts = halts_still w first (state_of c.deeds.m) (state_of c.run_on.new.m) (state_of now.m) b (brought_of code now.opened now.brought) now.brought now.m.stop c.act_itself-doing.result
          l h (c.run_on.ensures.rests (search rules)) c.act_itself-doing.ensures (c.goes_on.ensures.on (search rules));
    }
