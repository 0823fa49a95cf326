use Rattle.chi_engine.specs.Settings.{policy_of}
use Rattle.chi_xper_runs.specs.Models.{with_model}
use Rattle.chi_xper_machines.proofs.Made.{came_of, may_begin}
use Rattle.chi_xper_machines.proofs.runner.run_code.Goals as goal

pub gather-requires-clause-begins : goal.gather-requires-clause-begins
gather-requires-clause-begins c = may_begin (with_model c.args.core.now c.args.code.now.model) c.args.code.now c.args.job.arguments.items c.args.job.terms.bound c.requires.runs c.requires.bound

pub returns : goal.returns
returns c = λ outcome is.
    came_of c.picked_law.ensures.once c.args.core.now (policy_of c.args.job.terms.policy) c.args.job.terms.bound c.args.code.now.model c.args.job.arguments.items c.args.job.terms.seed c.args.job.terms.until c.args.job.terms.trace outcome is
    c.requires.until _ _ (c.in-Ok.ensures (with_model c.args.core.now c.args.code.now.model) c.requires.runs) _ _ _ _ c.as_slice.ensures.value c.append-end.ensures
