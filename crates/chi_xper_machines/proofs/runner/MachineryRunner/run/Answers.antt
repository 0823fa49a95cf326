use Rattle.chi_engine.specs.Settings.{policy_of}
use Rattle.chi_engine.proofs.Policies.{named_lawful}
use Rattle.chi_xper_machines.specs.Runs.{outcomes_by}
use Rattle.chi_xper_machines.proofs.Made.{are_by, runs_there, made_there}
use Rattle.chi_xper_machines.proofs.runner.MachineryRunner.run.Goals as goal

pub run_code-requires-clause-runs : goal.run_code-requires-clause-runs
run_code-requires-clause-runs c =
    let old = c.args.self.now in runs_there old.core.now old.code old.bound c.args.model c.args.arguments.items c.requires

pub run_code-requires-clause-bound : goal.run_code-requires-clause-bound
run_code-requires-clause-bound c = c.requires.bounded

pub returns-clause-comes : goal.returns-clause-comes
returns-clause-comes c =
    let old = c.args.self.now in
    c.run_code.ensures (outcomes_by old.core.now (policy_of old.pick) old.bound c.args.model c.args.arguments.items c.args.seed)
    (are_by c.picked_law.ensures.always old.core.now c.requires.sound (policy_of old.pick) (named_lawful old.pick) old.bound c.requires.bounded c.args.model c.requires.exit c.args.arguments.items c.requires.may c.args.seed)

pub returns-clause-same_allowed : goal.returns-clause-same_allowed
returns-clause-same_allowed c = λ number values.
    let old = c.args.self.now in
    (made_there old.core.now (record old.code { model = c.args.model }) old.code.model old.bound number values, made_there old.core.now old.code c.args.model old.bound number values)
