use Rattle.chi_engine.specs.Settings.{policy_of}
use Rattle.chi_xper_machines.specs.Runs.{outcomes_by}
use Rattle.chi_xper_machines.proofs.Telling.{are_named}
use Rattle.chi_xper_machines.proofs.whole.make.Goals as goal

pub experiment-end-requires-clause-exits : goal.experiment-end-requires-clause-exits
experiment-end-requires-clause-exits c =
    let core = c.args.core.now in
    let p = c.args.terms.pick in
    let bound = c.args.terms.bound in
    c.exits_law.ensures.exits core c.requires.sound (policy_of p) bound (outcomes_by core (policy_of p) bound)
    (are_named c.picked_law.ensures.always core c.requires.sound p bound c.requires.bound)
