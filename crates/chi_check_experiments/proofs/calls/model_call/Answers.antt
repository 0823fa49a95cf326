use Rattle.chi_check_experiments.proofs.CallSteps.{other_is}
use Rattle.chi_check_experiments.proofs.calls.model_call.Goals as goal

pub returns-in_default : goal.returns-in_default
returns-in_default c = other_is c.args.scope.now c.args.e.now c.in_default.not-Call
