use Rattle.std.proofs.Common.{ap}
use Rattle.chi_cli.specs.declared.command.Command.TheVariants as command
use Rattle.chi_cli.specs.Requests.{explained, one_run}
use Rattle.chi_cli.proofs.Asking.{explained_refused}
use Rattle.chi_cli.proofs.words.explain.Goals as goal

pub returns-in-Ok-clause-request : goal.returns-in-Ok-clause-request
returns-in-Ok-clause-request c said gives = ap explained (c.in-Ok.ensures.asked command.Explain said gives)

pub returns-in-Err-clause-fault : goal.returns-in-Err-clause-fault
returns-in-Err-clause-fault c said gives = explained_refused (one_run said.plain said.options) c.in-Err.fault (c.in-Err.ensures.fault command.Explain said gives)
