use Rattle.std.proofs.Common.{ap}
use Rattle.chi_cli.specs.declared.command.Command.TheVariants as command
use Rattle.chi_cli.specs.Requests.{of_two, picked, two_files}
use Rattle.chi_cli.proofs.Asking.{of_two_refused}
use Rattle.chi_cli.proofs.words.picks.Goals as goal

pub returns-in-Ok-clause-request : goal.returns-in-Ok-clause-request
returns-in-Ok-clause-request c said gives = ap (of_two picked) (c.in-Ok.ensures.asked command.Picks said gives)

pub returns-in-Err-clause-fault : goal.returns-in-Err-clause-fault
returns-in-Err-clause-fault c said gives = of_two_refused picked (two_files said.plain said.options) c.in-Err.fault (c.in-Err.ensures.fault command.Picks said gives)
