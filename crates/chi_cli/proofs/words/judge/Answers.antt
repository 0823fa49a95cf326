use Rattle.std.proofs.Common.{ap}
use Rattle.chi_cli.specs.declared.command.Command.TheVariants as command
use Rattle.chi_cli.specs.Requests.{of_two, judged, two_files}
use Rattle.chi_cli.proofs.Asking.{of_two_refused}
use Rattle.chi_cli.proofs.words.judge.Goals as goal

pub returns-in-Ok-clause-request : goal.returns-in-Ok-clause-request
returns-in-Ok-clause-request c said gives = ap (of_two judged) (c.in-Ok.ensures.asked command.Judge said gives)

pub returns-in-Err-clause-fault : goal.returns-in-Err-clause-fault
returns-in-Err-clause-fault c said gives = of_two_refused judged (two_files said.plain said.options) c.in-Err.fault (c.in-Err.ensures.fault command.Judge said gives)
