use Rattle.clap.specs.Words.{found_of, rows_of}
use Rattle.chi_cli.specs.declared.command.Command.TheVariants as command
use Rattle.chi_cli.proofs.Asking.{experiment_given, experiment_refused}
use Rattle.chi_cli.proofs.words.xper.Goals as goal

pub returns-in-Ok-clause-request : goal.returns-in-Ok-clause-request
returns-in-Ok-clause-request c said gives =
    experiment_given (rows_of (found_of c.args.matches.now)) said gives c.in-Ok.run' (c.in-Ok.ensures.asked command.Xper said gives)

pub returns-in-Err-clause-fault : goal.returns-in-Err-clause-fault
returns-in-Err-clause-fault c said gives =
    experiment_refused (rows_of (found_of c.args.matches.now)) said gives c.in-Err.fault (c.in-Err.ensures.fault command.Xper said gives)
