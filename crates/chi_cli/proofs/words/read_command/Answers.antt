-- What the matches ask for is what the words do.
use Rattle.clap.specs.Words.{found_of, rows_of}
use Rattle.chi_cli.specs.Saying.{texts}
use Rattle.chi_cli.proofs.Asking.{fault_read}
use Rattle.std.proofs.Common.{◌≡◌, Some, rules}
use Rattle.chi_cli.specs.Commands.{command_named}
use Rattle.chi_cli.proofs.words.read_command.Goals as goal

pub returns-clause-fault : goal.returns-clause-fault
returns-clause-fault c =
    let named : command_named c.args.name.now ≡ Some c.in-Some.command = search rules in
    let said = c.in_ok-matches.ensures.said in
    fault_read c.args.name.now (texts c.args.words.now) c.in-Some.command (rows_of (found_of c.in_ok-matches.matches)) said.0 c.asked.result named said.1 said.2 c.asked.ensures.fault
