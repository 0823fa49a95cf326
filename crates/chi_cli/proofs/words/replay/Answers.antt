use Rattle.std.proofs.Common.{◌∙◌, Bool, Ok, Result, sym, ap}
use Rattle.std.specs.Prelude.{is_some}
use Rattle.chi_cli.specs.declared.command.Command.TheVariants as command
use Rattle.chi_cli.specs.declared.command.OptionName.TheVariants as option
use Rattle.chi_cli.specs.declared.fault.CliFault.{CliFault}
use Rattle.chi_cli.specs.declared.request.Request.{Request}
use Rattle.chi_cli.specs.Requests.{of_two, replayed, two_files, value_given}
use Rattle.chi_cli.proofs.Asking.{of_two_refused}
use Rattle.chi_cli.proofs.words.replay.Goals as goal

pub returns-in-Ok-clause-request : goal.returns-in-Ok-clause-request
returns-in-Ok-clause-request c said gives =
    let wanted : Bool = is_some (value_given option.Trace said.options) in
    let answer : Bool → Result Request CliFault = λ trace. Ok (replayed trace c.in-Ok.two) in
    ap (of_two (replayed wanted)) (c.in-Ok.ensures.asked command.Replay said gives) ∙ ap answer (sym (c.has_trace-trace.ensures wanted gives.trace))

pub returns-in-Err-clause-fault : goal.returns-in-Err-clause-fault
returns-in-Err-clause-fault c said gives =
    of_two_refused (replayed (is_some (value_given option.Trace said.options))) (two_files said.plain said.options) c.in-Err.fault
    (c.in-Err.ensures.fault command.Replay said gives)
