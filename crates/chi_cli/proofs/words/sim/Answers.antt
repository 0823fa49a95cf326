use Rattle.std.proofs.Common.{◌∙◌, sym, ap}
use Rattle.clap.specs.Words.{found_of, rows_of}
use Rattle.chi_cli.specs.Probes.{probe_or_all}
use Rattle.chi_cli.proofs.Asking.{sim_given, sim_refused, sim_without}
use Rattle.chi_cli.proofs.words.sim.Goals as goal

pub returns-in-Ok-clause-request : goal.returns-in-Ok-clause-request
returns-in-Ok-clause-request c =
    let probed = ap probe_or_all (sym c.value_of.ensures) ∙ sym c.in-Some.ensures in
    sim_given (rows_of (found_of c.args.matches.now)) c.has_trace-trace.result c.in-Some.probe c.has_trace-trace.ensures probed c.in-Ok.run' c.in-Ok.ensures.asked
    c.simulated.result c.simulated.ensures

pub returns-in-Ok-clause-fault : goal.returns-in-Ok-clause-fault
returns-in-Ok-clause-fault c =
    let probed = ap probe_or_all (sym c.value_of.ensures) ∙ sym c.in-Some.ensures in
    sim_refused (rows_of (found_of c.args.matches.now)) c.has_trace-trace.result c.in-Some.probe c.has_trace-trace.ensures probed c.in-Ok.run' c.in-Ok.ensures.asked
    c.simulated.result c.simulated.ensures

pub returns-in-Err-clause-fault : goal.returns-in-Err-clause-fault
returns-in-Err-clause-fault c =
    let probed = ap probe_or_all (sym c.value_of.ensures) ∙ sym c.in-Some.ensures in
    sim_without (rows_of (found_of c.args.matches.now)) c.has_trace-trace.result c.in-Some.probe c.has_trace-trace.ensures probed c.in-Err.fault c.in-Err.ensures.fault
