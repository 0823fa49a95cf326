use Rattle.chi_engine.specs.Courses.{IsRunOf}
use Rattle.chi_tool.specs.Call.{sink_use}
use Rattle.std.proofs.Common.{option_map}
use Rattle.chi_tool.specs.Report.{IsReportOfSource}
use Rattle.chi_tool.specs.Settings.{Wanted, simulates}
use Rattle.chi_tool.proofs.Made.{tells_rest, tells_none}
use Rattle.chi_tool.proofs.Sinks.{still}
use Rattle.chi_tool.proofs.library.tell_terms.Goals as goal

pub deliver-requires-clause-out_goes : goal.deliver-requires-clause-out_goes
deliver-requires-clause-out_goes g c = (c.in-Ok.ensures c.chooser_law.ensures.0 c.chooser_law.ensures.1).1.goes

pub returns-in-Ok : goal.returns-in-Ok
returns-in-Ok g c pick answers =
    let w : Wanted = record {
      seed = c.args.terms.seed;
      bound = c.args.terms.bound;
      pick = pick;
      texts = c.args.texts.now;
      until = c.args.terms.until;
      trace = option_map g.S.Sieve.keeps_to c.args.terms.trace;
    } in
    tells_rest g.O.Sink.taken g.O.Sink.faults g.O.Sink.stopped c.args.out.now c.report_of_terms.new.out c.deliver.new.out (IsReportOfSource IsRunOf c.args.source.now (simulates w)) c.in-Ok.report c.deliver.result _ (c.in-Ok.ensures pick answers)
    (rw (c.deref.ensures.value, c.deref-in-Ok.ensures.value) at c.deliver.ensures)

pub returns-in-Err : goal.returns-in-Err
returns-in-Err g c pick answers =
    let w : Wanted = record {
      seed = c.args.terms.seed;
      bound = c.args.terms.bound;
      pick = pick;
      texts = c.args.texts.now;
      until = c.args.terms.until;
      trace = option_map g.S.Sieve.keeps_to c.args.terms.trace;
    } in
    tells_none (IsReportOfSource IsRunOf c.args.source.now (simulates w)) c.in-Err.fault c.status_without.result (sink_use g.O.Sink.taken g.O.Sink.faults g.O.Sink.stopped c.args.out.now c.report_of_terms.new.out) _ c.status_without.ensures (c.in-Err.ensures pick answers)
    (record { took = still _; goes = c.requires.log_goes })
