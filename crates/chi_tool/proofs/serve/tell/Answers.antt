use Rattle.std.proofs.Common.{Err, subst}
use Rattle.chi_tool.specs.Call.{sink_use}
use Rattle.chi_tool.specs.Report.{IsReportTo}
use Rattle.chi_tool.specs.Serving.{Makes}
use Rattle.chi_tool.proofs.Made.{tells_rest, tells_none}
use Rattle.chi_tool.proofs.Sinks.{still}
use Rattle.chi_tool.proofs.serve.tell.Goals as goal

pub deliver-requires-clause-out_goes : goal.deliver-requires-clause-out_goes
deliver-requires-clause-out_goes g c = c.in-Ok.ensures.1.goes

pub returns-in-Ok : goal.returns-in-Ok
returns-in-Ok g c =
    tells_rest g.O.Sink.taken g.O.Sink.faults g.O.Sink.stopped c.args.out.now c.report_of.new.out c.deliver.new.out (IsReportTo (g.E.Engine.outcome c.args.engine.now) c.args.asked.now.file c.args.asked.now.purpose c.args.source.now) c.in-Ok.report c.deliver.result _ (rw (c.as_slice-file.ensures.same) at c.in-Ok.ensures)
    (rw (c.deref.ensures.value, c.deref-in-Ok.ensures.value) at c.deliver.ensures)

pub returns-in-Err : goal.returns-in-Err
returns-in-Err g c =
    tells_none (IsReportTo (g.E.Engine.outcome c.args.engine.now) c.args.asked.now.file c.args.asked.now.purpose c.args.source.now) c.in-Err.fault c.status_without.result (sink_use g.O.Sink.taken g.O.Sink.faults g.O.Sink.stopped c.args.out.now c.report_of.new.out) _ c.status_without.ensures
    (subst (λ f. Makes (IsReportTo (g.E.Engine.outcome c.args.engine.now) f c.args.asked.now.purpose c.args.source.now)
    (sink_use g.O.Sink.taken g.O.Sink.faults g.O.Sink.stopped c.args.out.now c.report_of.new.out) (Err c.in-Err.fault)) c.as_slice-file.ensures.same c.in-Err.ensures)
    (record { took = still _; goes = c.requires.log_goes })
