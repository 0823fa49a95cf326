use Rattle.std.proofs.Common.{subst}
use Rattle.chi_tool.specs.Call.{sink_use}
use Rattle.chi_tool.specs.Readings.{AreReadAs}
use Rattle.chi_tool.specs.Report.{unfit, IsReportOfRun}
use Rattle.chi_tool.specs.Settings.{wanted_of}
use Rattle.chi_tool.proofs.Made.{makes_here, makes_lost, fit_ran}
use Rattle.chi_tool.proofs.by_engine.report_by_engine.Goals as goal

pub report_with-requires-clause-arguments : goal.report_with-requires-clause-arguments
report_with-requires-clause-arguments g c =
    let means = subst (AreReadAs c.args.core.now c.args.asked.now.texts) c.in-Fit.is (rw (c.as_slice.ensures.same) at c.in_ok-refusal.ensures) in means.1

pub returns-in-Unfit : goal.returns-in-Unfit
returns-in-Unfit g c =
    let no = subst (AreReadAs c.args.core.now c.args.asked.now.texts) c.in-Unfit.is (rw (c.as_slice.ensures.same) at c.in_ok-refusal.ensures) in
    makes_here g.O.Sink.taken g.O.Sink.faults g.O.Sink.stopped c.args.out.now c.requires.out_goes (IsReportOfRun (g.E.Engine.outcome c.args.engine.now) c.args.core.now (wanted_of c.args.asked.now)) c.in-Unfit.refusal
    (unfit no.0 no.1 no.2 no.3)

pub returns-in-Fit : goal.returns-in-Fit
returns-in-Fit g c =
    let means = subst (AreReadAs c.args.core.now c.args.asked.now.texts) c.in-Fit.is (rw (c.as_slice.ensures.same) at c.in_ok-refusal.ensures) in
    fit_ran (g.E.Engine.outcome c.args.engine.now) c.args.core.now (wanted_of c.args.asked.now) (sink_use g.O.Sink.taken g.O.Sink.faults g.O.Sink.stopped c.args.out.now c.report_with.new.out) c.report_with.result c.in-Fit.arguments.items means.0
    c.report_with.ensures

pub returns-in_err-refusal : goal.returns-in_err-refusal
returns-in_err-refusal g c =
    makes_lost g.O.Sink.taken g.O.Sink.faults g.O.Sink.stopped c.args.out.now c.requires.out_goes (IsReportOfRun (g.E.Engine.outcome c.args.engine.now) c.args.core.now (wanted_of c.args.asked.now)) c.from_residual.result
    c.from_residual.ensures.1
