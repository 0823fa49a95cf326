use Rattle.std.proofs.Common.{subst}
use Rattle.chi_tool.specs.Call.{sink_use}
use Rattle.chi_tool.specs.Readings.{AreReadAs}
use Rattle.chi_tool.specs.Report.{unfit, fit, IsReportByPicks, IsReportOfReplay}
use Rattle.chi_tool.specs.Settings.{unpicked_of}
use Rattle.chi_tool.proofs.Made.{makes_here, makes_lost, makes_on}
use Rattle.chi_tool.proofs.by_picks.report_of_replay.Goals as goal

pub report_by_picks-requires-clause-arguments : goal.report_by_picks-requires-clause-arguments
report_by_picks-requires-clause-arguments g c =
    let means = subst (AreReadAs c.args.core.now c.args.asked.now.texts) c.in-Fit.is (rw (c.as_slice.ensures.same) at c.in_ok-refusal.ensures) in means.1

pub returns-in-Unfit : goal.returns-in-Unfit
returns-in-Unfit g c =
    let no = subst (AreReadAs c.args.core.now c.args.asked.now.texts) c.in-Unfit.is (rw (c.as_slice.ensures.same) at c.in_ok-refusal.ensures) in
    makes_here g.O.Sink.taken g.O.Sink.faults g.O.Sink.stopped c.args.out.now c.requires.out_goes (IsReportOfReplay c.args.core.now (unpicked_of c.args.asked.now) c.args.text.now) c.in-Unfit.refusal (unfit no.0 no.1 no.2 no.3)

pub returns-in-Fit : goal.returns-in-Fit
returns-in-Fit g c =
    let means = subst (AreReadAs c.args.core.now c.args.asked.now.texts) c.in-Fit.is (rw (c.as_slice.ensures.same) at c.in_ok-refusal.ensures) in
    makes_on (IsReportByPicks c.args.core.now (unpicked_of c.args.asked.now) c.args.text.now c.in-Fit.arguments.items) (IsReportOfReplay c.args.core.now (unpicked_of c.args.asked.now) c.args.text.now)
    (sink_use g.O.Sink.taken g.O.Sink.faults g.O.Sink.stopped c.args.out.now c.report_by_picks.new.out) c.report_by_picks.result (λ r of. fit c.in-Fit.arguments.items means.0 of) c.report_by_picks.ensures

pub returns-in_err-refusal : goal.returns-in_err-refusal
returns-in_err-refusal g c = makes_lost g.O.Sink.taken g.O.Sink.faults g.O.Sink.stopped c.args.out.now c.requires.out_goes (IsReportOfReplay c.args.core.now (unpicked_of c.args.asked.now) c.args.text.now) c.from_residual.result c.from_residual.ensures.1
