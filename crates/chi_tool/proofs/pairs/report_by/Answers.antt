use Rattle.std.proofs.Common.{sym, subst}
use Rattle.std.specs.Prelude.{IfOk}
use Rattle.chi_engine.specs.Courses.{IsRunOf}
use Rattle.chi_tool.specs.Call.{sink_use}
use Rattle.chi_tool.specs.Report.{IsReportOfProgram}
use Rattle.chi_tool.specs.Reported.{report_in}
use Rattle.chi_tool.specs.Serving.{Makes}
use Rattle.chi_tool.specs.Settings.{pair_aim}
use Rattle.chi_tool.proofs.Made.{makes_apart}
use Rattle.chi_tool.proofs.pairs.report_by.Goals as goal

pub returns-in-Replay : goal.returns-in-Replay
returns-in-Replay g c =
    subst (λ p. Makes (IsReportOfProgram IsRunOf c.args.core.now (pair_aim p c.args.text.now)) (sink_use g.O.Sink.taken g.O.Sink.faults g.O.Sink.stopped c.args.out.now c.report_of_replay.new.out) c.report_of_replay.result) (sym c.in-Replay.is)
    c.report_of_replay.ensures

pub returns-in-OnLog : goal.returns-in-OnLog
returns-in-OnLog g c =
    makes_apart g.O.Sink.taken g.O.Sink.faults g.O.Sink.stopped c.args.out.now c.requires.out_goes (IsReportOfProgram IsRunOf c.args.core.now (pair_aim c.args.purpose.now c.args.text.now)) c.report_on_log.result
    c.unpassed.result c.unpassed.ensures
    (subst (λ p. IfOk c.report_on_log.result (λ r. IsReportOfProgram IsRunOf c.args.core.now (pair_aim p c.args.text.now) (report_in r))) (sym c.in-OnLog.is) c.report_on_log.ensures)
