use Rattle.std.proofs.Common.{sym, subst}
use Rattle.chi_tool.specs.Call.{sink_use}
use Rattle.chi_tool.specs.Report.{IsReportFor, IsReportTo}
use Rattle.chi_tool.specs.Serving.{Makes}
use Rattle.chi_tool.specs.Settings.{lays_out}
use Rattle.chi_tool.proofs.Made.{makes_apart}
use Rattle.chi_tool.proofs.serve.report_of.Goals as goal

pub returns-in-OfProgram : goal.returns-in-OfProgram
returns-in-OfProgram g c =
    subst (λ p. Makes (IsReportTo (g.E.Engine.outcome c.args.engine.now) c.args.file.now p c.args.source.now) (sink_use g.O.Sink.taken g.O.Sink.faults g.O.Sink.stopped c.args.out.now c.report_of_source.new.out) c.report_of_source.result) (sym c.in-OfProgram.is) c.report_of_source.ensures

pub returns-in-Explain : goal.returns-in-Explain
returns-in-Explain g c =
    subst (λ p. Makes (IsReportTo (g.E.Engine.outcome c.args.engine.now) c.args.file.now p c.args.source.now) (sink_use g.O.Sink.taken g.O.Sink.faults g.O.Sink.stopped c.args.out.now c.report_at_length.new.out) c.report_at_length.result) (sym c.in-Explain.is) c.report_at_length.ensures

pub returns-in-LayOut : goal.returns-in-LayOut
returns-in-LayOut g c =
    subst (λ p. Makes (IsReportTo (g.E.Engine.outcome c.args.engine.now) c.args.file.now p c.args.source.now) (sink_use g.O.Sink.taken g.O.Sink.faults g.O.Sink.stopped c.args.out.now c.args.out.now) c.unpassed.result) (sym c.in-LayOut.is)
    (makes_apart g.O.Sink.taken g.O.Sink.faults g.O.Sink.stopped c.args.out.now c.requires.out_goes (IsReportFor (g.E.Engine.outcome c.args.engine.now) lays_out c.args.source.now) c.report_of_layout.result c.unpassed.result c.unpassed.ensures c.report_of_layout.ensures)
