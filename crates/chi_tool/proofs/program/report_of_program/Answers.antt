use Rattle.std.proofs.Common.{sym, subst}
use Rattle.chi_tool.specs.Call.{sink_use}
use Rattle.chi_tool.specs.Report.{IsReportOfProgram}
use Rattle.chi_tool.specs.Serving.{Makes}
use Rattle.chi_tool.specs.Settings.{program_aim, trying_of, checks, lists, tries}
use Rattle.chi_tool.proofs.Made.{makes_apart}
use Rattle.chi_tool.proofs.program.report_of_program.Goals as goal

pub returns-in-Check : goal.returns-in-Check
returns-in-Check g c =
    subst (λ p. Makes (IsReportOfProgram (g.E.Engine.outcome c.args.engine.now) c.args.core.now (program_aim p)) (sink_use g.O.Sink.taken g.O.Sink.faults g.O.Sink.stopped c.args.out.now c.args.out.now) c.unpassed.result) (sym c.in-Check.is)
    (makes_apart g.O.Sink.taken g.O.Sink.faults g.O.Sink.stopped c.args.out.now c.requires.out_goes (IsReportOfProgram (g.E.Engine.outcome c.args.engine.now) c.args.core.now checks) c.one_line.result c.unpassed.result c.unpassed.ensures c.one_line.ensures)

pub returns-in-Simulate : goal.returns-in-Simulate
returns-in-Simulate g c =
    subst (λ p. Makes (IsReportOfProgram (g.E.Engine.outcome c.args.engine.now) c.args.core.now (program_aim p)) (sink_use g.O.Sink.taken g.O.Sink.faults g.O.Sink.stopped c.args.out.now c.report_by_engine.new.out) c.report_by_engine.result) (sym c.in-Simulate.is) c.report_by_engine.ensures

pub returns-in-ListCode : goal.returns-in-ListCode
returns-in-ListCode g c =
    subst (λ p. Makes (IsReportOfProgram (g.E.Engine.outcome c.args.engine.now) c.args.core.now (program_aim p)) (sink_use g.O.Sink.taken g.O.Sink.faults g.O.Sink.stopped c.args.out.now c.args.out.now) c.unpassed-in-ListCode.result) (sym c.in-ListCode.is)
    (makes_apart g.O.Sink.taken g.O.Sink.faults g.O.Sink.stopped c.args.out.now c.requires.out_goes (IsReportOfProgram (g.E.Engine.outcome c.args.engine.now) c.args.core.now lists) c.report_of_code.result c.unpassed-in-ListCode.result c.unpassed-in-ListCode.ensures c.report_of_code.ensures)

pub returns-in-Experiment : goal.returns-in-Experiment
returns-in-Experiment g c =
    subst (λ p. Makes (IsReportOfProgram (g.E.Engine.outcome c.args.engine.now) c.args.core.now (program_aim p)) (sink_use g.O.Sink.taken g.O.Sink.faults g.O.Sink.stopped c.args.out.now c.args.out.now) c.unpassed-in-Experiment.result) (sym c.in-Experiment.is)
    (makes_apart g.O.Sink.taken g.O.Sink.faults g.O.Sink.stopped c.args.out.now c.requires.out_goes (IsReportOfProgram (g.E.Engine.outcome c.args.engine.now) c.args.core.now (tries (trying_of c.in-Experiment.terms))) c.report_of_trial.result c.unpassed-in-Experiment.result c.unpassed-in-Experiment.ensures c.report_of_trial.ensures)
