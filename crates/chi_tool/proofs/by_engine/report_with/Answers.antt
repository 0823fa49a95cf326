use Rattle.std.proofs.Common.{◌≡◌}
use Rattle.chi_tool.specs.Call.{sink_use}
use Rattle.chi_tool.specs.Running.{IsRunReport}
use Rattle.chi_tool.specs.Settings.{settings_with, wanted_of}
use Rattle.chi_tool.proofs.Made.{makes_fault, ran_makes, report_fault}
use Rattle.chi_tool.proofs.by_engine.report_with.Goals as goal

pub reported-requires : goal.reported-requires
reported-requires g c = c.in_ok-ran.ensures.1.1.may

pub returns : goal.returns
returns g c =
    ran_makes (g.E.Engine.outcome c.args.engine.now) c.args.core.now (settings_with (wanted_of c.args.asked.now) c.args.arguments.items)
    (sink_use g.O.Sink.taken g.O.Sink.faults g.O.Sink.stopped c.args.out.now c.run_by_engine.new.out) (λ lines. c.in_ok-ran.ran.log.items ≡ lines) c.in_ok-ran.ran.ending c.in_ok-ran.ran.log.items
    (λ lines e. e) c.in_ok-ran.ensures.0 c.in_ok-ran.ensures.1 c.reported.result c.unpassed.result c.unpassed.ensures c.reported.ensures

pub returns-in_err-ran : goal.returns-in_err-ran
returns-in_err-ran g c =
    let out = sink_use g.O.Sink.taken g.O.Sink.faults g.O.Sink.stopped c.args.out.now c.run_by_engine.new.out in
    makes_fault (IsRunReport (g.E.Engine.outcome c.args.engine.now) c.args.core.now (settings_with (wanted_of c.args.asked.now) c.args.arguments.items)) out c.from_residual.result
    c.in_err-ran.field-0.0 c.from_residual.ensures.1
    (report_fault (g.E.Engine.outcome c.args.engine.now) c.args.core.now (settings_with (wanted_of c.args.asked.now) c.args.arguments.items) out c.in_err-ran.field-0.0 c.in_err-ran.ensures)
