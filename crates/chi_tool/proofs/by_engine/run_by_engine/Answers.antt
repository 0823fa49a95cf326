use Rattle.std.proofs.Common.{subst}
use Rattle.chi_engine.specs.Settings.{policy_of, settings_by}
use Rattle.chi_tool.specs.Call.{sink_use}
use Rattle.chi_tool.specs.Serving.{RunsAs}
use Rattle.chi_tool.specs.Settings.{settings_with, wanted_of}
use Rattle.chi_tool.proofs.Made.{runs_none}
use Rattle.chi_tool.proofs.by_engine.run_by_engine.Goals as goal

pub returns : goal.returns
returns g c =
    subst
    (λ terms. RunsAs (g.E.Engine.outcome c.args.engine.now) c.args.core.now (settings_by (policy_of terms.policy) terms.trace c.args.arguments.items terms)
    (sink_use g.O.Sink.taken g.O.Sink.faults g.O.Sink.stopped c.args.out.now c.run_job-ran.new.out) c.run_job-ran.result) c.with-terms.ensures c.run_job-ran.ensures

pub returns-in_err-code : goal.returns-in_err-code
returns-in_err-code g c =
    runs_none g.O.Sink.taken g.O.Sink.faults g.O.Sink.stopped c.args.out.now c.requires.out_goes (g.E.Engine.outcome c.args.engine.now) c.args.core.now
    (settings_with (wanted_of c.args.asked.now) c.args.arguments.items) c.from_residual.result c.from_residual.ensures.1
