use Rattle.std.proofs.Common.{◌≡◌, ◌++◌, ◌∙◌, ap}
use Rattle.chi_engine.specs.Settings.{settings_of}
use Rattle.chi_engine.specs.Below.chi_machine_traces.specs.Told.{RunsCode}
use Rattle.chi_tool.specs.Call.{sink_use}
use Rattle.chi_tool.proofs.Made.{runs_logged, runs_lost}
use Rattle.chi_tool.proofs.by_engine.run_job.Goals as goal

pub run-requires-clause-begins : goal.run-requires-clause-begins
run-requires-clause-begins g c = record {
  core = c.args.core.now;
  codes = c.requires.codes;
  sound = c.requires.sound;
  model_takes = c.requires.arguments;
  bounded = c.requires.bound;
}

pub returns : goal.returns
returns g c =
    let core = c.args.core.now in
    let runs : RunsCode core c.args.code.now c.args.job.arguments.items =
    record { codes = c.requires.codes; sound = c.requires.sound; model_takes = c.requires.arguments } in
    runs_logged (g.E.Engine.outcome c.args.engine.now) core (settings_of c.args.job) (sink_use g.O.Sink.taken g.O.Sink.faults g.O.Sink.stopped c.args.out.now c.run.new.out)
    (λ lines. c.run.new.log.items ≡ c.new-log.result.items ++ lines) (record { ending = c.in_ok-ending.ending; log = c.run.new.log })
    (λ lines e. e ∙ ap (λ before. before ++ lines) c.new-log.ensures.items) c.in_ok-ending.ensures.count (c.in_ok-ending.ensures.comes core runs)

pub returns-in_err-ending : goal.returns-in_err-ending
returns-in_err-ending g c =
    let core = c.args.core.now in
    let runs : RunsCode core c.args.code.now c.args.job.arguments.items =
    record { codes = c.requires.codes; sound = c.requires.sound; model_takes = c.requires.arguments } in
    runs_lost (g.E.Engine.outcome c.args.engine.now) core (settings_of c.args.job) (sink_use g.O.Sink.taken g.O.Sink.faults g.O.Sink.stopped c.args.out.now c.run.new.out)
    (λ lines. c.run.new.log.items ≡ c.new-log.result.items ++ lines) c.from_residual.result c.in_err-ending.field-0.0 c.from_residual.ensures.1 (c.in_err-ending.ensures.comes core runs)
