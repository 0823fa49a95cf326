use Rattle.std.proofs.Common.{◌≡◌, ℕ, List, ◌++◌, ◌∙◌, ap, option_map}
use Rattle.chi_engine.specs.Courses.{IsRunOf}
use Rattle.chi_engine.specs.Settings.{settings_by}
use Rattle.chi_engine.specs.Below.chi_machine_traces.specs.Told.{RunsCode}
use Rattle.chi_tool.specs.Call.{sink_use}
use Rattle.chi_tool.specs.Running.{IsRunReport}
use Rattle.chi_tool.proofs.Made.{makes_fault, ran_makes, fault_makes}
use Rattle.chi_tool.proofs.run.run_code.Goals as goal

pub run_guided-requires-clause-begins : goal.run_guided-requires-clause-begins
run_guided-requires-clause-begins g c = record {
  core = c.args.core.now;
  codes = c.requires.codes;
  sound = c.requires.sound;
  model_takes = c.requires.arguments;
  bounded = c.requires.bound;
}

pub reported-requires : goal.reported-requires
reported-requires g c =
    let runs : RunsCode c.args.core.now c.args.code.now c.args.arguments.items =
    record { codes = c.requires.codes; sound = c.requires.sound; model_takes = c.requires.arguments } in
    let pick = c.chooser_law.ensures in
    let ran = c.in_ok-ending.ensures.comes c.args.core.now runs pick.0 pick.1 in ran.1.may

pub returns : goal.returns
returns g c pick answers =
    let core = c.args.core.now in
    let runs : RunsCode core c.args.code.now c.args.arguments.items =
    record { codes = c.requires.codes; sound = c.requires.sound; model_takes = c.requires.arguments } in
    let settings = settings_by pick (option_map g.S.Sieve.keeps_to c.args.terms.trace) c.args.arguments.items c.args.terms in
    let out = sink_use g.O.Sink.taken g.O.Sink.faults g.O.Sink.stopped c.args.out.now c.run_guided.new.out in
    ran_makes IsRunOf core settings out (λ lines. c.run_guided.new.log.items ≡ c.new-log.result.items ++ lines) c.in_ok-ending.ending c.run_guided.new.log.items (λ lines e. e ∙ ap (λ before. before ++ lines) c.new-log.ensures.items) c.in_ok-ending.ensures.count
    (c.in_ok-ending.ensures.comes core runs pick answers) c.reported.result c.unpassed.result c.unpassed.ensures c.reported.ensures

pub returns-in_err-ending : goal.returns-in_err-ending
returns-in_err-ending g c pick answers =
    let core = c.args.core.now in
    let runs : RunsCode core c.args.code.now c.args.arguments.items =
    record { codes = c.requires.codes; sound = c.requires.sound; model_takes = c.requires.arguments } in
    let settings = settings_by pick (option_map g.S.Sieve.keeps_to c.args.terms.trace) c.args.arguments.items c.args.terms in
    let out = sink_use g.O.Sink.taken g.O.Sink.faults g.O.Sink.stopped c.args.out.now c.run_guided.new.out in
    let logged : List ℕ → Type 0 = λ lines. c.run_guided.new.log.items ≡ c.new-log.result.items ++ lines in
    makes_fault (IsRunReport IsRunOf core settings) out c.from_residual.result c.in_err-ending.field-0.0 c.from_residual.ensures.1
    (fault_makes IsRunOf core settings out logged c.in_err-ending.field-0.0 (c.in_err-ending.ensures.comes core runs pick answers))
