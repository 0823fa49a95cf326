use Rattle.std.proofs.Common.{option_map}
use Rattle.chi_engine.specs.Courses.{IsRunOf}
use Rattle.chi_engine.specs.Settings.{Settings}
use Rattle.chi_tool.specs.Running.{IsRunReport}
use Rattle.chi_tool.proofs.Made.{makes_lost}
use Rattle.chi_tool.proofs.run.run.Goals as goal

pub returns-in_err-code : goal.returns-in_err-code
returns-in_err-code g c pick answers =
    let s : Settings = record {
      seed = c.args.terms.seed;
      bound = c.args.terms.bound;
      pick = pick;
      arguments = c.args.arguments.items;
      until = c.args.terms.until;
      trace = option_map g.S.Sieve.keeps_to c.args.terms.trace;
    } in
    makes_lost g.O.Sink.taken g.O.Sink.faults g.O.Sink.stopped c.args.out.now c.requires.out_goes (IsRunReport IsRunOf c.args.core.now s) c.from_residual.result c.from_residual.ensures.1
