use Rattle.std.proofs.Common.{option_map, subst}
use Rattle.chi_engine.specs.Courses.{IsRunOf}
use Rattle.chi_tool.specs.Readings.{AreReadAs}
use Rattle.chi_tool.specs.Report.{unfit, IsReportOfRun}
use Rattle.chi_tool.specs.Call.{sink_use}
use Rattle.chi_tool.specs.Settings.{Wanted}
use Rattle.chi_tool.proofs.Made.{makes_here, makes_lost, model_ran}
use Rattle.chi_tool.proofs.program.report_of_run.Goals as goal

pub run-requires-clause-arguments : goal.run-requires-clause-arguments
run-requires-clause-arguments g c =
    let fit = subst (AreReadAs c.args.core.now c.args.texts.now) c.in-Fit.is c.in_ok-refusal.ensures in fit.1

pub returns-in-Unfit : goal.returns-in-Unfit
returns-in-Unfit g c pick answers =
    let no = subst (AreReadAs c.args.core.now c.args.texts.now) c.in-Unfit.is c.in_ok-refusal.ensures in
    let w : Wanted = record {
      seed = c.args.terms.seed;
      bound = c.args.terms.bound;
      pick = pick;
      texts = c.args.texts.now;
      until = c.args.terms.until;
      trace = option_map g.S.Sieve.keeps_to c.args.terms.trace;
    } in
    makes_here g.O.Sink.taken g.O.Sink.faults g.O.Sink.stopped c.args.out.now c.requires.out_goes (IsReportOfRun IsRunOf c.args.core.now w) c.in-Unfit.refusal (unfit no.0 no.1 no.2 no.3)

pub returns-in-Fit : goal.returns-in-Fit
returns-in-Fit g c =
    let fit = subst (AreReadAs c.args.core.now c.args.texts.now) c.in-Fit.is c.in_ok-refusal.ensures in
    model_ran (g.P.Chooser.gives c.args.terms.policy) c.args.core.now c.args.terms.seed c.args.terms.bound c.args.texts.now c.args.terms.until (option_map g.S.Sieve.keeps_to c.args.terms.trace)
    (sink_use g.O.Sink.taken g.O.Sink.faults g.O.Sink.stopped c.args.out.now c.run.new.out) c.run.result c.in-Fit.arguments.items fit.0 c.run.ensures

pub returns-in_err-refusal : goal.returns-in_err-refusal
returns-in_err-refusal g c pick answers =
    let w : Wanted = record {
      seed = c.args.terms.seed;
      bound = c.args.terms.bound;
      pick = pick;
      texts = c.args.texts.now;
      until = c.args.terms.until;
      trace = option_map g.S.Sieve.keeps_to c.args.terms.trace;
    } in
    makes_lost g.O.Sink.taken g.O.Sink.faults g.O.Sink.stopped c.args.out.now c.requires.out_goes (IsReportOfRun IsRunOf c.args.core.now w) c.from_residual.result c.from_residual.ensures.1
