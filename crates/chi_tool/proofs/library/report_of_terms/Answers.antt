use Rattle.std.proofs.Common.{option_map, subst}
use Rattle.chi_engine.specs.Courses.{IsRunOf}
use Rattle.chi_tool.specs.Call.{sink_use}
use Rattle.chi_tool.specs.Readings.{IsReadAs, SoundlyComes}
use Rattle.chi_tool.specs.Report.{refused, IsReportOfSource}
use Rattle.chi_tool.specs.Settings.{Wanted, simulates}
use Rattle.chi_tool.proofs.Made.{makes_here, makes_lost, terms_reported}
use Rattle.chi_tool.proofs.library.report_of_terms.Goals as goal

pub report_of_run-requires-clause-sound : goal.report_of_run-requires-clause-sound
report_of_run-requires-clause-sound g c =
    let comes : SoundlyComes c.args.source.now c.in-Program.core = subst (IsReadAs c.args.source.now) c.in-Program.is c.in_ok-refusal.ensures in comes.sound

pub returns-in-Refused : goal.returns-in-Refused
returns-in-Refused g c pick answers =
    let w : Wanted = record {
      seed = c.args.terms.seed;
      bound = c.args.terms.bound;
      pick = pick;
      texts = c.args.texts.now;
      until = c.args.terms.until;
      trace = option_map g.S.Sieve.keeps_to c.args.terms.trace;
    } in
    makes_here g.O.Sink.taken g.O.Sink.faults g.O.Sink.stopped c.args.out.now c.requires.out_goes (IsReportOfSource IsRunOf c.args.source.now (simulates w)) c.in-Refused.refusal (refused (subst (IsReadAs c.args.source.now) c.in-Refused.is c.in_ok-refusal.ensures))

pub returns-in-Program : goal.returns-in-Program
returns-in-Program g c =
    let comes : SoundlyComes c.args.source.now c.in-Program.core = subst (IsReadAs c.args.source.now) c.in-Program.is c.in_ok-refusal.ensures in
    terms_reported (g.P.Chooser.gives c.args.terms.policy) c.args.source.now c.in-Program.core c.args.terms.seed c.args.terms.bound c.args.texts.now c.args.terms.until (option_map g.S.Sieve.keeps_to c.args.terms.trace)
    (sink_use g.O.Sink.taken g.O.Sink.faults g.O.Sink.stopped c.args.out.now c.report_of_run.new.out) c.report_of_run.result comes.comes c.report_of_run.ensures

pub returns-in_err-refusal : goal.returns-in_err-refusal
returns-in_err-refusal g c pick answers =
    let w : Wanted = record {
      seed = c.args.terms.seed;
      bound = c.args.terms.bound;
      pick = pick;
      texts = c.args.texts.now;
      until = c.args.terms.until;
      trace = option_map g.S.Sieve.keeps_to c.args.terms.trace;
    } in
    makes_lost g.O.Sink.taken g.O.Sink.faults g.O.Sink.stopped c.args.out.now c.requires.out_goes (IsReportOfSource IsRunOf c.args.source.now (simulates w)) c.from_residual.result c.from_residual.ensures.1
