use Rattle.std.proofs.Common.{subst}
use Rattle.chi_engine.specs.Courses.{IsRunOf}
use Rattle.chi_tool.specs.Call.{sink_use}
use Rattle.chi_tool.specs.Readings.{IsReadAs, SoundlyComes}
use Rattle.chi_tool.specs.Report.{refused, IsReportOfSource}
use Rattle.chi_tool.specs.Settings.{pair_aim}
use Rattle.chi_tool.proofs.Made.{makes_here, makes_lost, program_reported}
use Rattle.chi_tool.proofs.pairs.report_of_pair.Goals as goal

pub report_by-requires-clause-sound : goal.report_by-requires-clause-sound
report_by-requires-clause-sound g c =
    let comes : SoundlyComes c.args.source.now c.in-Program.core = subst (IsReadAs c.args.source.now) c.in-Program.is c.in_ok-refusal.ensures in comes.sound

pub returns-in-Refused : goal.returns-in-Refused
returns-in-Refused g c =
    makes_here g.O.Sink.taken g.O.Sink.faults g.O.Sink.stopped c.args.out.now c.requires.out_goes (IsReportOfSource IsRunOf c.args.source.now (pair_aim c.args.purpose.now c.args.text.now)) c.in-Refused.refusal (refused (subst (IsReadAs c.args.source.now) c.in-Refused.is c.in_ok-refusal.ensures))

pub returns-in-Program : goal.returns-in-Program
returns-in-Program g c =
    let comes : SoundlyComes c.args.source.now c.in-Program.core = subst (IsReadAs c.args.source.now) c.in-Program.is c.in_ok-refusal.ensures in
    program_reported IsRunOf c.args.source.now c.in-Program.core (pair_aim c.args.purpose.now c.args.text.now) (sink_use g.O.Sink.taken g.O.Sink.faults g.O.Sink.stopped c.args.out.now c.report_by.new.out) c.report_by.result comes.comes c.report_by.ensures

pub returns-in_err-refusal : goal.returns-in_err-refusal
returns-in_err-refusal g c = makes_lost g.O.Sink.taken g.O.Sink.faults g.O.Sink.stopped c.args.out.now c.requires.out_goes (IsReportOfSource IsRunOf c.args.source.now (pair_aim c.args.purpose.now c.args.text.now)) c.from_residual.result c.from_residual.ensures.1
