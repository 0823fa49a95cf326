use Rattle.std.proofs.Common.{subst}
use Rattle.chi_tool.specs.Call.{sink_use}
use Rattle.chi_tool.specs.Explaining.{IsProgramTold}
use Rattle.chi_tool.specs.Readings.{IsReadingOf, SoundlyComes}
use Rattle.chi_tool.specs.Report.{IsExplained}
use Rattle.chi_tool.specs.Settings.{wanted_of}
use Rattle.chi_tool.proofs.Explained.{program_explained, refusal_explained}
use Rattle.chi_tool.proofs.Made.{makes_apart, makes_lost, makes_on}
use Rattle.chi_tool.proofs.Runs.{if_ok}
use Rattle.chi_tool.proofs.explain.report_at_length.Goals as goal

pub refusal_told-requires-clause-is : goal.refusal_told-requires-clause-is
refusal_told-requires-clause-is g c = subst (IsReadingOf c.args.source.now) c.in-Refused.is c.in_ok-refusal.ensures

pub program_told-requires-clause-sound : goal.program_told-requires-clause-sound
program_told-requires-clause-sound g c =
    let comes : SoundlyComes c.args.source.now c.in-Program.core = subst (IsReadingOf c.args.source.now) c.in-Program.is c.in_ok-refusal.ensures in comes.sound

pub returns-in-Refused : goal.returns-in-Refused
returns-in-Refused g c =
    let has = subst (IsReadingOf c.args.source.now) c.in-Refused.is c.in_ok-refusal.ensures in
    let runs = g.E.Engine.outcome c.args.engine.now in
    let w = wanted_of c.args.asked.now in
    makes_apart g.O.Sink.taken g.O.Sink.faults g.O.Sink.stopped c.args.out.now c.requires.out_goes (IsExplained runs c.args.file.now w c.args.source.now) c.refusal_told.result c.unpassed.result
    c.unpassed.ensures (if_ok c.refusal_told.result (λ r told. refusal_explained runs c.args.file.now c.args.source.now w c.in-Refused.refusal has _ told) c.refusal_told.ensures)

pub returns-in-Program : goal.returns-in-Program
returns-in-Program g c =
    let comes : SoundlyComes c.args.source.now c.in-Program.core = subst (IsReadingOf c.args.source.now) c.in-Program.is c.in_ok-refusal.ensures in
    let runs = g.E.Engine.outcome c.args.engine.now in
    let w = wanted_of c.args.asked.now in
    makes_on (IsProgramTold runs c.args.source.now c.in-Program.core w) (IsExplained runs c.args.file.now w c.args.source.now)
    (sink_use g.O.Sink.taken g.O.Sink.faults g.O.Sink.stopped c.args.out.now c.program_told.new.out) c.program_told.result
    (λ r told. program_explained runs c.args.file.now c.args.source.now w c.in-Program.core comes.comes r told) c.program_told.ensures

pub returns-in_err-refusal : goal.returns-in_err-refusal
returns-in_err-refusal g c =
    makes_lost g.O.Sink.taken g.O.Sink.faults g.O.Sink.stopped c.args.out.now c.requires.out_goes
    (IsExplained (g.E.Engine.outcome c.args.engine.now) c.args.file.now (wanted_of c.args.asked.now) c.args.source.now) c.from_residual.result c.from_residual.ensures.1
