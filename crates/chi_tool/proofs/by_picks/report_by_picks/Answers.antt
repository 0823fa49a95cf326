use Rattle.std.proofs.Common.{refl, subst}
use Rattle.chi_picks.specs.Lists.{IsRefused}
use Rattle.chi_engine.specs.Below.chi_machine_traces.specs.declared.passing.PassFault.TheVariants.{NoMemory}
use Rattle.chi_tool.specs.Call.{sink_use}
use Rattle.chi_tool.specs.Settings.{unpicked_of}
use Rattle.chi_tool.specs.Report.{IsReportByPicks}
use Rattle.chi_tool.proofs.Made.{makes_apart, makes_none, listed_ran, mispicked_told}
use Rattle.chi_tool.proofs.by_picks.report_by_picks.Goals as goal

pub returns-in-Ok : goal.returns-in-Ok
returns-in-Ok g c =
    listed_ran c.args.core.now (unpicked_of c.args.asked.now) c.args.arguments.items c.args.text.now c.in-Ok.picks.items (sink_use g.O.Sink.taken g.O.Sink.faults g.O.Sink.stopped c.args.out.now c.run.new.out) c.run.result c.in-Ok.ensures
    (rw (c.with-terms.ensures) at c.run.ensures)

pub returns-in-Err-Line : goal.returns-in-Err-Line
returns-in-Err-Line g c =
    makes_apart g.O.Sink.taken g.O.Sink.faults g.O.Sink.stopped c.args.out.now c.requires.out_goes (IsReportByPicks c.args.core.now (unpicked_of c.args.asked.now) c.args.text.now c.args.arguments.items) c.mispicked.result c.unpassed.result c.unpassed.ensures
    (mispicked_told c.args.core.now (unpicked_of c.args.asked.now) c.args.arguments.items c.args.text.now c.in-Err-Line.number c.mispicked.result
    (subst (IsRefused c.args.text.now) c.in-Err-Line.field-0-is c.in-Err-Line.ensures) c.mispicked.ensures)

pub returns : goal.returns
returns g c =
    makes_none g.O.Sink.taken g.O.Sink.faults g.O.Sink.stopped c.args.out.now c.requires.out_goes (IsReportByPicks c.args.core.now (unpicked_of c.args.asked.now) c.args.text.now c.args.arguments.items) NoMemory refl
