use Rattle.std.proofs.Common.{sym, subst}
use Rattle.chi_tool.specs.Readings.{IsReadingOf}
use Rattle.chi_tool.specs.Sources.{IsRefused}
use Rattle.chi_tool.proofs.Readings.{refused_is}
use Rattle.chi_tool.proofs.source.read.Goals as goal

pub returns-in_ok-refusal-in-Refused : goal.returns-in_ok-refusal-in-Refused
returns-in_ok-refusal-in-Refused c =
    let has = subst (IsReadingOf c.args.source.now) c.in-Refused.is c.in_ok-refused.ensures in
    subst (IsRefused c.args.source.now) (sym c.in_ok-refusal-in-Refused.ensures) (refused_is c.args.source.now c.in-Refused.refused has)

pub returns-in-Program : goal.returns-in-Program
returns-in-Program c = subst (IsReadingOf c.args.source.now) c.in-Program.is c.in_ok-refused.ensures
