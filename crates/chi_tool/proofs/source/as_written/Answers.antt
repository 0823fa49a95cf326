use Rattle.std.proofs.Common.{sym, subst}
use Rattle.chi_tool.specs.Readings.{IsSpelledAs}
use Rattle.chi_tool.specs.Sources.{IsUnparsed}
use Rattle.chi_tool.proofs.Readings.{unparsed_is}
use Rattle.chi_tool.proofs.source.as_written.Goals as goal

pub returns-in_ok-refusal-in-Unparsed : goal.returns-in_ok-refusal-in-Unparsed
returns-in_ok-refusal-in-Unparsed c =
    let has = subst (IsSpelledAs c.args.source.now) c.in-Unparsed.is c.in_ok-unparsed.ensures in
    subst (IsUnparsed c.args.source.now) (sym c.in_ok-refusal-in-Unparsed.ensures) (unparsed_is c.args.source.now c.in-Unparsed.unparsed has)

pub returns-in-Written : goal.returns-in-Written
returns-in-Written c = subst (IsSpelledAs c.args.source.now) c.in-Written.is c.in_ok-unparsed.ensures
