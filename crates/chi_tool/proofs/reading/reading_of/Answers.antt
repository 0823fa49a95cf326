use Rattle.std.proofs.Common.{subst}
use Rattle.chi_tool.specs.Readings.{IsSpelledAs}
use Rattle.chi_tool.proofs.reading.reading_of.Goals as goal

pub read_tree-requires-clause-written : goal.read_tree-requires-clause-written
read_tree-requires-clause-written c =
    let is = subst (IsSpelledAs c.args.source.now) c.in-Written.is c.in_ok-unparsed.ensures in
    record { tokens = c.in-Written.tokens.items; read = is.0; parsed = is.1 }

pub returns-in-Unparsed : goal.returns-in-Unparsed
returns-in-Unparsed c = subst (IsSpelledAs c.args.source.now) c.in-Unparsed.is c.in_ok-unparsed.ensures
