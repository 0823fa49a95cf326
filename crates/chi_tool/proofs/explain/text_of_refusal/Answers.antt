use Rattle.std.proofs.Common.{subst}
use Rattle.chi_tool.specs.Readings.{IsRefusedAs}
use Rattle.chi_tool.proofs.explain.text_of_refusal.Goals as goal

pub text_of_unparsed-requires-clause-is : goal.text_of_unparsed-requires-clause-is
text_of_unparsed-requires-clause-is c = subst (IsRefusedAs c.args.source.now) c.in-Unparsed.is c.requires.is
