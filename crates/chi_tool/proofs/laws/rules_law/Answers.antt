use Rattle.std.proofs.Common.{refl}
use Rattle.chi_tool.proofs.laws.rules_law.Goals as goal

pub returns : goal.returns
returns c = record { numbered = refl; told = refl; named = refl }
