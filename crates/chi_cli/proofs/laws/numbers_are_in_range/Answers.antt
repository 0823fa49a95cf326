use Rattle.chi_cli.proofs.InRange.{numbers_in_range}
use Rattle.chi_cli.proofs.laws.numbers_are_in_range.Goals as goal

pub returns : goal.returns
returns c = numbers_in_range
