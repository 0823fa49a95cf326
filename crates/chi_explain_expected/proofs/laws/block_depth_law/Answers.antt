use Rattle.chi_explain_expected.proofs.Choices.{block_or_not}
use Rattle.chi_explain_expected.proofs.laws.block_depth_law.Goals as goal

pub returns : goal.returns
returns c = block_or_not
