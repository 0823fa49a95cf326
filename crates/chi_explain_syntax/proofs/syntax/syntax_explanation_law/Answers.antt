use Rattle.chi_explain_syntax.proofs.Telling.{some_explanation, one_explanation}
use Rattle.chi_explain_syntax.proofs.syntax.syntax_explanation_law.Goals as goal

pub returns : goal.returns
returns c = record { some = some_explanation c.expected_law.ensures.some c.block_depth_law.ensures; one = one_explanation c.expected_law.ensures.one }
