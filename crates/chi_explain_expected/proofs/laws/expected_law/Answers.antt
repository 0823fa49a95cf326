use Rattle.chi_explain_expected.proofs.Choices.{some_choice, one_choice}
use Rattle.chi_explain_expected.proofs.laws.expected_law.Goals as goal

pub returns : goal.returns
returns c = record { some = some_choice; one = one_choice }
