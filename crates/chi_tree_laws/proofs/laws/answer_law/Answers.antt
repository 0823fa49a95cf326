use Rattle.chi_tree_laws.proofs.ProgramAnswers.{answer_some, answer_one}
use Rattle.chi_tree_laws.proofs.laws.answer_law.Goals as goal

pub returns : goal.returns
returns c = record { some = answer_some; one = answer_one }
