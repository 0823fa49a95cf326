use Rattle.chi_grammar.proofs.OneAnswer.{one_answer}
use Rattle.chi_grammar.proofs.laws.one_answer_law.Goals as goal

pub returns : goal.returns
returns g c = one_answer
