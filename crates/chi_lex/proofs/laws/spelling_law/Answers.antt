use Rattle.chi_lex.proofs.LawLemmas.{Reads-spelled}
use Rattle.chi_lex.proofs.laws.spelling_law.Goals as goal

pub returns : goal.returns
returns c = Reads-spelled
