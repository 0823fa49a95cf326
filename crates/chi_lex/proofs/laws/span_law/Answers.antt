use Rattle.chi_lex.proofs.LawLemmas.{Reads-SpanFrom}
use Rattle.chi_lex.proofs.laws.span_law.Goals as goal

pub returns : goal.returns
returns c = Reads-SpanFrom
