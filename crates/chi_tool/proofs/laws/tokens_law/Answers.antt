use Rattle.chi_tool.proofs.TokenLaw.{program_tokens}
use Rattle.chi_tool.proofs.laws.tokens_law.Goals as goal

pub returns : goal.returns
returns c = program_tokens
