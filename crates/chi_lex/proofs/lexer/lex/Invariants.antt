use Rattle.std.proofs.Common.{length}
use Rattle.chi_lex.proofs.Turns.{HasLexed}
use Rattle.chi_lex.proofs.lexer.lex.Given as goal

abbrev pub invariant-loop-rest : goal.invariant-loop-rest
invariant-loop-rest l = HasLexed l.source l.rest l.cursor l.tokens.items

abbrev pub decreases-loop-rest : goal.decreases-loop-rest
decreases-loop-rest l = length l.rest
