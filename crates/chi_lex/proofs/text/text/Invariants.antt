use Rattle.std.proofs.Common.{length}
use Rattle.chi_lex.proofs.TextLoop.{HasRead}
use Rattle.chi_lex.proofs.text.text.Given as goal

abbrev pub invariant-loop-byte : goal.invariant-loop-byte
invariant-loop-byte l = HasRead l.rest l.left l.bytes.items l.passed

abbrev pub decreases-loop-byte : goal.decreases-loop-byte
decreases-loop-byte l = length l.left
