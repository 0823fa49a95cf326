use Rattle.std.proofs.Common.{take, ◌≡◌}
use Rattle.chi_gen_parts.proofs.copies.each_copy.Given as goal

abbrev pub invariant-loop-piece : goal.invariant-loop-piece
invariant-loop-piece l = l.copies.items ≡ take l.piece-index l.pieces
