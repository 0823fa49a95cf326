use Rattle.std.proofs.Common.{◌≡◌, ◌++◌, drop}
use Rattle.chi_code_listing.specs.Listing.{pieces_text}
use Rattle.chi_code_listing.proofs.parts.put_pieces.Given as goal

abbrev pub invariant-loop-piece : goal.invariant-loop-piece
invariant-loop-piece l = l.out.items ++ pieces_text (drop l.piece-index l.pieces) ≡ l.fn.out.items ++ pieces_text l.pieces
