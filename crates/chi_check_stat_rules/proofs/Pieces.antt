-- Private to proofs. What is read of a format is what it means.
use Rattle.std.proofs.Common.{◌≡◌, ℕ, ◌⊎◌, inl, inr, List, Option, Some, None, refl, ap}
use Rattle.chi_value.specs.declared.format.Piece.{Piece}
use Rattle.chi_format.specs.FormatCodes.{MeansPieces, HasBadCode}
use Rattle.chi_format.proofs.Readings.{Reading, a_reading, one_list, list_or_bad}
use Rattle.chi_check_stat_rules.specs.Writes.{read_pieces, pieces_of}

by_means : (text : List ℕ) (pieces : List Piece) → MeansPieces text pieces → (r : Reading text) → read_pieces text r ≡ Some pieces
by_means text pieces m (inl means) = ap Some (one_list text means.0 pieces means.1 m)
by_means text pieces m (inr bad) = absurd (list_or_bad text pieces bad.0 m bad.1)

by_bad : (text : List ℕ) (offset : ℕ) → HasBadCode text offset → (r : Reading text) → read_pieces text r ≡ None
by_bad text offset bad (inl means) = absurd (list_or_bad text means.0 offset means.1 bad)
by_bad text offset bad (inr other) = refl

pub read : (text : List ℕ) (pieces : List Piece) → MeansPieces text pieces → pieces_of text ≡ Some pieces
unfolding pieces_of
read text pieces m = by_means text pieces m (a_reading text)

pub unread : (text : List ℕ) (offset : ℕ) → HasBadCode text offset → pieces_of text ≡ None
unfolding pieces_of
unread text offset bad = by_bad text offset bad (a_reading text)
