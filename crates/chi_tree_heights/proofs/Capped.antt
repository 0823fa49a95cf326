-- Heights past the greatest u32 count as the greatest.
use Rattle.std.proofs.Common.{◌≡◌, ◌+◌, ℕ, min, max, arith}

-- operands whose heights count so come to the same under operators
pub over_both : (count first rest : ℕ) → min (count + max (min rest 4294967295) (min first 4294967295)) 4294967295 ≡ min (count + max first rest) 4294967295
over_both count first rest = omega arith
