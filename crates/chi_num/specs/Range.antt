-- The results that 64 bits with a sign hold, and what a call answers where they don't.
use Rattle.std.specs.Prelude.{◌≡◌, ℤ, Result, MatchResult, FitsSigned}
use Rattle.std.specs.Int.{w64}
use Rattle.chi_num.specs.declared.fault.NumFault.{NumFault}
use Rattle.chi_num.specs.declared.fault.NumFault.TheVariants.{Range}

-- from -2 ^ 63 to 2 ^ 63 - 1
abbrev pub IsInRange : ℤ → Type 0
IsInRange z = FitsSigned w64 z

-- the answer of a call whose exact result is the whole number that `IsExact` says:
-- that number where it is in range, and the fault of range where it isn't
abbrev pub Gives : Result ℤ NumFault → (ℤ → Type 0) → Type 0
Gives answer IsExact =
    MatchResult answer (λ r. IsInRange r × IsExact r) (λ fault. (fault ≡ Range) × ((r : ℤ) → IsExact r → ¬ (IsInRange r)))
