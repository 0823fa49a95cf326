use Rattle.std.proofs.Common.{arith}
use Rattle.std.proofs.lemmas.Int.{ints}
use Rattle.chi_num.proofs.NearestWhole.{IsNearest-over_size}
use Rattle.chi_num.proofs.fraction.nearest_over.Goals as goal

pub returns-then-number-lt0 : goal.returns-then-number-lt0
returns-then-number-lt0 c =
    IsNearest-over_size _ _ _ _ _ c.requires.divides c.nearest_size-size.ensures (omega (arith, ints)) (λ h. omega (arith, ints)) (λ h. omega (arith, ints))

pub returns-else-number-lt0 : goal.returns-else-number-lt0
returns-else-number-lt0 c =
    IsNearest-over_size _ _ _ _ _ c.requires.divides c.nearest_size-size.ensures (omega (arith, ints)) (λ h. omega (arith, ints)) (λ h. omega (arith, ints))
