use Rattle.std.proofs.Common.{arith}
use Rattle.std.proofs.lemmas.Int.{ints}
use Rattle.chi_num.proofs.NearestWhole.{IsNearest-of_size}
use Rattle.chi_num.proofs.fraction.nearest_to.Goals as goal

pub returns-then-divisor-lt0 : goal.returns-then-divisor-lt0
returns-then-divisor-lt0 c =
    IsNearest-of_size _ _ _ _ _ _ c.requires.divides (omega (arith, ints)) (λ h. omega (arith, ints)) (λ h. omega (arith, ints)) (omega (arith, ints)) c.nearest_over.ensures

pub returns-else-divisor-lt0 : goal.returns-else-divisor-lt0
returns-else-divisor-lt0 c =
    IsNearest-of_size _ _ _ _ _ _ c.requires.divides (omega (arith, ints)) (λ h. omega (arith, ints)) (λ h. omega (arith, ints)) (omega (arith, ints)) c.nearest_over-else-divisor-lt0.ensures
