use Rattle.std.proofs.Common.{arith}
use Rattle.std.proofs.lemmas.Int.{ints}
use Rattle.chi_num.proofs.Floors.{IsFloor-of_size}
use Rattle.chi_num.proofs.fraction.floor_of.Goals as goal

pub returns-then-divisor-lt0 : goal.returns-then-divisor-lt0
returns-then-divisor-lt0 c =
    IsFloor-of_size _ _ _ _ _ _ c.requires.divides (omega (arith, ints)) (λ h. omega (arith, ints)) (λ h. omega (arith, ints)) (omega (arith, ints)) c.floor_over.ensures
