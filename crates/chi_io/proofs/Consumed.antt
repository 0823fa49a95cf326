-- Two readings in turn consume the bytes of both.
use Rattle.std.proofs.Common.{ℕ, ◌+◌, ◌≤◌, List, ◌++◌, length, Option, Some, None, append_assoc, length-append, arith}
use Rattle.std.specs.Io.KnownBytes.{Consumes}
use Rattle.chi_io.specs.Streams.{ConsumesAtMost}

Consumes-append : (old now new : Option (List ℕ)) (first second : List ℕ)
    → Consumes old now first → Consumes now new second → Consumes old new (first ++ second)
Consumes-append None now new first second p q = tt
Consumes-append (Some old) None new first second p q = absurd p
Consumes-append (Some old) (Some now) None first second p q = q
Consumes-append (Some old) (Some now) (Some new) first second p q = rw (append_assoc, ← q) p

pub ConsumesAtMost-append : (old now new : Option (List ℕ)) (first second : List ℕ) (most : ℕ)
    → Consumes old now first → Consumes now new second → length first + length second ≤ most
    → ConsumesAtMost old new most
ConsumesAtMost-append old now new first second most p q fits =
    (first ++ second, Consumes-append old now new first second p q, omega (arith, length-append first second))
