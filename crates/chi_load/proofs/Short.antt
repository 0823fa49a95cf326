-- The source of a factory is short.
use Rattle.std.proofs.Common.{◌≡◌, ℕ, ◌+◌, ◌≤◌, List, ◌++◌, length, codes, arith, length-append}
use Rattle.std.specs.Fmt.{decimal}
use Rattle.std.proofs.lemmas.Fmt.{length-decimal-le}
use Rattle.chi_load.specs.Factory.{processes, factory_source}

summed : (p a b m c d n e f g : List ℕ) → length (p ++ a ++ b ++ m ++ c ++ d ++ n ++ e ++ n ++ f ++ g)
    ≡ length p + length a + length b + length m + length c + length d + length n + length e + length n + length f + length g
summed p a b m c d n e f g = simp length-append

number : (n : ℕ) → n ≤ 1_001 → length (decimal n) ≤ 4
number n most = length-decimal-le 4 n (omega arith) (omega arith) (omega arith)

short : (p m n : List ℕ) → length p ≤ 400 → length m ≤ 4 → length n ≤ 4
    → length (p ++ codes "model int M():\n" ++ codes "  list(" ++ m ++ codes ") chan int c;\n" ++ codes "  run G(c[0], 100), unwind i in range(" ++ n
    ++ codes "): W(c[i], c[i + 1], 1.0) end, E(c[" ++ n ++ codes "], 100)\n" ++ codes "end\n") ≤ 1_024
short p m n few more most =
    let sum = summed p (codes "model int M():\n") (codes "  list(") m (codes ") chan int c;\n") (codes "  run G(c[0], 100), unwind i in range(") n
    (codes "): W(c[i], c[i + 1], 1.0) end, E(c[") (codes "], 100)\n") (codes "end\n") in
    omega arith

pub source_short : (n : ℕ) → n ≤ 1_000 → length (factory_source n) ≤ 1_024
source_short n most = short processes (decimal (n + 1)) (decimal n) (omega arith) (number (n + 1) (omega arith)) (number n (omega arith))
