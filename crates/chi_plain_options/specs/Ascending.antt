-- Lists of instances, each of them once.
use Rattle.std.specs.Prelude.{ℕ, suc, ◌≤◌, ◌<◌, List, [], ◌∷◌}

-- ascending numbers from m on, below n
abbrev pub Ascends : ℕ → ℕ → List ℕ → Type 0
Ascends m n [] = Unit {0}
Ascends m n (x ∷ xs) = (m ≤ x) × (x < n) × Ascends (suc x) n xs
