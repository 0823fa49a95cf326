-- How appends are grouped makes no difference.
use Rattle.std.proofs.Common.{◌≡◌, ℕ, List, ◌++◌, append_assoc}

pub grouped : (k b c n d e f : List ℕ) → k ++ ((b ++ c) ++ (n ++ (d ++ (n ++ (e ++ f))))) ≡ k ++ b ++ c ++ n ++ d ++ n ++ e ++ f
grouped k b c n d e f = simp append_assoc
