-- A count that is the sum of two rises where one of them does, and the other doesn't fall.
use Rattle.std.proofs.Common.{ℕ, ◌+◌, ◌≤◌, arith}
use Rattle.chi_io.specs.Counts.{Rose, next_count}

pub rose_inner : (old new more : ℕ) → Rose old new → Rose (old + more) (new + more)
rose_inner old new more rose = omega arith

pub rose_own : (old new more : ℕ) → old ≤ new → Rose (old + more) (new + next_count more)
rose_own old new more up = omega arith
