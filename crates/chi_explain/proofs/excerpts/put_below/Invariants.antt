use Rattle.std.proofs.Common.{◌≡◌, ◌++◌, drop, map}
use Rattle.chi_explain.specs.Excerpts.{below}
use Rattle.chi_explain.proofs.excerpts.put_below.Given as goal

abbrev pub invariant-loop-byte : goal.invariant-loop-byte
invariant-loop-byte l = l.out.items ++ map below (drop l.byte-index l.bytes) ≡ l.fn.out.items ++ map below l.bytes
