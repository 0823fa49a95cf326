use Rattle.std.proofs.Common.{◌≡◌, ◌++◌, drop, map}
use Rattle.chi_explain.specs.Excerpts.{shown}
use Rattle.chi_explain.proofs.excerpts.put_as_shown.Given as goal

abbrev pub invariant-loop-byte : goal.invariant-loop-byte
invariant-loop-byte l = l.out.items ++ map shown (drop l.byte-index l.bytes) ≡ l.fn.out.items ++ map shown l.bytes
