use Rattle.std.proofs.Common.{◌≡◌, ◌++◌, drop}
use Rattle.chi_code_listing.specs.Listing.{plain_text}
use Rattle.chi_code_listing.proofs.parts.put_bytes.Given as goal

abbrev pub invariant-loop-byte : goal.invariant-loop-byte
invariant-loop-byte l = l.out.items ++ plain_text (drop l.byte-index l.bytes) ≡ l.fn.out.items ++ plain_text l.bytes
