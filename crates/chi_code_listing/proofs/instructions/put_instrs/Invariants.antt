use Rattle.std.proofs.Common.{◌≡◌, ◌++◌, drop}
use Rattle.chi_code_listing.specs.Listing.{instrs_text}
use Rattle.chi_code_listing.proofs.instructions.put_instrs.Given as goal

abbrev pub invariant-loop-x : goal.invariant-loop-x
invariant-loop-x l = record {
  place : l.place ≡ l.x-index;
  text : l.out.items ++ instrs_text l.names.kinds l.x-index (drop l.x-index l.xs) ≡ l.fn.out.items ++ instrs_text l.names.kinds 0 l.xs;
}
