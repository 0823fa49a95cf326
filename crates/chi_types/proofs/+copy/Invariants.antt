use Rattle.std.proofs.Common.{◌≡◌, take}
use Rattle.chi_types.proofs.+copy.Given as goal

abbrev pub invariant-copying::copy_parts-loop-name : goal.invariant-copying::copy_parts-loop-name
invariant-copying::copy_parts-loop-name l = l.copies.items ≡ take l.name-index l.parts
