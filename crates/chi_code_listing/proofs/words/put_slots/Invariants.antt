use Rattle.std.proofs.Common.{◌≡◌, ◌++◌, drop}
use Rattle.chi_code_listing.specs.Listing.{slots_text}
use Rattle.chi_code_listing.proofs.words.put_slots.Given as goal

abbrev pub invariant-loop-slot : goal.invariant-loop-slot
invariant-loop-slot l = l.out.items ++ slots_text (drop l.slot-index l.slots) ≡ l.fn.out.items ++ slots_text l.slots
