use Rattle.std.proofs.Common.{◌≡◌, ◌++◌, drop}
use Rattle.chi_code_listing.specs.Listing.{entries_text}
use Rattle.chi_code_listing.proofs.programs.put_entries.Given as goal

abbrev pub invariant-loop-entry : goal.invariant-loop-entry
invariant-loop-entry l = l.out.items ++ entries_text l.word (drop l.entry-index l.entries) ≡ l.fn.out.items ++ entries_text l.fn.word l.entries
