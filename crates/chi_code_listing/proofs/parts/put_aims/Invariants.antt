use Rattle.std.proofs.Common.{◌≡◌, ◌++◌, drop}
use Rattle.chi_code_listing.specs.Listing.{aims_text}
use Rattle.chi_code_listing.proofs.parts.put_aims.Given as goal

abbrev pub invariant-loop-aim : goal.invariant-loop-aim
invariant-loop-aim l = l.out.items ++ aims_text (drop l.aim-index l.aims) ≡ l.fn.out.items ++ aims_text l.aims
