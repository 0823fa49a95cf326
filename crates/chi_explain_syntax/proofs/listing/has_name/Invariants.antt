use Rattle.std.proofs.Common.{◌≡◌, drop}
use Rattle.std.specs.List.{list_any}
use Rattle.chi_explain_syntax.specs.Listing.{is_name}
use Rattle.chi_explain_syntax.proofs.listing.has_name.Given as goal

abbrev pub invariant-loop-class : goal.invariant-loop-class
invariant-loop-class l = list_any is_name (drop l.class-index l.classes) ≡ list_any is_name l.classes
