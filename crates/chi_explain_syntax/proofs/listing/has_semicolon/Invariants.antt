use Rattle.std.proofs.Common.{◌≡◌, drop}
use Rattle.std.specs.List.{list_any}
use Rattle.chi_explain_syntax.specs.Listing.{is_semicolon}
use Rattle.chi_explain_syntax.proofs.listing.has_semicolon.Given as goal

abbrev pub invariant-loop-class : goal.invariant-loop-class
invariant-loop-class l = list_any is_semicolon (drop l.class-index l.classes) ≡ list_any is_semicolon l.classes
