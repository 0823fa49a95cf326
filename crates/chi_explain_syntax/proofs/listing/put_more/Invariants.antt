use Rattle.std.proofs.Common.{◌≡◌, ◌++◌, drop}
use Rattle.std.specs.Prelude.{codes}
use Rattle.std.specs.List.{flat_map}
use Rattle.chi_explain_syntax.specs.Listing.{class_words}
use Rattle.chi_explain_syntax.proofs.listing.put_more.Given as goal

abbrev pub invariant-loop-class : goal.invariant-loop-class
invariant-loop-class l =
    l.words.items ++ flat_map (λ other. codes ", " ++ class_words other) (drop l.class-index l.classes)
    ≡ l.fn.words.items ++ flat_map (λ other. codes ", " ++ class_words other) l.classes
