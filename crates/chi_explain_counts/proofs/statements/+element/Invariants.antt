use Rattle.std.proofs.Common.{◌≡◌, map, drop}
use Rattle.chi_explain_counts.specs.Found.{first_found}
use Rattle.chi_explain_counts.specs.Statements.{counted_in_element}
use Rattle.chi_explain_counts.proofs.statements.+element.Given as goal

abbrev pub invariant-counted_in_elements-loop-element : goal.invariant-counted_in_elements-loop-element
invariant-counted_in_elements-loop-element l =
    first_found (map (counted_in_element l.place) l.fn.elements) ≡ first_found (map (counted_in_element l.place) (drop l.element-index l.elements))
