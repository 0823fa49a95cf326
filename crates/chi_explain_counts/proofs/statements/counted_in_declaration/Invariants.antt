use Rattle.std.proofs.Common.{◌≡◌, map, drop}
use Rattle.chi_explain_counts.specs.Found.{first_found}
use Rattle.chi_explain_counts.specs.Statements.{counted_in_variable}
use Rattle.chi_explain_counts.proofs.statements.counted_in_declaration.Given as goal

abbrev pub invariant-loop-variable : goal.invariant-loop-variable
invariant-loop-variable l =
    first_found (map (counted_in_variable l.place) l.fn.variables) ≡ first_found (map (counted_in_variable l.place) (drop l.variable-index l.variables))
