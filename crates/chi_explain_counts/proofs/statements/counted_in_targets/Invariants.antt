use Rattle.std.proofs.Common.{◌≡◌, map, drop}
use Rattle.chi_explain_counts.specs.Found.{first_found}
use Rattle.chi_explain_counts.specs.Statements.{counted_in_target}
use Rattle.chi_explain_counts.proofs.statements.counted_in_targets.Given as goal

abbrev pub invariant-loop-target : goal.invariant-loop-target
invariant-loop-target l =
    first_found (map (counted_in_target l.place) l.fn.targets) ≡ first_found (map (counted_in_target l.place) (drop l.target-index l.targets))
