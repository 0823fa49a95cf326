use Rattle.std.proofs.Common.{◌≡◌, map, drop}
use Rattle.chi_explain_counts.specs.Found.{first_found}
use Rattle.chi_explain_counts.specs.Statements.{counted_in_step, counted_in_branch, counted_in_alternative}
use Rattle.chi_explain_counts.proofs.statements.+statement.Given as goal

abbrev pub invariant-counted_in_block-loop-step : goal.invariant-counted_in_block-loop-step
invariant-counted_in_block-loop-step l =
    first_found (map (counted_in_step l.place) l.fn.steps) ≡ first_found (map (counted_in_step l.place) (drop l.step-index l.steps))

abbrev pub invariant-counted_in_branches-loop-branch : goal.invariant-counted_in_branches-loop-branch
invariant-counted_in_branches-loop-branch l =
    first_found (map (counted_in_branch l.place) l.fn.branches) ≡ first_found (map (counted_in_branch l.place) (drop l.branch-index l.branches))

abbrev pub invariant-counted_in_alternatives-loop-alternative : goal.invariant-counted_in_alternatives-loop-alternative
invariant-counted_in_alternatives-loop-alternative l =
    first_found (map (counted_in_alternative l.place) l.fn.alternatives) ≡ first_found (map (counted_in_alternative l.place) (drop l.alternative-index l.alternatives))
