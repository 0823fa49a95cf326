use Rattle.std.proofs.Common.{◌≡◌, ◌++◌, map}
use Rattle.chi_check_stat_targets.proofs.assignments.targets_of.Given as goal

abbrev pub invariant-loop-aim : goal.invariant-loop-aim
invariant-loop-aim l = map (λ a. a.target) l.fn.aims ≡ l.targets.items ++ map (λ a. a.target) l.aim-iterator.rest.items
