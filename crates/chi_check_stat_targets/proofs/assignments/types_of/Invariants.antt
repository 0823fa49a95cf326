use Rattle.std.proofs.Common.{◌≡◌, ◌++◌, map, drop}
use Rattle.chi_check_stat_targets.proofs.assignments.types_of.Given as goal

abbrev pub invariant-loop-aim : goal.invariant-loop-aim
invariant-loop-aim l = map (λ a. a.ty) l.aims ≡ l.types.items ++ map (λ a. a.ty) (drop l.aim-index l.aims)
