use Rattle.std.proofs.Common.{◌≡◌, drop}
use Rattle.chi_check_stat_rules.specs.Assignments.{parts_fit}
use Rattle.chi_check_stat_targets.proofs.assignments.parts_fit.Given as goal

abbrev pub invariant-loop-part : goal.invariant-loop-part
invariant-loop-part l = parts_fit l.fn.parts l.fn.aims ≡ parts_fit (drop l.part-index l.parts) l.others
