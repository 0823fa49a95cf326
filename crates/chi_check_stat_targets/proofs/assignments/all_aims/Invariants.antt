use Rattle.std.proofs.Common.{◌≡◌}
use Rattle.chi_check_stat_rules.specs.Assignments.{all_aims}
use Rattle.chi_check_stat_targets.proofs.Before.{before}
use Rattle.chi_check_stat_targets.proofs.assignments.all_aims.Given as goal

abbrev pub invariant-loop-part : goal.invariant-loop-part
invariant-loop-part l = all_aims l.fn.parts ≡ before l.all.items (all_aims l.part-iterator.rest.items)
