use Rattle.std.proofs.Common.{◌≡◌}
use Rattle.chi_check_types.specs.Faults.{first_of}
use Rattle.chi_check_stat_rules.specs.Writes.{all_shown}
use Rattle.chi_check_stat_rules.proofs.ShownValues.{before}
use Rattle.chi_check_stat_rules.proofs.writes.all_shown.Given as goal

abbrev pub invariant-loop-value : goal.invariant-loop-value
invariant-loop-value l = record {
  made : (all_shown l.fn.pieces l.fn.values).made ≡ before l.all (all_shown l.others l.value-iterator.rest.items).made;
  noted : first_of l.fn.kept (all_shown l.fn.pieces l.fn.values).faults ≡ first_of l.kept (all_shown l.others l.value-iterator.rest.items).faults;
}
