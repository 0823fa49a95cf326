use Rattle.std.proofs.Common.{◌≡◌, drop}
use Rattle.chi_check_types.specs.Faults.{first_of}
use Rattle.chi_check_stat_lines.specs.Values.{steps_in}
use Rattle.chi_check_stat_lines.proofs.values.steps_in.Given as goal

abbrev pub invariant-loop-step : goal.invariant-loop-step
invariant-loop-step l = record {
  made : (steps_in l.home l.scope l.name l.fn.aim l.steps).made ≡ (steps_in l.home l.scope l.name l.part (drop l.step-index l.steps)).made;
  noted : first_of l.fn.kept (steps_in l.home l.scope l.name l.fn.aim l.steps).faults ≡ first_of l.kept (steps_in l.home l.scope l.name l.part (drop l.step-index l.steps)).faults;
}
