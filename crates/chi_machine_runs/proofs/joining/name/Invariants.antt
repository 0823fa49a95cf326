use Rattle.std.proofs.Common.{◌≡◌, [], drop}
use Rattle.chi_core.specs.Performing.{all_named}
use Rattle.chi_machine_runs.proofs.joining.name.Given as goal

abbrev pub invariant-loop-value : goal.invariant-loop-value
invariant-loop-value l = all_named [] l.values l.fn.view ≡ all_named l.joins.items (drop l.value-index l.values) l.fn.view
