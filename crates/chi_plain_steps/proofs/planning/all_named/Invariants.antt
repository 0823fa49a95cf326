use Rattle.std.proofs.Common.{◌≡◌, [], drop}
use Rattle.chi_core.specs.Performing.{all_named}
use Rattle.chi_plain_steps.proofs.planning.all_named.Given as goal

abbrev pub invariant-loop-value : goal.invariant-loop-value
invariant-loop-value l = all_named [] l.values l.fn.view ≡ all_named l.numbers.items (drop l.value-index l.values) l.fn.view
