use Rattle.std.proofs.Common.{◌≡◌, ◌+◌, drop}
use Rattle.std.specs.Prelude.{zip}
use Rattle.chi_cli.specs.Arguments.{after, values_from}
use Rattle.chi_cli.proofs.reading.read_all.Given as goal

abbrev pub invariant-loop-at : goal.invariant-loop-at
invariant-loop-at l = after l.values.items (values_from (l.at + 1) (zip (drop l.at l.params) (drop l.at l.args))) ≡ values_from 1 (zip l.params l.args)
