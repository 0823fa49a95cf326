use Rattle.std.proofs.Common.{◌≡◌, ◌+◌, drop}
use Rattle.chi_cli.specs.Arguments.{unreadable_from}
use Rattle.chi_cli.proofs.reading.unreadable.Given as goal

abbrev pub invariant-loop-at : goal.invariant-loop-at
invariant-loop-at l = unreadable_from (l.at + 1) (drop l.at l.params) ≡ unreadable_from 1 l.params
