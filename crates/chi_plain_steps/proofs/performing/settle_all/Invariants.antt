use Rattle.std.proofs.Common.{◌≡◌, ◌++◌}
use Rattle.std.specs.Prelude.{map}
use Rattle.chi_core.specs.Config.{has_finished, settled}
use Rattle.chi_plain_steps.proofs.performing.settle_all.Given as goal

abbrev pub invariant-loop-instance : goal.invariant-loop-instance
invariant-loop-instance l =
    (l.more.items ++ map settled l.instance-iterator.rest.items ≡ map settled l.fn.new.items) × (l.flags.items ≡ map has_finished l.more.items)
