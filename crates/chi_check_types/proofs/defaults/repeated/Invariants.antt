use Rattle.std.proofs.Common.{◌≡◌}
use Rattle.chi_check_types.specs.Defaults.{repeated}
use Rattle.chi_check_types.proofs.defaults.repeated.Given as goal

abbrev pub invariant-loop-size : goal.invariant-loop-size
invariant-loop-size l = repeated l.fn.sizes l.fn.each ≡ repeated l.size-iterator.rest.items l.whole
