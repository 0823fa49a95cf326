use Rattle.std.proofs.Common.{[]}
use Rattle.chi_machine_constants.specs.Settings.{LeadsTo}
use Rattle.chi_machine_constants.proofs.setting.set_constants.Given as goal

abbrev pub invariant-loop-constant : goal.invariant-loop-constant
invariant-loop-constant l = LeadsTo l.code l.seed 0 [] l.at l.values.items
