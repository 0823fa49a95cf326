use Rattle.std.proofs.Common.{◌≡◌, ◌++◌, Some}
use Rattle.std.specs.Prelude.{map}
use Rattle.chi_core_frame.proofs.variables.Variables.new.Given as goal

abbrev pub invariant-loop-argument : goal.invariant-loop-argument
invariant-loop-argument l = l.variables.items ++ map Some l.argument-iterator.rest.items ≡ map Some l.fn.arguments.items
