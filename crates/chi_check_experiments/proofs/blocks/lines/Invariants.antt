use Rattle.std.proofs.Common.{◌≡◌, ◌++◌, map}
use Rattle.chi_core.specs.declared.experiment.XStat.TheVariants as trial
use Rattle.chi_check_experiments.proofs.blocks.lines.Given as goal

abbrev pub invariant-loop-statement : goal.invariant-loop-statement
invariant-loop-statement l = map trial.Line l.fn.made ≡ l.all.items ++ map trial.Line l.statement-iterator.rest.items
