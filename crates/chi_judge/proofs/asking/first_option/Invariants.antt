use Rattle.chi_judge.proofs.Asked.{OptionsLeft}
use Rattle.chi_judge.proofs.asking.first_option.Given as goal

abbrev pub invariant-loop-option : goal.invariant-loop-option
invariant-loop-option l = OptionsLeft l.runner.core l.question l.runner.stage l.pid l.option
