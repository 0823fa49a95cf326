use Rattle.chi_judge.proofs.Asked.{ActorsLeft}
use Rattle.chi_judge.proofs.asking.first_label.Given as goal

abbrev pub invariant-loop-actor : goal.invariant-loop-actor
invariant-loop-actor l = ActorsLeft l.runner.core l.question l.runner.stage l.actor
