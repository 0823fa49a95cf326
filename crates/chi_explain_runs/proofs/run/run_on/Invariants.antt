use Rattle.chi_explain_runs.specs.Turns.{Keeps}
use Rattle.chi_explain_runs.proofs.Turns.{turns_left}
use Rattle.chi_explain_runs.proofs.run.run_on.Given as goal

abbrev pub invariant-turn : goal.invariant-turn
invariant-turn g l = Keeps (g.P.Chooser.gives l.policy) l.initial.runner.core l.initial.runner.stage l.bound l.runner l.turn l.left l.notes.lines.items l.notes.counts.items

abbrev pub decreases-turn : goal.decreases-turn
decreases-turn g l = turns_left l.left l.runner.stage
