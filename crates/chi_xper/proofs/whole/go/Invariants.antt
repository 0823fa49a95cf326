use Rattle.chi_xper.specs.Experiments.{goes}
use Rattle.chi_xper.proofs.Going.{Gone}
use Rattle.chi_xper.proofs.whole.go.Given as goal

abbrev pub invariant-loop-turn : goal.invariant-loop-turn
invariant-loop-turn g l =
    Gone l.core l.scene (g.R.Runner.outcome l.fn.runner) (g.R.Runner.outcome l.runner) (g.R.Runner.allows l.fn.runner) (g.R.Runner.allows l.runner)
    (goes l.core l.scene.constants.now l.scene.seed (g.R.Runner.outcome l.fn.runner) l.fn.course.view.left l.fn.course.count l.fn.course.variables l.fn.course.term l.fn.course.view)
    l.fn.out.items l.out.items l.fn.course.view.left l.turn l.course.count l.course.variables l.course.term l.course.view
