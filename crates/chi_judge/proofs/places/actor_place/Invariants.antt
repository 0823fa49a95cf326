use Rattle.std.proofs.Common.{◌≤◌, ◌-◌, length}
use Rattle.chi_plain.specs.Stage.{actors_at}
use Rattle.chi_judge.proofs.places.actor_place.Given as goal

abbrev pub invariant-half : goal.invariant-half
invariant-half l = l.high ≤ length (actors_at l.runner.stage)

abbrev pub decreases-half : goal.decreases-half
decreases-half l = l.high - l.low
