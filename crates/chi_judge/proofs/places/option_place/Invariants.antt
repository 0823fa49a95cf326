use Rattle.std.proofs.Common.{◌≤◌, ◌-◌, length}
use Rattle.chi_plain.specs.Stage.{options_at}
use Rattle.chi_judge.proofs.places.option_place.Given as goal

abbrev pub invariant-half : goal.invariant-half
invariant-half l = l.high ≤ length (options_at l.runner.stage l.pid)

abbrev pub decreases-half : goal.decreases-half
decreases-half l = l.high - l.low
