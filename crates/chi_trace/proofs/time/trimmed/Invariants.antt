-- What is kept is trimmed as the whole is.
use Rattle.std.proofs.Common.{◌≡◌, length}
use Rattle.chi_num.specs.RealText.{trimmed}
use Rattle.chi_trace.proofs.time.trimmed.Given as goal

abbrev pub invariant-loop-front : goal.invariant-loop-front
invariant-loop-front l = trimmed l.kept ≡ trimmed l.digits

abbrev pub decreases-loop-front : goal.decreases-loop-front
decreases-loop-front l = length l.kept
