use Rattle.std.proofs.Common.{◌≡◌, ◌≢◌, drop}
use Rattle.chi_core.specs.Answer.{Amiss}
use Rattle.chi_core.specs.Arithmetic.{best_real}
use Rattle.chi_core_apply.specs.Best.{better_by}
use Rattle.chi_core_apply.proofs.least.best_real.Given as goal

abbrev pub invariant-loop-other : goal.invariant-loop-other
invariant-loop-other l =
    (best_real (better_by l.greatest) l.best (drop l.other-index l.others) l.view ≢ Amiss)
    × (best_real (better_by l.greatest) l.fn.first l.others l.view ≡ best_real (better_by l.greatest) l.best (drop l.other-index l.others) l.view)
