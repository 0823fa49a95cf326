use Rattle.std.proofs.Common.{◌≡◌, ◌≢◌, drop}
use Rattle.chi_core.specs.Answer.{Amiss}
use Rattle.chi_core.specs.Arithmetic.{best_int}
use Rattle.chi_core_apply.specs.Best.{better_by}
use Rattle.chi_core_apply.proofs.least.best_int.Given as goal

abbrev pub invariant-loop-other : goal.invariant-loop-other
invariant-loop-other l =
    (best_int (better_by l.greatest) l.best (drop l.other-index l.others) l.view ≢ Amiss)
    × (best_int (better_by l.greatest) l.fn.first l.others l.view ≡ best_int (better_by l.greatest) l.best (drop l.other-index l.others) l.view)
