use Rattle.std.proofs.Common.{refl}
use Rattle.chi_explain_runs.proofs.Once.{told_once, told_always}
use Rattle.chi_explain_runs.proofs.laws.waiting_law.Goals as goal

pub returns : goal.returns
returns c = record {
  one = told_once c.picked_law.ensures.once;
  some = told_always c.picked_law.ensures.always;
  limits = (refl, refl);
}
