use Rattle.chi_core_runs.proofs.Picks.{picked-derived, picked-once, picked-always}
use Rattle.chi_core_runs.proofs.laws.picked_law.Goals as goal

pub returns : goal.returns
returns c = record {
  derived = picked-derived;
  once = picked-once;
  always = λ core sound. picked-always core (c.kinded_law.ensures.begins core sound) (c.kinded_law.ensures.keeps core sound);
}
