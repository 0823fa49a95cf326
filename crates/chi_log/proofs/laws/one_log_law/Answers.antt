use Rattle.chi_log.proofs.Refused.{one_first_wrong, one_log}
use Rattle.chi_log.proofs.laws.one_log_law.Goals as goal

pub returns : goal.returns
returns c = record {
  one_log = λ core sound. one_log core
      (record { sound = sound; keeps = c.kinded_law.ensures.keeps core sound; there = c.events_law.ensures.there; event = c.events_law.ensures.event })
      (c.kinded_law.ensures.begins core sound);
  one_line = one_first_wrong;
}
