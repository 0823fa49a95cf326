use Rattle.chi_log.proofs.Deciding.{decided}
use Rattle.chi_log.proofs.laws.judging_law.Goals as goal

pub returns : goal.returns
returns c = λ core sound. decided core
    (record { sound = sound; keeps = c.kinded_law.ensures.keeps core sound; there = c.events_law.ensures.there; event = c.events_law.ensures.event })
    (c.kinded_law.ensures.begins core sound)
