use Rattle.chi_tool.proofs.LawClauses.{CheckLaw, comes_sound}
use Rattle.chi_tool.proofs.laws.one_trial_law.Goals as goal

pub returns-clause-some : goal.returns-clause-some
returns-clause-some c =
    let check : CheckLaw = record { whole = c.parsed_programs_are_sound.ensures.whole; sound = c.parsed_programs_are_sound.ensures.sound } in
    λ source core within comes t may. c.trial_law.ensures.some core (comes_sound check source core within comes) t.seed t.pick may.1 t.bound may.0

pub returns-clause-one : goal.returns-clause-one
returns-clause-one c =
    let check : CheckLaw = record { whole = c.parsed_programs_are_sound.ensures.whole; sound = c.parsed_programs_are_sound.ensures.sound } in
    λ source core within comes t trial other p q. c.trial_law.ensures.one core (comes_sound check source core within comes) t.seed t.pick t.bound trial other p q

pub returns-clause-one_ended : goal.returns-clause-one_ended
returns-clause-one_ended c = c.trial_law.ensures.one_ended

pub returns-clause-one_line : goal.returns-clause-one_line
returns-clause-one_line c = c.trial_law.ensures.one_line
