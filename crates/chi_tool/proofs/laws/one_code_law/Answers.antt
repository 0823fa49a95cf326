use Rattle.chi_tool.proofs.LawClauses.{CheckLaw, comes_sound}
use Rattle.chi_tool.proofs.laws.one_code_law.Goals as goal

pub returns-clause-some : goal.returns-clause-some
returns-clause-some c =
    let check : CheckLaw = record { whole = c.parsed_programs_are_sound.ensures.whole; sound = c.parsed_programs_are_sound.ensures.sound } in
    λ source core within comes. let there = c.sound_programs_have_one_code.ensures.one core (comes_sound check source core within comes) in (there.0, there.1)

pub returns-clause-one : goal.returns-clause-one
returns-clause-one c = λ core code other p q. c.code_is_unique.ensures.one core code other p q
