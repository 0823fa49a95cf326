use Rattle.chi_tool.proofs.LawClauses.{CheckLaw, comes_sound}
use Rattle.chi_tool.proofs.laws.one_run_law.Goals as goal

pub returns-clause-some : goal.returns-clause-some
returns-clause-some c =
    let check : CheckLaw = record { whole = c.parsed_programs_are_sound.ensures.whole; sound = c.parsed_programs_are_sound.ensures.sound } in
    λ source core within comes s may. c.course_law.ensures.some core (comes_sound check source core within comes) s may

pub returns-clause-one : goal.returns-clause-one
returns-clause-one c = c.course_law.ensures.one
