use Rattle.chi_tool.proofs.LawClauses.{CheckLaw, RunLaw}
use Rattle.chi_tool.proofs.Runs.{asked_runs}
use Rattle.chi_tool.proofs.laws.asked_runs_law.Goals as goal

pub returns : goal.returns
returns g c =
    let runs = g.E.Engine.outcome c.args.engine.now in
    let check : CheckLaw = record { whole = c.parsed_programs_are_sound.ensures.whole; sound = c.parsed_programs_are_sound.ensures.sound } in
    let law : RunLaw runs = asked_runs runs check c.law.ensures.some c.law.ensures.one c.course_law.ensures.some c.course_law.ensures.one in
    record { some = law.some; one = law.one }
