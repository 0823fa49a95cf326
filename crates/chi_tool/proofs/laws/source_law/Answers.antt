use Rattle.chi_engine.specs.Courses.{IsRunOf}
use Rattle.chi_tool.proofs.LawClauses.{AnswerLaw, RunLaw, CodeLaw, TrialLaw, CheckLaw, JudgeLaw, PicksLaw}
use Rattle.chi_tool.proofs.Reports.{source_some, source_one}
use Rattle.chi_tool.proofs.laws.source_law.Goals as goal

pub returns : goal.returns
returns c =
    let answers : AnswerLaw = record { some = c.answer_law.ensures.some; one = c.answer_law.ensures.one } in
    let ran : RunLaw IsRunOf = record { some = c.asked_runs_law.ensures.some; one = c.asked_runs_law.ensures.one } in
    let coded : CodeLaw = record { some = c.one_code_law.ensures.some; one = c.one_code_law.ensures.one } in
    let tried : TrialLaw =
    record { some = c.one_trial_law.ensures.some; one = c.one_trial_law.ensures.one; one_ended = c.one_trial_law.ensures.one_ended; one_line = c.one_trial_law.ensures.one_line } in
    let check : CheckLaw = record { whole = c.parsed_programs_are_sound.ensures.whole; sound = c.parsed_programs_are_sound.ensures.sound } in
    let picks : PicksLaw = record { some = c.picks_law.ensures.some; one_list = c.picks_law.ensures.one_list; one_line = c.picks_law.ensures.one_line; apart = c.picks_law.ensures.apart } in
    let judging : JudgeLaw = record { some = c.judging_law.ensures; one_log = c.one_log_law.ensures.one_log; one_line = c.one_log_law.ensures.one_line } in
    record {
      some = λ source aim within may. source_some IsRunOf answers ran coded tried check c.values_are_of_parameters.ensures picks judging aim may source within;
      one = source_one IsRunOf answers ran coded tried check c.values_are_of_parameters.ensures picks judging;
    }
