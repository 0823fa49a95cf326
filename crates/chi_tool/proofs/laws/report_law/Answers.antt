use Rattle.chi_tool.proofs.LawClauses.{AnswerLaw, RunLaw, CodeLaw, TrialLaw, CheckLaw, ExplainLaw, JudgeLaw, LogLaw, PicksLaw}
use Rattle.std.proofs.Common.{subst}
use Rattle.chi_tool.specs.declared.task.ProgramPurpose.TheVariants.{Experiment}
use Rattle.chi_tool.specs.declared.task.Purpose.TheVariants.{OfProgram, Explain}
use Rattle.chi_tool.specs.Settings.{wanted_of, trying_of}
use Rattle.chi_tool.proofs.Explained.{explained_some}
use Rattle.chi_tool.proofs.Reports.{report_some, report_one, trial_told}
use Rattle.chi_tool.proofs.Runs.{may_be_aimed}
use Rattle.chi_tool.proofs.Wishes.{IsBoundedWish, bounded_wish}
use Rattle.chi_tool.proofs.laws.report_law.Goals as goal

pub returns : goal.returns
returns g c =
    let answers : AnswerLaw = record { some = c.answer_law.ensures.some; one = c.answer_law.ensures.one } in
    let ran : RunLaw (g.E.Engine.outcome c.args.engine.now) = record { some = c.asked_runs_law.ensures.some; one = c.asked_runs_law.ensures.one } in
    let coded : CodeLaw = record { some = c.one_code_law.ensures.some; one = c.one_code_law.ensures.one } in
    let tried : TrialLaw =
    record { some = c.one_trial_law.ensures.some; one = c.one_trial_law.ensures.one; one_ended = c.one_trial_law.ensures.one_ended; one_line = c.one_trial_law.ensures.one_line } in
    let check : CheckLaw = record { whole = c.parsed_programs_are_sound.ensures.whole; sound = c.parsed_programs_are_sound.ensures.sound } in
    let log_law : LogLaw = record { some = c.logs_law.ensures.some; one_log = c.logs_law.ensures.one_log; one_line = c.logs_law.ensures.one_line; apart = c.logs_law.ensures.apart } in
    let picks : PicksLaw = record { some = c.picks_law.ensures.some; one_list = c.picks_law.ensures.one_list; one_line = c.picks_law.ensures.one_line; apart = c.picks_law.ensures.apart } in
    let judging : JudgeLaw = record { some = c.judging_law.ensures; one_log = c.one_log_law.ensures.one_log; one_line = c.one_log_law.ensures.one_line } in
    let explain : ExplainLaw = record {
      lexical_some = c.lexical_explanation_law.ensures.some;
      lexical_one = c.lexical_explanation_law.ensures.one;
      syntax_some = c.syntax_explanation_law.ensures.some;
      syntax_one = c.syntax_explanation_law.ensures.one;
      kind = c.faults_of_arguments_name_them.ensures.kind;
      text = c.faults_of_arguments_name_them.ensures.text;
      memory = c.faults_of_arguments_name_them.ensures.memory;
      waits_one = c.waiting_law.ensures.one;
      waits_some = c.waiting_law.ensures.some;
    } in
    record {
      some = report_some (g.E.Engine.outcome c.args.engine.now) answers ran coded tried check c.values_are_of_parameters.ensures picks judging explain log_law c.numbers_are_in_range.ensures;
      one = report_one (g.E.Engine.outcome c.args.engine.now) answers ran coded tried check c.values_are_of_parameters.ensures picks judging explain log_law;
      explained = λ words name a asked source within plain is.
          explained_some answers explain (g.E.Engine.outcome c.args.engine.now) check c.values_are_of_parameters.ensures name source within (wanted_of a)
          (may_be_aimed (Explain a) (subst IsBoundedWish asked (bounded_wish c.numbers_are_in_range.ensures words))) plain is;
      tried = λ words name t asked source within core comes trial is.
          trial_told tried source core within comes (trying_of t)
          (may_be_aimed (OfProgram (Experiment t)) (subst IsBoundedWish asked (bounded_wish c.numbers_are_in_range.ensures words))) trial is;
    }
