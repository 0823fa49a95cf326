use Rattle.chi_tool.proofs.LawClauses.{AnswerLaw}
use Rattle.chi_tool.proofs.Layouts.{laid_out_again, laid_out_core, laid_out_same}
use Rattle.chi_tool.proofs.laws.layout_law.Goals as goal

pub returns-clause-again : goal.returns-clause-again
returns-clause-again c = laid_out_again c.comments_law.ensures c.layout_law.ensures

pub returns-clause-same : goal.returns-clause-same
returns-clause-same c =
    let answers : AnswerLaw = record { some = c.answer_law.ensures.some; one = c.answer_law.ensures.one } in
    laid_out_same c.comments_law.ensures c.layout_law.ensures answers

pub returns-clause-core : goal.returns-clause-core
returns-clause-core c =
    let answers : AnswerLaw = record { some = c.answer_law.ensures.some; one = c.answer_law.ensures.one } in
    laid_out_core answers c.laid_out_core_law.ensures
