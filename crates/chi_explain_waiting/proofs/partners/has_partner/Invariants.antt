use Rattle.chi_explain_waiting.proofs.Answering.{NoneAnswers}
use Rattle.chi_explain_waiting.proofs.partners.has_partner.Given as goal

abbrev pub invariant-loop-other : goal.invariant-loop-other
invariant-loop-other l = NoneAnswers l.fn.configuration l.fn.pid l.fn.act l.other
