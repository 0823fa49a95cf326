use Rattle.chi_trace.proofs.LogLaws.{up_some, one_up, one_misfit, up_or_misfit}
use Rattle.chi_trace.proofs.laws.logs_law.Goals as goal

pub returns : goal.returns
returns c = record { some = up_some; one_log = one_up; one_line = one_misfit; apart = up_or_misfit }
