use Rattle.chi_trace.proofs.LineLaws.{line_told_1, one_event_1}
use Rattle.chi_trace.proofs.laws.lines_1_law.Goals as goal

pub returns : goal.returns
returns c = record { told = line_told_1; one_event = one_event_1 }
