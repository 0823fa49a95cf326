use Rattle.chi_trace.proofs.LineLaws.{line_told, one_event}
use Rattle.chi_trace.proofs.laws.lines_law.Goals as goal

pub returns : goal.returns
returns c = record { told = line_told; one_event = one_event }
