use Rattle.chi_trace_events.proofs.Traced.{begins, on, over, whole, of_none}
use Rattle.chi_trace_events.proofs.laws.tracing_law.Goals as goal

pub returns : goal.returns
returns c = record {
  begins = begins;
  on = λ probe core start bound labels text config left. on probe core bound labels text config left start;
  over = λ probe core start bound labels text config left. over probe core bound labels text config left start;
  whole = λ probe core start bound labels text config left. whole probe core bound labels text config left start;
  of_none = of_none;
}
