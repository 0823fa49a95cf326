use Rattle.chi_trace_events.proofs.Traced.{each_trace, one_trace}
use Rattle.chi_trace_events.proofs.laws.trace_law.Goals as goal

pub returns : goal.returns
returns c = record {
  some = λ probe core sound. each_trace probe core sound (c.kinded_law.ensures.begins core sound) (c.kinded_law.ensures.keeps core sound) c.events_law.ensures.event;
  one = one_trace;
}
