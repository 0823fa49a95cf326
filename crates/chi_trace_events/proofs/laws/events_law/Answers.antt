use Rattle.chi_trace_events.proofs.Present.{is_there, has_event}
use Rattle.chi_trace_events.proofs.laws.events_law.Goals as goal

pub returns : goal.returns
returns c = record {
  there = λ core sound config kinded label may. is_there core sound (c.kinded_law.ensures.keeps core sound) c.values_are_of_kinds.ensures.named config kinded label may;
  event = λ core sound config kinded label may turn.
      has_event core config label (is_there core sound (c.kinded_law.ensures.keeps core sound) c.values_are_of_kinds.ensures.named config kinded label may) turn;
}
