use Rattle.std.proofs.Common.{◌≡◌, ◌≤◌, false}
use Rattle.std.specs.Prelude.{option_map}
use Rattle.chi_machine_traces.proofs.Running.{Running}
use Rattle.chi_machine_traces.proofs.run.run_on.Given as goal

abbrev pub invariant-turn : goal.invariant-turn
invariant-turn g l = record {
  runs : Running (g.C.Chooser.gives l.terms.policy) (option_map g.S.Sieve.keeps_to l.terms.trace) l.code l.initial.course l.initial.told (g.O.Sink.taken l.initial.out) (g.O.Sink.taken l.out) l.course l.told;
  goes : g.O.Sink.stopped l.out ≡ false;
  count : g.O.Sink.faults l.initial.out ≤ g.O.Sink.faults l.out;
}

abbrev pub decreases-turn : goal.decreases-turn
decreases-turn g l = l.course.left
