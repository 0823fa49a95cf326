use Rattle.std.proofs.Common.{◌≡◌, ◌++◌, map}
use Rattle.chi_check_streams.specs.Streams.{each, of_experiment}
use Rattle.chi_check_streams.proofs.experiments.experiments.Given as goal

abbrev pub invariant-loop-part : goal.invariant-loop-part
invariant-loop-part l = record {
  part : (each (map of_experiment l.fn.all) l.fn.count).part ≡ l.done.items ++ (each (map of_experiment l.part-iterator.rest.items) l.count).part;
  next : (each (map of_experiment l.fn.all) l.fn.count).next ≡ (each (map of_experiment l.part-iterator.rest.items) l.count).next;
}
