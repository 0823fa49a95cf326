use Rattle.std.proofs.Common.{◌≡◌, ◌++◌, map}
use Rattle.chi_check_streams.specs.Streams.{each, of_xbranch, of_xstat}
use Rattle.chi_check_streams.proofs.experiments.+experiment.Given as goal

abbrev pub invariant-trials-loop-part : goal.invariant-trials-loop-part
invariant-trials-loop-part l = record {
  part : (each (map of_xstat l.fn.all) l.fn.count).part ≡ l.done.items ++ (each (map of_xstat l.part-iterator.rest.items) l.count).part;
  next : (each (map of_xstat l.fn.all) l.fn.count).next ≡ (each (map of_xstat l.part-iterator.rest.items) l.count).next;
}

abbrev pub invariant-branches-loop-part : goal.invariant-branches-loop-part
invariant-branches-loop-part l = record {
  part : (each (map of_xbranch l.fn.all) l.fn.count).part ≡ l.done.items ++ (each (map of_xbranch l.part-iterator.rest.items) l.count).part;
  next : (each (map of_xbranch l.fn.all) l.fn.count).next ≡ (each (map of_xbranch l.part-iterator.rest.items) l.count).next;
}
