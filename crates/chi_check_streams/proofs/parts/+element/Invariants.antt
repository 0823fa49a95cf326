use Rattle.std.proofs.Common.{◌≡◌, ◌++◌, map}
use Rattle.chi_check_streams.specs.Streams.{each, of_element}
use Rattle.chi_check_streams.proofs.parts.+element.Given as goal

abbrev pub invariant-elements-loop-part : goal.invariant-elements-loop-part
invariant-elements-loop-part l = record {
  part : (each (map of_element l.fn.all) l.fn.count).part ≡ l.done.items ++ (each (map of_element l.part-iterator.rest.items) l.count).part;
  next : (each (map of_element l.fn.all) l.fn.count).next ≡ (each (map of_element l.part-iterator.rest.items) l.count).next;
}
