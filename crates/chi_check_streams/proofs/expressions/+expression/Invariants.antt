use Rattle.std.proofs.Common.{◌≡◌, ◌++◌, map}
use Rattle.chi_check_streams.specs.Streams.{each, of_expression}
use Rattle.chi_check_streams.proofs.expressions.+expression.Given as goal

abbrev pub invariant-expressions-loop-e : goal.invariant-expressions-loop-e
invariant-expressions-loop-e l = record {
  part : (each (map of_expression l.fn.es) l.fn.count).part ≡ l.done.items ++ (each (map of_expression l.e-iterator.rest.items) l.count).part;
  next : (each (map of_expression l.fn.es) l.fn.count).next ≡ (each (map of_expression l.e-iterator.rest.items) l.count).next;
}
