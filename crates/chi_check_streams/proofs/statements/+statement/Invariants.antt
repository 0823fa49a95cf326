use Rattle.std.proofs.Common.{◌≡◌, ◌++◌, map}
use Rattle.chi_check_streams.specs.Streams.{each, of_alternative, of_branch, of_statement}
use Rattle.chi_check_streams.proofs.statements.+statement.Given as goal

abbrev pub invariant-statements-loop-part : goal.invariant-statements-loop-part
invariant-statements-loop-part l = record {
  part : (each (map of_statement l.fn.all) l.fn.count).part ≡ l.done.items ++ (each (map of_statement l.part-iterator.rest.items) l.count).part;
  next : (each (map of_statement l.fn.all) l.fn.count).next ≡ (each (map of_statement l.part-iterator.rest.items) l.count).next;
}

abbrev pub invariant-branches-loop-part : goal.invariant-branches-loop-part
invariant-branches-loop-part l = record {
  part : (each (map of_branch l.fn.all) l.fn.count).part ≡ l.done.items ++ (each (map of_branch l.part-iterator.rest.items) l.count).part;
  next : (each (map of_branch l.fn.all) l.fn.count).next ≡ (each (map of_branch l.part-iterator.rest.items) l.count).next;
}

abbrev pub invariant-alternatives-loop-part : goal.invariant-alternatives-loop-part
invariant-alternatives-loop-part l = record {
  part : (each (map of_alternative l.fn.all) l.fn.count).part ≡ l.done.items ++ (each (map of_alternative l.part-iterator.rest.items) l.count).part;
  next : (each (map of_alternative l.fn.all) l.fn.count).next ≡ (each (map of_alternative l.part-iterator.rest.items) l.count).next;
}
