use Rattle.std.proofs.Common.{◌≡◌, ◌++◌, length}
use Rattle.std.specs.Vec.Iter.{into_iter_items, into_iter_len}
use Rattle.chi_check_expr_rules.specs.Containers.{entries}
use Rattle.chi_check_expr_parts.proofs.dictionaries.entries.Given as goal

abbrev pub invariant-loop-key : goal.invariant-loop-key
invariant-loop-key l = record {
  done : entries l.key_type l.value_type l.fn.keys l.fn.values ≡ l.cores.items ++ entries l.key_type l.value_type (into_iter_items l.key-iterator) (into_iter_items l.rest);
  counted : into_iter_len l.rest ≡ length (into_iter_items l.rest);
}
