use Rattle.std.proofs.Common.{◌≡◌, ◌≤◌, ◌++◌, length, drop}
use Rattle.std.specs.Prelude.{codes}
use Rattle.chi_value.specs.Text.{each_after, joined_by, quoted_texts, entry_texts}
use Rattle.chi_value.proofs.text.containers.+put.Given as goal

abbrev pub invariant-put_all-loop-value : goal.invariant-put_all-loop-value
invariant-put_all-loop-value l = record {
  within : length l.text.items ≤ 4_194_304;
  rest : l.text.items ++ each_after l.between (quoted_texts l.names.kinds (drop l.value-index l.rest)) ≡
      l.fn.text.items ++ joined_by l.between (quoted_texts l.names.kinds l.fn.values);
}

abbrev pub invariant-put_entries-loop-entry : goal.invariant-put_entries-loop-entry
invariant-put_entries-loop-entry l = record {
  within : length l.text.items ≤ 4_194_304;
  rest : l.text.items ++ each_after (codes ", ") (entry_texts l.names.kinds (drop l.entry-index l.rest)) ≡
      l.fn.text.items ++ joined_by (codes ", ") (entry_texts l.names.kinds l.fn.entries);
}

abbrev pub invariant-put_row-loop-place : goal.invariant-put_row-loop-place
invariant-put_row-loop-place l = record {
  within : length l.text.items ≤ 4_194_304;
  rest : l.text.items ++ each_after (codes ", ") (quoted_texts l.names.kinds (drop l.place l.items)) ≡
      l.fn.text.items ++ joined_by (codes ", ") (quoted_texts l.names.kinds l.fn.items);
}
