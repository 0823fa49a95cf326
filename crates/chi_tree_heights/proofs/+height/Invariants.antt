use Rattle.std.proofs.Common.{◌≡◌, ◌-◌, ◌^◌, ◌≤◌, min, max, map, drop}
use Rattle.chi_tree_heights.specs.Heights.{height, link_height, part_height, entry_height, formal_height, highest}
use Rattle.chi_tree_heights.proofs.+height.Given as goal

abbrev pub invariant-expressions::highest_entry-loop-entry :
    goal.invariant-expressions::highest_entry-loop-entry
invariant-expressions::highest_entry-loop-entry l = record {
  fits : l.greatest ≤ 2 ^ 32 - 1;
  rest : min (highest (map entry_height l.fn.entries)) (2 ^ 32 - 1) ≡
      min (max l.greatest (highest (map entry_height (drop l.entry-index l.entries)))) (2 ^ 32 - 1);
}

abbrev pub invariant-expressions::highest_of-loop-part :
    goal.invariant-expressions::highest_of-loop-part
invariant-expressions::highest_of-loop-part l = record {
  fits : l.greatest ≤ 2 ^ 32 - 1;
  rest : min (highest (map height l.fn.parts)) (2 ^ 32 - 1) ≡
      min (max l.greatest (highest (map height (drop l.part-index l.parts)))) (2 ^ 32 - 1);
}

abbrev pub invariant-types::highest_field-loop-field :
    goal.invariant-types::highest_field-loop-field
invariant-types::highest_field-loop-field l = record {
  fits : l.greatest ≤ 2 ^ 32 - 1;
  rest : min (highest (map formal_height l.fn.fields)) (2 ^ 32 - 1) ≡
      min (max l.greatest (highest (map formal_height (drop l.field-index l.fields)))) (2 ^ 32 - 1);
}

abbrev pub invariant-expressions::highest_link-loop-link :
    goal.invariant-expressions::highest_link-loop-link
invariant-expressions::highest_link-loop-link l = record {
  fits : l.greatest ≤ 2 ^ 32 - 1;
  rest : min (highest (map link_height l.fn.links)) (2 ^ 32 - 1) ≡
      min (max l.greatest (highest (map link_height (drop l.link-index l.links)))) (2 ^ 32 - 1);
}

abbrev pub invariant-expressions::highest_postfix-loop-postfix :
    goal.invariant-expressions::highest_postfix-loop-postfix
invariant-expressions::highest_postfix-loop-postfix l = record {
  fits : l.greatest ≤ 2 ^ 32 - 1;
  rest : min (highest (map part_height l.fn.postfixes)) (2 ^ 32 - 1) ≡
      min (max l.greatest (highest (map part_height (drop l.postfix-index l.postfixes)))) (2 ^ 32 - 1);
}
