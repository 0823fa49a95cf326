use Rattle.std.proofs.Common.{◌≡◌, drop, map, ◌++◌, None}
use Rattle.chi_check_types.specs.Faults.{first_of}
use Rattle.chi_check_expr.specs.Expressions.{chained, parted}
use Rattle.chi_check_expr.specs.Reads.{made_of, all_faults, key_made, value_made, entry_faults}
use Rattle.chi_check_expr.specs.TypeTrees.{parts_from, field_faults, each_field_faults}
use Rattle.chi_check_expr.specs.Typing.{typing, linked, taken, paired, formal}
use Rattle.chi_check_expr.proofs.Parts.{joined_on}
use Rattle.chi_check_expr.proofs.typing.+typing.Given as goal

abbrev pub invariant-operands::type_links-loop-link : goal.invariant-operands::type_links-loop-link
invariant-operands::type_links-loop-link l =
    let whole = chained l.fn.first (map (linked l.site l.scope) l.links) in
    let rest = chained l.left (map (linked l.site l.scope) (drop l.link-index l.links)) in
    record { made : whole.made ≡ rest.made; noted : first_of l.fn.kept whole.faults ≡ first_of l.kept rest.faults }

abbrev pub invariant-parts::type_parts-loop-postfix : goal.invariant-parts::type_parts-loop-postfix
invariant-parts::type_parts-loop-postfix l =
    let all = parted l.fn.whole (map (taken l.site l.scope) l.postfixes) in
    let rest = parted l.part (map (taken l.site l.scope) (drop l.postfix-index l.postfixes)) in
    record { made : all.made ≡ rest.made; noted : first_of l.fn.kept all.faults ≡ first_of l.kept rest.faults }

abbrev pub invariant-containers::type_all-loop-part : goal.invariant-containers::type_all-loop-part
invariant-containers::type_all-loop-part l =
    let rest = map (typing l.site l.scope) (drop l.part-index l.parts) in
    record {
      made : map made_of (map (typing l.site l.scope) l.parts) ≡ l.all.items ++ map made_of rest;
      noted : first_of l.fn.kept (all_faults (map (typing l.site l.scope) l.parts)) ≡ first_of l.kept (all_faults rest);
    }

abbrev pub invariant-containers::type_entries-loop-entry : goal.invariant-containers::type_entries-loop-entry
invariant-containers::type_entries-loop-entry l =
    let rest = map (paired l.site l.scope) (drop l.entry-index l.entries) in
    record {
      keys : map key_made (map (paired l.site l.scope) l.entries) ≡ l.keys.items ++ map key_made rest;
      values : map value_made (map (paired l.site l.scope) l.entries) ≡ l.values.items ++ map value_made rest;
      noted : first_of l.fn.kept (entry_faults (map (paired l.site l.scope) l.entries)) ≡ first_of l.kept (entry_faults rest);
    }

abbrev pub invariant-type_trees::mean_fields-loop-field : goal.invariant-type_trees::mean_fields-loop-field
invariant-type_trees::mean_fields-loop-field l =
    let rest = map (formal l.site l.scope) (drop l.field-index l.fields) in
    record {
      made : parts_from None (map (formal l.site l.scope) l.fields) ≡ joined_on l.parts (parts_from l.last rest);
      noted : first_of l.fn.kept (field_faults (map (formal l.site l.scope) l.fields)) ≡ first_of l.kept (each_field_faults rest);
    }
