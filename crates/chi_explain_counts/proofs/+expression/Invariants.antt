use Rattle.std.proofs.Common.{◌≡◌, map, drop}
use Rattle.chi_explain_counts.specs.Found.{first_found}
use Rattle.chi_explain_counts.specs.Expressions.{counted_in_expr, counted_in_link, counted_in_entry, counted_in_postfix, counted_in_formal}
use Rattle.chi_explain_counts.proofs.+expression.Given as goal

abbrev pub invariant-expressions::counted_in_exprs-loop-e : goal.invariant-expressions::counted_in_exprs-loop-e
invariant-expressions::counted_in_exprs-loop-e l =
    first_found (map (counted_in_expr l.place) l.fn.es) ≡ first_found (map (counted_in_expr l.place) (drop l.e-index l.es))

abbrev pub invariant-expressions::counted_in_links-loop-link : goal.invariant-expressions::counted_in_links-loop-link
invariant-expressions::counted_in_links-loop-link l =
    first_found (map (counted_in_link l.place) l.fn.links) ≡ first_found (map (counted_in_link l.place) (drop l.link-index l.links))

abbrev pub invariant-expressions::counted_in_entries-loop-entry : goal.invariant-expressions::counted_in_entries-loop-entry
invariant-expressions::counted_in_entries-loop-entry l =
    first_found (map (counted_in_entry l.place) l.fn.entries) ≡ first_found (map (counted_in_entry l.place) (drop l.entry-index l.entries))

abbrev pub invariant-expressions::counted_in_postfixes-loop-postfix : goal.invariant-expressions::counted_in_postfixes-loop-postfix
invariant-expressions::counted_in_postfixes-loop-postfix l =
    first_found (map (counted_in_postfix l.place) l.fn.postfixes) ≡ first_found (map (counted_in_postfix l.place) (drop l.postfix-index l.postfixes))

abbrev pub invariant-types::counted_in_formals-loop-formal : goal.invariant-types::counted_in_formals-loop-formal
invariant-types::counted_in_formals-loop-formal l =
    first_found (map (counted_in_formal l.place) l.fn.formals) ≡ first_found (map (counted_in_formal l.place) (drop l.formal-index l.formals))
