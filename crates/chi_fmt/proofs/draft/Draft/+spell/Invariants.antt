use Rattle.std.proofs.Common.{◌≡◌, ◌++◌, map, drop}
use Rattle.chi_token.specs.declared.sign.Sign.TheVariants.{Comma}
use Rattle.chi_tree_spell.specs.Words.{all, each_after}
use Rattle.chi_tree_spell.specs.Expressions.{put_further}
use Rattle.chi_fmt.specs.Expressions.{commas, usual, expr_spots, link_spots, postfix_spots, entry_spots, formals_spots, formal_spots}
use Rattle.chi_fmt.specs.Parts.{sign}
use Rattle.chi_fmt.proofs.draft.Draft.+spell.Given as goal

abbrev pub invariant-links-loop-link : goal.invariant-links-loop-link
invariant-links-loop-link l =
    l.self.spots.items ++ all (map link_spots (drop l.link-index l.links)) ≡ l.fn.self.spots.items ++ all (map link_spots l.fn.links)

abbrev pub invariant-postfixes-loop-postfix : goal.invariant-postfixes-loop-postfix
invariant-postfixes-loop-postfix l =
    l.self.spots.items ++ all (map postfix_spots (drop l.postfix-index l.postfixes))
    ≡ l.fn.self.spots.items ++ all (map postfix_spots l.fn.postfixes)

abbrev pub invariant-exprs-loop-expr : goal.invariant-exprs-loop-expr
invariant-exprs-loop-expr l =
    l.self.spots.items ++ each_after (sign Comma) (map expr_spots (drop l.expr-index l.more))
    ≡ l.fn.self.spots.items ++ commas (map expr_spots l.fn.exprs)

abbrev pub invariant-entries-loop-entry : goal.invariant-entries-loop-entry
invariant-entries-loop-entry l =
    l.self.spots.items ++ each_after (sign Comma) (map entry_spots (drop l.entry-index l.more))
    ≡ l.fn.self.spots.items ++ commas (map entry_spots l.fn.entries)

abbrev pub invariant-formals-loop-formal : goal.invariant-formals-loop-formal
invariant-formals-loop-formal l =
    l.self.spots.items ++ all (map (put_further usual) (map formal_spots (drop l.formal-index l.more)))
    ≡ l.fn.self.spots.items ++ formals_spots l.fn.formals
