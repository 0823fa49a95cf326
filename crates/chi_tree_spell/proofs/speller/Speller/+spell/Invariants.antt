use Rattle.std.proofs.Common.{◌≡◌, ◌++◌, map, drop}
use Rattle.chi_token.specs.declared.sign.Sign.TheVariants.{Comma}
use Rattle.chi_token.specs.declared.token.Token.TheVariants.{Sign}
use Rattle.chi_tree_spell.specs.Words.{all, each_after}
use Rattle.chi_tree_spell.specs.Expressions.{commas, further, spelled_expr, spelled_link, spelled_postfix, spelled_entry, spelled_formals, declared}
use Rattle.chi_tree_spell.proofs.speller.Speller.+spell.Given as goal

abbrev pub invariant-links-loop-link : goal.invariant-links-loop-link
invariant-links-loop-link l =
    l.self.tokens.items ++ all (map spelled_link (drop l.link-index l.links)) ≡ l.fn.self.tokens.items ++ all (map spelled_link l.fn.links)

abbrev pub invariant-postfixes-loop-postfix : goal.invariant-postfixes-loop-postfix
invariant-postfixes-loop-postfix l =
    l.self.tokens.items ++ all (map spelled_postfix (drop l.postfix-index l.postfixes))
    ≡ l.fn.self.tokens.items ++ all (map spelled_postfix l.fn.postfixes)

abbrev pub invariant-exprs-loop-expr : goal.invariant-exprs-loop-expr
invariant-exprs-loop-expr l =
    l.self.tokens.items ++ each_after (Sign Comma) (map spelled_expr (drop l.expr-index l.more))
    ≡ l.fn.self.tokens.items ++ commas (map spelled_expr l.fn.exprs)

abbrev pub invariant-entries-loop-entry : goal.invariant-entries-loop-entry
invariant-entries-loop-entry l =
    l.self.tokens.items ++ each_after (Sign Comma) (map spelled_entry (drop l.entry-index l.more))
    ≡ l.fn.self.tokens.items ++ commas (map spelled_entry l.fn.entries)

abbrev pub invariant-formals-loop-formal : goal.invariant-formals-loop-formal
invariant-formals-loop-formal l =
    l.self.tokens.items ++ all (map further (map declared (drop l.formal-index l.more)))
    ≡ l.fn.self.tokens.items ++ spelled_formals l.fn.formals
