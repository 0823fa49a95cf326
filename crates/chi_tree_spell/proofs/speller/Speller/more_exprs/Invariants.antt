use Rattle.std.proofs.Common.{◌≡◌, ◌++◌, map, drop}
use Rattle.chi_token.specs.declared.sign.Sign.TheVariants.{Comma}
use Rattle.chi_token.specs.declared.token.Token.TheVariants.{Sign}
use Rattle.chi_tree_spell.specs.Words.{each_after}
use Rattle.chi_tree_spell.specs.Expressions.{spelled_expr}
use Rattle.chi_tree_spell.proofs.speller.Speller.more_exprs.Given as goal

abbrev pub invariant-loop-expr : goal.invariant-loop-expr
invariant-loop-expr l =
    l.self.tokens.items ++ each_after (Sign Comma) (map spelled_expr (drop l.expr-index l.exprs))
    ≡ l.fn.self.tokens.items ++ each_after (Sign Comma) (map spelled_expr l.fn.exprs)
