use Rattle.std.proofs.Common.{◌≡◌, ◌++◌, map, drop}
use Rattle.chi_token.specs.declared.sign.Sign.TheVariants.{Comma}
use Rattle.chi_tree_spell.specs.Words.{each_after}
use Rattle.chi_fmt.specs.Expressions.{expr_spots}
use Rattle.chi_fmt.specs.Parts.{sign}
use Rattle.chi_fmt.proofs.draft.Draft.more_exprs.Given as goal

abbrev pub invariant-loop-expr : goal.invariant-loop-expr
invariant-loop-expr l =
    l.self.spots.items ++ each_after (sign Comma) (map expr_spots (drop l.expr-index l.exprs))
    ≡ l.fn.self.spots.items ++ each_after (sign Comma) (map expr_spots l.fn.exprs)
