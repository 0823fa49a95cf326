use Rattle.std.proofs.Common.{◌≡◌, ◌++◌, map, drop}
use Rattle.chi_token.specs.declared.sign.Sign.TheVariants.{Comma}
use Rattle.chi_token.specs.declared.token.Token.TheVariants.{Sign}
use Rattle.chi_tree_spell.specs.Words.{each_after}
use Rattle.chi_tree_spell.specs.Expressions.{commas}
use Rattle.chi_tree_spell.specs.Statements.{spelled_variable}
use Rattle.chi_tree_spell.proofs.speller.Speller.variables.Given as goal

abbrev pub invariant-loop-variable : goal.invariant-loop-variable
invariant-loop-variable l =
    l.self.tokens.items ++ each_after (Sign Comma) (map spelled_variable (drop l.variable-index l.more))
    ≡ l.fn.self.tokens.items ++ commas (map spelled_variable l.fn.variables)
