use Rattle.std.proofs.Common.{◌≡◌, ◌++◌, map, drop}
use Rattle.chi_token.specs.declared.sign.Sign.TheVariants.{Comma}
use Rattle.chi_token.specs.declared.token.Token.TheVariants.{Sign}
use Rattle.chi_tree_spell.specs.Words.{each_after}
use Rattle.chi_tree_spell.specs.Expressions.{commas}
use Rattle.chi_tree_spell.specs.Statements.{spelled_target}
use Rattle.chi_tree_spell.proofs.speller.Speller.targets.Given as goal

abbrev pub invariant-loop-target : goal.invariant-loop-target
invariant-loop-target l =
    l.self.tokens.items ++ each_after (Sign Comma) (map spelled_target (drop l.target-index l.more))
    ≡ l.fn.self.tokens.items ++ commas (map spelled_target l.fn.targets)
