use Rattle.std.proofs.Common.{◌≡◌, ◌++◌, map, drop}
use Rattle.chi_token.specs.declared.sign.Sign.TheVariants.{Comma}
use Rattle.chi_token.specs.declared.token.Token.TheVariants.{Sign}
use Rattle.chi_tree_spell.specs.Words.{each_after}
use Rattle.chi_tree_spell.specs.Statements.{spelled_name, spelled_names}
use Rattle.chi_tree_spell.proofs.speller.Speller.names.Given as goal

abbrev pub invariant-loop-name : goal.invariant-loop-name
invariant-loop-name l =
    l.self.tokens.items ++ each_after (Sign Comma) (map spelled_name (drop l.name-index l.more))
    ≡ l.fn.self.tokens.items ++ spelled_names l.fn.names
