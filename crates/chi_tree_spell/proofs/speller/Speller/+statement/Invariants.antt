use Rattle.std.proofs.Common.{◌≡◌, ◌++◌, map, drop}
use Rattle.chi_token.specs.declared.keyword.Keyword.TheVariants.{AltWord, ElifWord}
use Rattle.chi_token.specs.declared.token.Token.TheVariants.{Word}
use Rattle.chi_tree_spell.specs.Words.{all, each_after, separated}
use Rattle.chi_tree_spell.specs.Statements.{spelled_alternative, spelled_branch, spelled_step, spelled_block}
use Rattle.chi_tree_spell.proofs.speller.Speller.+statement.Given as goal

abbrev pub invariant-steps-loop-step : goal.invariant-steps-loop-step
invariant-steps-loop-step l =
    l.self.tokens.items ++ all (map spelled_step (drop l.step-index l.steps)) ≡ l.fn.self.tokens.items ++ spelled_block l.fn.steps

abbrev pub invariant-branches-loop-branch : goal.invariant-branches-loop-branch
invariant-branches-loop-branch l =
    l.self.tokens.items ++ each_after (Word ElifWord) (map spelled_branch (drop l.branch-index l.more))
    ≡ l.fn.self.tokens.items ++ separated (Word ElifWord) (map spelled_branch l.fn.branches)

abbrev pub invariant-alternatives-loop-alternative : goal.invariant-alternatives-loop-alternative
invariant-alternatives-loop-alternative l =
    l.self.tokens.items ++ each_after (Word AltWord) (map spelled_alternative (drop l.alternative-index l.more))
    ≡ l.fn.self.tokens.items ++ separated (Word AltWord) (map spelled_alternative l.fn.alternatives)
