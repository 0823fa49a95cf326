use Rattle.std.proofs.Common.{◌≡◌, ◌++◌, map, drop}
use Rattle.chi_token.specs.declared.sign.Sign.TheVariants.{Comma}
use Rattle.chi_tree_spell.specs.Words.{each_after}
use Rattle.chi_fmt.specs.Expressions.{commas}
use Rattle.chi_fmt.specs.Parts.{sign, target_spots}
use Rattle.chi_fmt.proofs.draft.Draft.targets.Given as goal

abbrev pub invariant-loop-target : goal.invariant-loop-target
invariant-loop-target l =
    l.self.spots.items ++ each_after (sign Comma) (map target_spots (drop l.target-index l.more))
    ≡ l.fn.self.spots.items ++ commas (map target_spots l.fn.targets)
