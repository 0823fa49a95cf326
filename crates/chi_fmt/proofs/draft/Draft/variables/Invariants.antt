use Rattle.std.proofs.Common.{◌≡◌, ◌++◌, map, drop}
use Rattle.chi_token.specs.declared.sign.Sign.TheVariants.{Comma}
use Rattle.chi_tree_spell.specs.Words.{each_after}
use Rattle.chi_fmt.specs.Expressions.{commas}
use Rattle.chi_fmt.specs.Parts.{sign, variable_spots}
use Rattle.chi_fmt.proofs.draft.Draft.variables.Given as goal

abbrev pub invariant-loop-variable : goal.invariant-loop-variable
invariant-loop-variable l =
    l.self.spots.items ++ each_after (sign Comma) (map variable_spots (drop l.variable-index l.more))
    ≡ l.fn.self.spots.items ++ commas (map variable_spots l.fn.variables)
