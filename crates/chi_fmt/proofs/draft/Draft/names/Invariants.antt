use Rattle.std.proofs.Common.{◌≡◌, ◌++◌, map, drop}
use Rattle.chi_token.specs.declared.sign.Sign.TheVariants.{Comma}
use Rattle.chi_tree_spell.specs.Words.{each_after}
use Rattle.chi_fmt.specs.Parts.{sign, name_spots, names_spots}
use Rattle.chi_fmt.proofs.draft.Draft.names.Given as goal

abbrev pub invariant-loop-name : goal.invariant-loop-name
invariant-loop-name l =
    l.self.spots.items ++ each_after (sign Comma) (map name_spots (drop l.name-index l.more))
    ≡ l.fn.self.spots.items ++ names_spots l.fn.names
