use Rattle.std.proofs.Common.{◌-◌, ◌∷◌, length}
use Rattle.chi_grammar.specs.declared.room.Room.{Room}
use Rattle.chi_token.specs.declared.sign.Sign.TheVariants as sign_of
use Rattle.chi_grammar.specs.Rules.{◌▸◌}
use Rattle.chi_tree.specs.Rules.{name, sign}
use Rattle.chi_tree.specs.View.{more_names_in}
use Rattle.chi_parse_expr.proofs.Loops.{Gathered}
use Rattle.chi_parse.proofs.walks.more_names.Given as goal

abbrev pub invariant-turn : goal.invariant-turn
invariant-turn l = (room : Room) → Gathered (λ ts. l.fn.first ∷ more_names_in ts) more_names_in l.fn.tokens room (sign sign_of.Comma ▸ name) l.fn.at l.end l.names.items

abbrev pub decreases-turn : goal.decreases-turn
decreases-turn l = length l.tokens - l.end
