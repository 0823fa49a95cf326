-- What a rule builds of the same tokens is the same tree, but for its places.
use Rattle.std.proofs.Common.{◌≡◌, true, map, sym, ◌∙◌}
use Rattle.chi_grammar.specs.declared.room.Room.{Room}
use Rattle.chi_grammar.specs.Fine.{is_decided}
use Rattle.chi_grammar.specs.Rules.{Rule, spelling}
use Rattle.chi_grammar.specs.Trees.{Is}
use Rattle.chi_grammar.proofs.OneTree.{one_tree}
use Rattle.chi_token.specs.declared.place.Spanned.{Spanned}
use Rattle.chi_tree.specs.Parts.{Part}
use Rattle.chi_tree.specs.Rules.{grammar, rule_of}
use Rattle.chi_tree.specs.Tables.{table}
use Rattle.chi_tree.specs.View.{Built}
use Rattle.chi_tree_spell.specs.Words.{token_of}
use Rattle.chi_tree.proofs.Fine.{grammar_fine}
use Rattle.chi_tree_laws.proofs.UnplacedBuilt.{unplaced_tree, unplaced_spelling, same_unplaced, Blind, unplaced_is}

pub one_built : ((s : Part) → Blind (rule_of s)) → (r : Rule Spanned Part) → is_decided table r ≡ true → Blind r
    → (room other : Room) (t u : Built) → Is grammar room r t → Is grammar other r u
    → map token_of (spelling t) ≡ map token_of (spelling u) → unplaced_tree t ≡ unplaced_tree u
one_built blind r d b room other t u p q e =
    one_tree grammar table grammar_fine r d room other (unplaced_tree t) (unplaced_tree u) (unplaced_is blind b p) (unplaced_is blind b q)
    (unplaced_spelling t ∙ same_unplaced (spelling t) (spelling u) e ∙ sym (unplaced_spelling u))
