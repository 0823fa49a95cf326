-- What holds of each part where it holds of the parts in it, and the grammar builds it.
use Rattle.chi_grammar.specs.declared.room.Room.{Room}
use Rattle.chi_grammar.specs.Rules.{Rule, node}
use Rattle.chi_grammar.specs.Trees.{Is}
use Rattle.chi_grammar.specs.Trees as is
use Rattle.chi_token.specs.declared.place.Spanned.{Spanned}
use Rattle.chi_tree.specs.Parts.{Part}
use Rattle.chi_tree.specs.Rules.{grammar, rule_of}
use Rattle.chi_tree.specs.View.{Built}
use Rattle.chi_tree.proofs.Made.{Made}
use Rattle.chi_tree.proofs.Made as made

pub made_with : (P : Room → Part → Built → Type 0)
    → ((room : Room) (s : Part) (t : Built) → Is grammar room (rule_of s) t → Made P room (rule_of s) t → P room s (node s t))
    → {room : Room} {r : Rule Spanned Part} {t : Built} → Is grammar room r t → Made P room r t
made_with P step (is.word e) = made.word e
made_with P step (is.part p) = made.part (step _ _ _ p (made_with P step p))
made_with P step (is.both p q) = made.both (made_with P step p) (made_with P step q)
made_with P step (is.left p) = made.left (made_with P step p)
made_with P step (is.right p) = made.right (made_with P step p)
made_with P step (is.once p) = made.once (made_with P step p)
made_with P step is.never = made.never
made_with P step (is.more p ps) = made.more (made_with P step p) (made_with P step ps)
made_with P step is.enough = made.enough
made_with P step (is.deeper i p) = made.deeper i (made_with P step p)
made_with P step (is.chosen p e q) = made.chosen (made_with P step p) e (made_with P step q)
made_with P step (is.otherwise p e q) = made.otherwise (made_with P step p) e (made_with P step q)
