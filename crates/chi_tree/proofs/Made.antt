-- What holds of each part where it holds of the parts in it.
use Rattle.std.proofs.Common.{◌≡◌, ℕ, Bool, true, false}
use Rattle.chi_grammar.specs.declared.room.Nesting.{Nesting}
use Rattle.chi_grammar.specs.declared.room.Room.{Room}
use Rattle.chi_grammar.specs.Rooms.{IsInside}
use Rattle.chi_grammar.specs.Rules.{Tree, leaf, node, pair, none, Rule, ◌▸◌, ◌∣◌, maybe, many, when}
use Rattle.chi_grammar.specs.Rules as rule
use Rattle.chi_grammar.specs.Trees.{Is}
use Rattle.chi_grammar.specs.Trees as is
use Rattle.chi_token.specs.declared.place.Spanned.{Spanned}
use Rattle.chi_tree.specs.Classes.{class_of, number_of}
use Rattle.chi_tree.specs.Parts.{Part}
use Rattle.chi_tree.specs.Rules.{grammar, rule_of}
use Rattle.chi_tree.specs.View.{Built}

-- what the rule builds, where each part in it is known to be P
pub data Made (P : Room → Part → Built → Type 0) : Room → Rule Spanned Part → Built → Type 0 where
  word : {room : Room} {class : ℕ} {x : Spanned} → number_of (class_of x.token) ≡ class → Made P room (rule.word class) (leaf x)
  part : {room : Room} {s : Part} {t : Built} → P room s (node s t) → Made P room (rule.part s) (node s t)
  both : {room : Room} {a b : Rule Spanned Part} {t u : Built} → Made P room a t → Made P room b u → Made P room (a ▸ b) (pair t u)
  left : {room : Room} {a b : Rule Spanned Part} {t : Built} → Made P room a t → Made P room (a ∣ b) t
  right : {room : Room} {a b : Rule Spanned Part} {t : Built} → Made P room b t → Made P room (a ∣ b) t
  once : {room : Room} {a : Rule Spanned Part} {t : Built} → Made P room a t → Made P room (maybe a) t
  never : {room : Room} {a : Rule Spanned Part} → Made P room (maybe a) none
  more : {room : Room} {a : Rule Spanned Part} {t u : Built} → Made P room a t → Made P room (many a) u → Made P room (many a) (pair t u)
  enough : {room : Room} {a : Rule Spanned Part} → Made P room (many a) none
  deeper : {room inner : Room} {nesting : Nesting} {a : Rule Spanned Part} {t : Built}
      → IsInside nesting room inner → Made P inner a t → Made P room (rule.deeper nesting a) t
  chosen : {room : Room} {a b c : Rule Spanned Part} {test : Built → Bool} {t u : Built}
      → Made P room a t → test t ≡ true → Made P room b u → Made P room (when a test b c) (pair t u)
  otherwise : {room : Room} {a b c : Rule Spanned Part} {test : Built → Bool} {t u : Built}
      → Made P room a t → test t ≡ false → Made P room c u → Made P room (when a test b c) (pair t u)

-- where P holds of each part that is made of such parts, it holds in whatever the grammar builds
pub made : (P : Room → Part → Built → Type 0)
    → ((room : Room) (s : Part) (t : Built) → Made P room (rule_of s) t → P room s (node s t))
    → {room : Room} {r : Rule Spanned Part} {t : Built} → Is grammar room r t → Made P room r t
made P step (is.word e) = word e
made P step (is.part p) = part (step _ _ _ (made P step p))
made P step (is.both p q) = both (made P step p) (made P step q)
made P step (is.left p) = left (made P step p)
made P step (is.right p) = right (made P step p)
made P step (is.once p) = once (made P step p)
made P step is.never = never
made P step (is.more p ps) = more (made P step p) (made P step ps)
made P step is.enough = enough
made P step (is.deeper i p) = deeper i (made P step p)
made P step (is.chosen p e q) = chosen (made P step p) e (made P step q)
made P step (is.otherwise p e q) = otherwise (made P step p) e (made P step q)
