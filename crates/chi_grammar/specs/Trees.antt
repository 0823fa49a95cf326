-- Which trees a rule builds.
use Rattle.std.specs.Prelude.{ℕ, ◌≡◌, Bool, true, false}
use Rattle.chi_grammar.specs.declared.room.Nesting.{Nesting}
use Rattle.chi_grammar.specs.declared.room.Room.{Room}
use Rattle.chi_grammar.specs.Rooms.{IsInside}
use Rattle.chi_grammar.specs.Rules.{Tree, leaf, node, pair, none, Rule, ◌▸◌, ◌∣◌, maybe, many, when, Grammar}
use Rattle.chi_grammar.specs.Rules as rule

-- the rule builds the tree, and no token of it stands deeper than there is room
pub data Is {A S : Type 0} (g : Grammar A S) : Room → Rule A S → Tree A S → Type 0 where
  word : {room : Room} {class : ℕ} {x : A} → g.class_of x ≡ class → Is g room (rule.word class) (leaf x)
  part : {room : Room} {s : S} {t : Tree A S} → Is g room (g.rule_of s) t → Is g room (rule.part s) (node s t)
  both : {room : Room} {a b : Rule A S} {t u : Tree A S} → Is g room a t → Is g room b u → Is g room (a ▸ b) (pair t u)
  left : {room : Room} {a b : Rule A S} {t : Tree A S} → Is g room a t → Is g room (a ∣ b) t
  right : {room : Room} {a b : Rule A S} {t : Tree A S} → Is g room b t → Is g room (a ∣ b) t
  once : {room : Room} {a : Rule A S} {t : Tree A S} → Is g room a t → Is g room (maybe a) t
  never : {room : Room} {a : Rule A S} → Is g room (maybe a) none
  more : {room : Room} {a : Rule A S} {t u : Tree A S} → Is g room a t → Is g room (many a) u → Is g room (many a) (pair t u)
  enough : {room : Room} {a : Rule A S} → Is g room (many a) none
  deeper : {room inner : Room} {nesting : Nesting} {a : Rule A S} {t : Tree A S}
      → IsInside nesting room inner → Is g inner a t → Is g room (rule.deeper nesting a) t
  chosen : {room : Room} {a b c : Rule A S} {test : Tree A S → Bool} {t u : Tree A S}
      → Is g room a t → test t ≡ true → Is g room b u → Is g room (when a test b c) (pair t u)
  otherwise : {room : Room} {a b c : Rule A S} {test : Tree A S → Bool} {t u : Tree A S}
      → Is g room a t → test t ≡ false → Is g room c u → Is g room (when a test b c) (pair t u)
