-- Fronts: with which tokens a rule can begin, whether or not a whole tree is there.
use Rattle.std.specs.Prelude.{◌≡◌, Bool, true, false, List, [], ◌++◌}
use Rattle.chi_grammar.specs.declared.room.Nesting.{Nesting}
use Rattle.chi_grammar.specs.declared.room.Room.{Room}
use Rattle.chi_grammar.specs.Rooms.{IsInside}
use Rattle.chi_grammar.specs.Rules.{Tree, spelling, Rule, ◌▸◌, ◌∣◌, maybe, many, when, Grammar}
use Rattle.chi_grammar.specs.Rules as rule
use Rattle.chi_grammar.specs.Trees.{Is}

-- The tokens are a front of the rule, none of them deeper than there is room: no tokens, the spelling of a tree, or the
-- spellings of the rule's first parts in turn and then a front of the next part.
pub data Front {A S : Type 0} (g : Grammar A S) : Room → Rule A S → List A → Type 0 where
  empty : {room : Room} {r : Rule A S} → Front g room r []
  whole : {room : Room} {r : Rule A S} {t : Tree A S} {f : List A} → Is g room r t → f ≡ spelling t → Front g room r f
  part : {room : Room} {s : S} {f : List A} → Front g room (g.rule_of s) f → Front g room (rule.part s) f
  first : {room : Room} {a b : Rule A S} {f : List A} → Front g room a f → Front g room (a ▸ b) f
  next : {room : Room} {a b : Rule A S} {t : Tree A S} {f h : List A}
      → Is g room a t → Front g room b h → f ≡ spelling t ++ h → Front g room (a ▸ b) f
  left : {room : Room} {a b : Rule A S} {f : List A} → Front g room a f → Front g room (a ∣ b) f
  right : {room : Room} {a b : Rule A S} {f : List A} → Front g room b f → Front g room (a ∣ b) f
  once : {room : Room} {a : Rule A S} {f : List A} → Front g room a f → Front g room (maybe a) f
  one : {room : Room} {a : Rule A S} {f : List A} → Front g room a f → Front g room (many a) f
  more : {room : Room} {a : Rule A S} {t : Tree A S} {f h : List A}
      → Is g room a t → Front g room (many a) h → f ≡ spelling t ++ h → Front g room (many a) f
  deeper : {room inner : Room} {nesting : Nesting} {a : Rule A S} {f : List A}
      → IsInside nesting room inner → Front g inner a f → Front g room (rule.deeper nesting a) f
  before : {room : Room} {a b c : Rule A S} {test : Tree A S → Bool} {f : List A}
      → Front g room a f → Front g room (when a test b c) f
  chosen : {room : Room} {a b c : Rule A S} {test : Tree A S → Bool} {t : Tree A S} {f h : List A}
      → Is g room a t → test t ≡ true → Front g room b h → f ≡ spelling t ++ h → Front g room (when a test b c) f
  otherwise : {room : Room} {a b c : Rule A S} {test : Tree A S → Bool} {t : Tree A S} {f h : List A}
      → Is g room a t → test t ≡ false → Front g room c h → f ≡ spelling t ++ h → Front g room (when a test b c) f
