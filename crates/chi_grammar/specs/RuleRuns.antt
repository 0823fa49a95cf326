-- How a reader goes through the tokens with one token ahead.
use Rattle.std.specs.Prelude.{ℕ, suc, ◌≡◌, Bool, true, false, Some, List, [], ◌∷◌, slice_get}
use Rattle.chi_grammar.specs.declared.fault.ParseFault.{ParseFault}
use Rattle.chi_grammar.specs.declared.fault.ParseFault.TheVariants.{Syntax, TooDeep, NoMemory}
use Rattle.chi_grammar.specs.declared.room.Nesting.{Nesting}
use Rattle.chi_grammar.specs.declared.room.Room.{Room}
use Rattle.chi_grammar.specs.Rooms.{IsInside, IsFull}
use Rattle.chi_grammar.specs.Rules.{Tree, leaf, node, pair, none, Rule, ◌▸◌, ◌∣◌, maybe, many, when, Grammar}
use Rattle.chi_grammar.specs.Rules as rule
use Rattle.chi_grammar.specs.Lookahead.{Table, Next, first}

-- a tree with the index after its tokens, or a fault
pub data Outcome (A S : Type 0) : Type 0 where
  Done : Tree A S → ℕ → Outcome A S
  Fail : ParseFault → Outcome A S

module _ {A S : Type 0} (g : Grammar A S) (table : Table S) (tokens : List A) where
  -- reading by the rule from an index on, within the room, ends so
  pub data RuleRuns : Room → Rule A S → ℕ → Outcome A S → Type 0 where
    word : {room : Room} {class : ℕ} {i : ℕ} {x : A}
        → slice_get tokens i ≡ Some x → g.class_of x ≡ class → RuleRuns room (rule.word class) i (Done (leaf x) (suc i))
    no_word : {room : Room} {class : ℕ} {i : ℕ}
        → Next g tokens i (class ∷ []) false → RuleRuns room (rule.word class) i (Fail (Syntax i))
    part : {room : Room} {s : S} {i j : ℕ} {t : Tree A S}
        → RuleRuns room (g.rule_of s) i (Done t j) → RuleRuns room (rule.part s) i (Done (node s t) j)
    part_fails : {room : Room} {s : S} {i : ℕ} {fault : ParseFault}
        → RuleRuns room (g.rule_of s) i (Fail fault) → RuleRuns room (rule.part s) i (Fail fault)
    both : {room : Room} {a b : Rule A S} {i j k : ℕ} {t u : Tree A S}
        → RuleRuns room a i (Done t j) → RuleRuns room b j (Done u k) → RuleRuns room (a ▸ b) i (Done (pair t u) k)
    first_fails : {room : Room} {a b : Rule A S} {i : ℕ} {fault : ParseFault}
        → RuleRuns room a i (Fail fault) → RuleRuns room (a ▸ b) i (Fail fault)
    next_fails : {room : Room} {a b : Rule A S} {i j : ℕ} {t : Tree A S} {fault : ParseFault}
        → RuleRuns room a i (Done t j) → RuleRuns room b j (Fail fault) → RuleRuns room (a ▸ b) i (Fail fault)
    left : {room : Room} {a b : Rule A S} {i : ℕ} {o : Outcome A S}
        → Next g tokens i (first table a) true → RuleRuns room a i o → RuleRuns room (a ∣ b) i o
    right : {room : Room} {a b : Rule A S} {i : ℕ} {o : Outcome A S}
        → Next g tokens i (first table a) false → RuleRuns room b i o → RuleRuns room (a ∣ b) i o
    once : {room : Room} {a : Rule A S} {i : ℕ} {o : Outcome A S}
        → Next g tokens i (first table a) true → RuleRuns room a i o → RuleRuns room (maybe a) i o
    never : {room : Room} {a : Rule A S} {i : ℕ}
        → Next g tokens i (first table a) false → RuleRuns room (maybe a) i (Done none i)
    more : {room : Room} {a : Rule A S} {i j k : ℕ} {t u : Tree A S}
        → Next g tokens i (first table a) true → RuleRuns room a i (Done t j) → RuleRuns room (many a) j (Done u k)
        → RuleRuns room (many a) i (Done (pair t u) k)
    item_fails : {room : Room} {a : Rule A S} {i : ℕ} {fault : ParseFault}
        → Next g tokens i (first table a) true → RuleRuns room a i (Fail fault) → RuleRuns room (many a) i (Fail fault)
    rest_fails : {room : Room} {a : Rule A S} {i j : ℕ} {t : Tree A S} {fault : ParseFault}
        → Next g tokens i (first table a) true → RuleRuns room a i (Done t j) → RuleRuns room (many a) j (Fail fault)
        → RuleRuns room (many a) i (Fail fault)
    enough : {room : Room} {a : Rule A S} {i : ℕ}
        → Next g tokens i (first table a) false → RuleRuns room (many a) i (Done none i)
    deeper : {room inner : Room} {nesting : Nesting} {a : Rule A S} {i : ℕ} {o : Outcome A S}
        → IsInside nesting room inner → RuleRuns inner a i o → RuleRuns room (rule.deeper nesting a) i o
    too_deep : {room : Room} {nesting : Nesting} {a : Rule A S} {i : ℕ}
        → IsFull nesting room → Next g tokens i (first table a) true → RuleRuns room (rule.deeper nesting a) i (Fail (TooDeep i))
    not_deeper : {room : Room} {nesting : Nesting} {a : Rule A S} {i : ℕ}
        → IsFull nesting room → Next g tokens i (first table a) false → RuleRuns room (rule.deeper nesting a) i (Fail (Syntax i))
    chosen : {room : Room} {a b c : Rule A S} {test : Tree A S → Bool} {i j k : ℕ} {t u : Tree A S}
        → RuleRuns room a i (Done t j) → test t ≡ true → RuleRuns room b j (Done u k)
        → RuleRuns room (when a test b c) i (Done (pair t u) k)
    otherwise : {room : Room} {a b c : Rule A S} {test : Tree A S → Bool} {i j k : ℕ} {t u : Tree A S}
        → RuleRuns room a i (Done t j) → test t ≡ false → RuleRuns room c j (Done u k)
        → RuleRuns room (when a test b c) i (Done (pair t u) k)
    test_fails : {room : Room} {a b c : Rule A S} {test : Tree A S → Bool} {i : ℕ} {fault : ParseFault}
        → RuleRuns room a i (Fail fault) → RuleRuns room (when a test b c) i (Fail fault)
    chosen_fails : {room : Room} {a b c : Rule A S} {test : Tree A S → Bool} {i j : ℕ} {t : Tree A S} {fault : ParseFault}
        → RuleRuns room a i (Done t j) → test t ≡ true → RuleRuns room b j (Fail fault)
        → RuleRuns room (when a test b c) i (Fail fault)
    otherwise_fails : {room : Room} {a b c : Rule A S} {test : Tree A S → Bool} {i j : ℕ} {t : Tree A S} {fault : ParseFault}
        → RuleRuns room a i (Done t j) → test t ≡ false → RuleRuns room c j (Fail fault)
        → RuleRuns room (when a test b c) i (Fail fault)
    -- memory may be wanting anywhere
    no_memory : {room : Room} {r : Rule A S} {i : ℕ} → RuleRuns room r i (Fail NoMemory)
