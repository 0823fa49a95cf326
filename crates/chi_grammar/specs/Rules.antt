-- Grammars as data. A grammar's tokens are of a type A, each of a class that is a number, and its parts have names of a type S.
use Rattle.std.specs.Prelude.{ℕ, Bool, List, [], ◌∷◌, ◌++◌}
use Rattle.chi_grammar.specs.declared.room.Nesting.{Nesting}

-- what a rule builds: a token, a part with its name, one tree after another, or nothing
pub data Tree (A S : Type 0) : Type 0 where
  leaf : A → Tree A S
  node : S → Tree A S → Tree A S
  pair : Tree A S → Tree A S → Tree A S
  none : Tree A S

-- the tokens of a tree from left to right
abbrev pub spelling : {A S : Type 0} → Tree A S → List A
spelling (leaf x) = x ∷ []
spelling (node s t) = spelling t
spelling (pair t u) = spelling t ++ spelling u
spelling none = []

infixr 30 ◌▸◌
infixr 20 ◌∣◌
-- how a part is built
pub data Rule (A S : Type 0) : Type 0 where
  -- one token of a class
  word : ℕ → Rule A S
  -- a part, by its own rule
  part : S → Rule A S
  -- one after the other; either of the two
  ◌▸◌ ◌∣◌ : Rule A S → Rule A S → Rule A S
  -- once or not at all; any number of times
  maybe many : Rule A S → Rule A S
  -- one level deeper of a nesting
  deeper : Nesting → Rule A S → Rule A S
  -- the first, and then the second where its tree passes the test, else the third
  when : Rule A S → (Tree A S → Bool) → Rule A S → Rule A S → Rule A S

-- the rule of each part, and the class of each token
pub record Grammar (A S : Type 0) : Type 0 where
  pub rule_of : S → Rule A S
  pub class_of : A → ℕ
