-- The nesting of a token, the pair of its depths, and the nestings of tokens in turn.
use Rattle.std.specs.Prelude.{ℕ, suc, nat_lt, Bool, ◌||◌, if◌then◌else◌, List, [], ◌∷◌, ◌++◌, Option, Some, None, map}
use Rattle.std.specs.Option.{option_map}

-- in how many blocks a token stands, and in how many levels of expressions and types
pub record Depths : Type 0 where
  pub blocks : ℕ
  pub expressions : ℕ

-- of tokens from left to right
abbrev pub Nestings : Type 0
Nestings = List Depths

-- of a token that stands in nothing
abbrev pub outside : Depths
outside = record { blocks = 0; expressions = 0 }

abbrev pub one_block_in : Depths → Depths
one_block_in n = record { blocks = suc n.blocks; expressions = n.expressions }

abbrev pub one_level_in : Depths → Depths
one_level_in n = record { blocks = n.blocks; expressions = suc n.expressions }

-- tokens in an inner block, or in what an unwind repeats
abbrev pub in_block : Nestings → Nestings
in_block = map one_block_in

-- tokens in brackets, after a prefix operator, on the right side of a power, or in a type inside a type
abbrev pub in_level : Nestings → Nestings
in_level = map one_level_in

-- a bracket stands in what it opens, and so does the one that closes it
abbrev pub bracketed : Nestings → Nestings
bracketed inner = in_level (outside ∷ inner ++ outside ∷ [])

-- what may be left out
abbrev pub if_any : Option Nestings → Nestings
if_any None = []
if_any (Some ns) = ns

-- all of them in turn
abbrev pub all : List Nestings → Nestings
all [] = []
all (ns ∷ more) = ns ++ all more

-- each of them after one token
abbrev pub each_after : List Nestings → Nestings
each_after [] = []
each_after (ns ∷ more) = outside ∷ ns ++ each_after more

-- all of them, with one token between each two
abbrev pub separated : List Nestings → Nestings
separated [] = []
separated (ns ∷ more) = ns ++ each_after more

-- the nesting passes a limit, on blocks or on levels of expressions
abbrev pub passes : ℕ → ℕ → Depths → Bool
passes b d n = nat_lt b n.blocks || nat_lt d n.expressions

-- the first token whose nesting passes a limit, counted from 0, if one does
abbrev pub first_passing : ℕ → ℕ → Nestings → Option ℕ
first_passing b d [] = None
first_passing b d (n ∷ ns) = if passes b d n then Some 0 else option_map suc (first_passing b d ns)
