-- The test of a grammar that one token ahead decides.
use Rattle.std.specs.Prelude.{ℕ, ◌≡◌, ◌&&◌, nat_lt, not, Bool, true, List, ◌++◌, if◌then◌else◌}
use Rattle.std.specs.List.{list_all}
use Rattle.chi_grammar.specs.Rules.{Rule, word, part, ◌▸◌, ◌∣◌, maybe, many, deeper, when, Grammar}
use Rattle.chi_grammar.specs.Lookahead.{Table, holds, may_be_empty, first, going_on}

-- no class stands in both lists
abbrev pub are_apart : List ℕ → List ℕ → Bool
are_apart classes others = list_all (λ class. not (holds others class)) classes

-- each class of the first list stands in the second
abbrev pub are_among : List ℕ → List ℕ → Bool
are_among classes others = list_all (λ class. holds others class) classes

-- the next token tells which alternative to read, and whether to read what may be left out
abbrev pub is_decided : {A S : Type 0} → Table S → Rule A S → Bool
is_decided table (word class) = true
is_decided table (part s) = true
is_decided table (a ▸ b) = is_decided table a && is_decided table b && are_apart (going_on table a) (first table b)
is_decided table (a ∣ b) =
    is_decided table a && is_decided table b && not (may_be_empty a) && not (may_be_empty b)
    && are_apart (first table a) (first table b)
is_decided table (maybe a) = is_decided table a && not (may_be_empty a)
is_decided table (many a) = is_decided table a && not (may_be_empty a) && are_apart (going_on table a) (first table a)
is_decided table (deeper nesting a) = is_decided table a && not (may_be_empty a)
is_decided table (when a test b c) =
    is_decided table a && is_decided table b && is_decided table c && not (may_be_empty a)
    && are_apart (going_on table a) (first table b ++ first table c)

-- the parts with which the rule may begin are below this rank
abbrev pub is_below : {A S : Type 0} → Table S → ℕ → Rule A S → Bool
is_below table rank (word class) = true
is_below table rank (part s) = nat_lt (table.rank s) rank
is_below table rank (a ▸ b) = is_below table rank a && (if may_be_empty a then is_below table rank b else true)
is_below table rank (a ∣ b) = is_below table rank a && is_below table rank b
is_below table rank (maybe a) = is_below table rank a
is_below table rank (many a) = is_below table rank a
is_below table rank (deeper nesting a) = is_below table rank a
is_below table rank (when a test b c) = is_below table rank a

-- one token decides the part's rule, no tree of it is empty, it doesn't begin with itself, and the table is right about it
abbrev pub is_fine : {A S : Type 0} → Grammar A S → Table S → S → Bool
is_fine g table s =
    is_decided table (g.rule_of s) && not (may_be_empty (g.rule_of s)) && is_below table (table.rank s) (g.rule_of s)
    && are_among (first table (g.rule_of s)) (table.begins s) && are_among (table.begins s) (first table (g.rule_of s))
    && are_among (going_on table (g.rule_of s)) (table.goes_on s)

-- one token decides the grammar
abbrev pub Fine : {A S : Type 0} → Grammar A S → Table S → Type 0
Fine {A} {S} g table = (s : S) → is_fine g table s ≡ true
