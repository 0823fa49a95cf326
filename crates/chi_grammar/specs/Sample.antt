-- A small grammar, to hold the definitions against: lines of sums of digits and of sums in brackets.
use Rattle.std.specs.Prelude.{ℕ, ◌==◌, ◌||◌, Bool, false, List, [], ◌∷◌}
use Rattle.chi_grammar.specs.declared.room.Nesting.TheVariants.{Expression}
use Rattle.chi_grammar.specs.Rules.{Tree, leaf, node, pair, none, Rule, word, part, ◌▸◌, ◌∣◌, maybe, many, deeper, when, Grammar}
use Rattle.chi_grammar.specs.Lookahead.{Table}

pub data Part : Type 0 where
  Line Sum Term Round : Part

-- a token is a class by itself: 0 is a digit, and these are the signs
abbrev pub digit : ℕ
digit = 0

abbrev pub plus : ℕ
plus = 1

abbrev pub open_round : ℕ
open_round = 2

abbrev pub close_round : ℕ
close_round = 3

abbrev pub stop : ℕ
stop = 4

-- whether a bracket stands in a tree
abbrev pub has_round : Tree ℕ Part → Bool
has_round (leaf x) = x == open_round
has_round (node s t) = has_round t
has_round (pair t u) = has_round t || has_round u
has_round none = false

-- Line = [ "+" ] Sum ";", where the stop may be left out after a sum with a bracket,
-- Sum = Term { "+" Term }, Term = digit | Round, Round = "(" Sum ")", one level deeper from its bracket on
abbrev pub sample_rule : Part → Rule ℕ Part
sample_rule Line = maybe (word plus) ▸ when (part Sum) has_round (maybe (word stop)) (word stop)
sample_rule Sum = part Term ▸ many (word plus ▸ part Term)
sample_rule Term = word digit ∣ deeper Expression (part Round)
sample_rule Round = word open_round ▸ part Sum ▸ word close_round

abbrev pub sample : Grammar ℕ Part
sample = record { rule_of = sample_rule; class_of = λ x. x }

abbrev pub sample_begins : Part → List ℕ
sample_begins Line = plus ∷ digit ∷ open_round ∷ []
sample_begins Sum = digit ∷ open_round ∷ []
sample_begins Term = digit ∷ open_round ∷ []
sample_begins Round = open_round ∷ []

abbrev pub sample_goes_on : Part → List ℕ
sample_goes_on Line = plus ∷ stop ∷ []
sample_goes_on Sum = plus ∷ []
sample_goes_on Term = []
sample_goes_on Round = []

abbrev pub sample_rank : Part → ℕ
sample_rank Line = 3
sample_rank Sum = 2
sample_rank Term = 1
sample_rank Round = 0

abbrev pub sample_table : Table Part
sample_table = record { begins = sample_begins; goes_on = sample_goes_on; rank = sample_rank }
