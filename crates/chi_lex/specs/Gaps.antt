-- What stands between tokens: blanks and comments.
use Rattle.std.specs.Prelude.{ℕ, ◌+◌, ◌==◌, ◌||◌, Bool, not, Option, Some, None, List, [], ◌∷◌, length, if◌then◌else◌}
use Rattle.std.specs.List.{take_while}
use Rattle.chi_token.specs.Characters.{tab, line_feed}
use Rattle.chi_lex.specs.Places.{is_line_feed}

-- bytes by their names
abbrev pub space : ℕ
space = 32

abbrev pub carriage_return : ℕ
carriage_return = 13

abbrev pub hash : ℕ
hash = 35

-- a space, tab, carriage return or line feed
abbrev pub is_blank : ℕ → Bool
is_blank c = ((c == space || c == tab) || c == carriage_return) || c == line_feed

-- a comment goes on with every byte but a line feed
abbrev pub goes_on : ℕ → Bool
goes_on c = not (is_line_feed c)

-- the length of the gap that the bytes begin with: a blank, or a comment, which goes on to before the next line feed or the end
abbrev pub gap_of : List ℕ → Option ℕ
gap_of [] = None
gap_of (c ∷ cs) =
    if is_blank c then Some 1
    else if c == hash then Some (1 + length (take_while goes_on cs))
    else None
