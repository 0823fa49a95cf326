-- The line of a source on which a place stands, as it is shown, with a caret under the place.
use Rattle.std.specs.Prelude.{ℕ, ◌+◌, ◌-◌, ◌==◌, ◌&&◌, ◌||◌, min, nat_lt, nat_le, Bool, true, false, List, [], ◌∷◌, ◌++◌, length, map, codes, drop, slice_range, slice_index_or, if◌then◌else◌}
use Rattle.std.specs.Char.{is_ascii_whitespace}
use Rattle.std.specs.List.{prefix_len, slice_split}
use Rattle.chi_token.specs.declared.place.Place.{Place}
use Rattle.chi_token.specs.Characters.{tab}
use Rattle.chi_lex.specs.Gaps.{space}
use Rattle.chi_lex.specs.Places.{is_line_feed}
use Rattle.chi_explain.specs.declared.excerpts.TheConstants.{MOST_SHOWN, MOST_BEFORE}

-- the line of a number, which is 1 or more, without its line feed: nothing where the source has no such line
abbrev pub numbered_line : List ℕ → ℕ → List ℕ
numbered_line source number = slice_index_or (slice_split is_line_feed source) (number - 1) []

-- the line of a place
abbrev pub line_at : List ℕ → Place → List ℕ
line_at source place = numbered_line source place.line

-- the bytes from a place on, to the end of its line
abbrev pub from_place : List ℕ → Place → List ℕ
from_place source place = drop (place.column - 1) (line_at source place)

-- a byte that is shown as it is
abbrev pub is_shown : ℕ → Bool
is_shown c = c == tab || (nat_le 32 c && nat_le c 126)

abbrev pub shown : ℕ → ℕ
shown c = if is_shown c then c else 63

-- what stands below a byte before the caret: a tab below a tab, so that both lines are as wide
abbrev pub below : ℕ → ℕ
below c = if c == tab then tab else space

-- The first byte of a line that is shown. Of a line that is too long it is so many before the place, unless the line begins
-- or ends sooner.
abbrev pub first_shown : ℕ → ℕ → ℕ
first_shown size at = min (at - MOST_BEFORE) (size - MOST_SHOWN)

-- what stands where a line is cut, and below it
abbrev pub cut : Bool → List ℕ
cut true = codes ".."
cut false = []

abbrev pub below_cut : Bool → List ℕ
below_cut true = codes "  "
below_cut false = []

abbrev pub margin : List ℕ
margin = codes "    "

abbrev pub ended : List ℕ → List ℕ
ended text = text ++ 10 ∷ []

-- the bytes of a line from one index to before another, with dots where it is cut before and after them
abbrev pub shown_line : List ℕ → ℕ → ℕ → List ℕ
shown_line line first stop =
    cut (nat_lt 0 first) ++ map shown (slice_range line first stop) ++ cut (nat_lt stop (length line))

-- a caret below the byte of an index, where the bytes from another on are shown
abbrev pub caret_line : List ℕ → ℕ → ℕ → List ℕ
caret_line line first at = below_cut (nat_lt 0 first) ++ map below (slice_range line first at) ++ codes "^"

-- both lines, for the byte of an index
abbrev pub excerpt_of : List ℕ → ℕ → ℕ → List ℕ
excerpt_of line at first = ended (margin ++ shown_line line first (first + MOST_SHOWN)) ++ ended (margin ++ caret_line line first at)

-- both lines, for a place of a source
abbrev pub excerpt : List ℕ → Place → List ℕ
excerpt source place =
    excerpt_of (line_at source place) (place.column - 1) (first_shown (length (line_at source place)) (place.column - 1))

-- how many blanks a line begins with
abbrev pub indentation : List ℕ → ℕ
indentation line = prefix_len is_ascii_whitespace line

-- a line alone, from the byte of an index on
abbrev pub alone_from : List ℕ → ℕ → List ℕ
alone_from line first = ended (margin ++ shown_line line first (first + MOST_SHOWN))

-- the line of a number alone, as it is shown for its first byte that is no blank
abbrev pub line_alone : List ℕ → ℕ → List ℕ
line_alone source number =
    alone_from (numbered_line source number)
    (first_shown (length (numbered_line source number)) (indentation (numbered_line source number)))

-- a line from its first byte on, within other words
abbrev pub front_shown : List ℕ → List ℕ
front_shown line = shown_line line 0 MOST_SHOWN
