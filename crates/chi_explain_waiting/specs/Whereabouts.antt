-- Where an instance stands: the line of the source, and what is told of it.
use Rattle.std.specs.Prelude.{ℕ, ◌+◌, ◌-◌, nat_lt, if◌then◌else◌, List, [], ◌++◌, length, take, drop, codes, Option, Some, None, option_map, unwrap_or, slice_get, slice_set, slice_index, replicate}
use Rattle.std.specs.Char.{is_ascii_whitespace}
use Rattle.std.specs.Fmt.{decimal}
use Rattle.std.specs.List.{prefix_len, suffix_len}
use Rattle.chi_core.specs.declared.label.Label.{Label}
use Rattle.chi_core.specs.declared.label.Label.TheVariants.{Local, Pair, Wake, Join, Advance}
use Rattle.chi_core.specs.Config.{Config, Instance, State, Running, Waiting, Joining, Finished}
use Rattle.chi_core.specs.Step.{line_of}
use Rattle.chi_core_frame.specs.Terms.{first_of}
use Rattle.chi_explain.specs.Excerpts.{front_shown, numbered_line}

-- An instance that waits or joins has done the statement by which it does, and a configuration doesn't know its line. So there are
-- lines beside it: for each instance that of the item that it did last, where that is known; else 0, or none at its end.

-- the line of the item that an instance does next
abbrev pub next_line : Instance → Option ℕ
next_line i = option_map line_of (first_of i.term)

-- where it runs it stands at what it does next, else at what it did last
abbrev pub line_in : State → Option ℕ → ℕ → ℕ
line_in Running next last = unwrap_or next last
line_in (Waiting offers) next last = last
line_in (Joining numbers) next last = last
line_in Finished next last = last

abbrev pub line_at : List ℕ → ℕ → Instance → ℕ
line_at lines p i = line_in i.state (next_line i) (slice_index lines p)

-- a text without the blanks around it
abbrev pub without_last : List ℕ → List ℕ
without_last text = take (length text - suffix_len is_ascii_whitespace text) text

abbrev pub trimmed : List ℕ → List ℕ
trimmed text = without_last (drop (prefix_len is_ascii_whitespace text) text)

-- a line of the source without the blanks around it, as it is shown
abbrev pub line_told : List ℕ → ℕ → List ℕ
line_told source line = front_shown (trimmed (numbered_line source line))

-- what is told of a line, where it is known
abbrev pub at_line : List ℕ → ℕ → List ℕ
at_line source line = if nat_lt 0 line then codes " at line " ++ decimal line ++ codes ": `" ++ line_told source line ++ codes "`" else []

-- the lines once a label is taken: by Local p instance p does its first item

abbrev pub with_line : List ℕ → ℕ → Option ℕ → List ℕ
with_line lines p None = lines
with_line lines p (Some line) = slice_set (lines ++ replicate (p + 1 - length lines) 0) p line

abbrev pub line_done : List ℕ → ℕ → Option Instance → List ℕ
line_done lines p None = lines
line_done lines p (Some i) = with_line lines p (next_line i)

abbrev pub lines_after : Config → Label → List ℕ → List ℕ
lines_after config (Local p) lines = line_done lines p (slice_get config.instances p)
lines_after config (Pair p a q b) lines = lines
lines_after config (Wake p a) lines = lines
lines_after config (Join p) lines = lines
lines_after config Advance lines = lines
