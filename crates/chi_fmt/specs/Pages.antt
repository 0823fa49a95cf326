-- Where comments stand among lines, and the text of both.
use Rattle.std.specs.Prelude.{ℕ, ◌+◌, ◌&&◌, nat_lt, Bool, true, false, List, [], ◌∷◌, ◌++◌, length, drop}
use Rattle.std.specs.List.{flat_map, take_while, prefix_len}
use Rattle.chi_fmt.specs.declared.comment.Comment.{Comment}
use Rattle.chi_fmt.specs.declared.line.Line.{Line}
use Rattle.chi_fmt.specs.Rows.{comment_text, empty_line, line_text}

abbrev pub one_if : Bool → ℕ
one_if false = 0
one_if true = 1

-- how many tokens of the source a line has: a `;` at its end counts where one is written
abbrev pub source_tokens : Line → ℕ
source_tokens line = length line.spots + one_if line.semicolon.written

-- the same up to the last one that is kept
abbrev pub kept_tokens : Line → ℕ
kept_tokens line = length line.spots + one_if (line.semicolon.written && line.semicolon.kept)

-- A comment stands before the line of the first kept source token after it. Before a line that has so many source tokens before
-- it, and no comment of an earlier line, these are the comments that aren't after its last kept source token.
abbrev pub stands_before : ℕ → Line → Comment → Bool
stands_before passed line comment = nat_lt comment.before (passed + kept_tokens line)

-- the comments before a line, with the line's margin, and an empty line before them where one stands before the line
abbrev pub line_with : Line → List Comment → List ℕ
line_with line comments = empty_line line.after_empty ++ flat_map (comment_text line.margin) comments ++ line_text line

-- lines that have so many source tokens before them, and the comments that stand before none of the earlier lines; those that
-- stand before no line are at the end
abbrev pub lines_text : ℕ → List Line → List Comment → List ℕ
lines_text passed [] comments = flat_map (comment_text 0) comments
lines_text passed (line ∷ lines) comments =
    line_with line (take_while (stands_before passed line) comments)
    ++ lines_text (passed + source_tokens line) lines (drop (prefix_len (stands_before passed line) comments) comments)
