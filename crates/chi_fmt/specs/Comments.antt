-- The comments of a source: each with the index of the token after it, which for those after the last token is their number.
use Rattle.std.specs.Prelude.{ℕ, ◌+◌, ◌==◌, Bool, List, [], ◌∷◌, ◌++◌, drop, slice_range}
use Rattle.std.specs.List.{flat_map, position_or_len, slice_split}
use Rattle.chi_token.specs.declared.place.Spanned.{Spanned}
use Rattle.chi_lex.specs.Gaps.{hash}
use Rattle.chi_lex.specs.Places.{is_line_feed}
use Rattle.chi_fmt.specs.declared.comment.Comment.{Comment}

abbrev pub is_hash : ℕ → Bool
is_hash c = c == hash

abbrev pub comment : ℕ → List ℕ → Comment
comment before text = record { before = before; text = text }

-- none where there is no text
abbrev pub comment_if_any : ℕ → List ℕ → List Comment
comment_if_any before [] = []
comment_if_any before (c ∷ cs) = comment before (c ∷ cs) ∷ []

-- that of a line between two tokens goes from its first hash sign on
abbrev pub line_comment : ℕ → List ℕ → List Comment
line_comment before line = comment_if_any before (drop (position_or_len is_hash line) line)

-- those of the lines of what stands before a token
abbrev pub gap_comments : ℕ → List ℕ → List Comment
gap_comments before gap = flat_map (line_comment before) (slice_split is_line_feed gap)

-- those from an offset of the source on, where these tokens follow, the first of which has this index
abbrev pub comments_from : List ℕ → ℕ → ℕ → List Spanned → List Comment
comments_from source offset index [] = gap_comments index (drop offset source)
comments_from source offset index (t ∷ ts) =
    gap_comments index (slice_range source offset t.start) ++ comments_from source t.stop (index + 1) ts

abbrev pub comments_of : List ℕ → List Spanned → List Comment
comments_of source tokens = comments_from source 0 0 tokens
