-- The text of lines and comments is read as the tokens of the lines and the comments, each before the first token of its line.
use Rattle.std.proofs.Common.{◌≡◌, ℕ, zero, suc, ◌+◌, Bool, true, false, List, [], ◌∷◌, ◌++◌, length, take, drop, map, refl, sym, subst, ◌∙◌, arith, append_assoc, append-nil}
use Rattle.std.specs.List.{flat_map, prefix_len}
use Rattle.chi_token.specs.declared.sign.Sign.TheVariants.{Semicolon}
use Rattle.chi_token.specs.declared.token.Token.{Token}
use Rattle.chi_token.specs.declared.token.Token.TheVariants as token
use Rattle.chi_token.specs.Characters.{line_feed}
use Rattle.chi_token.specs.Signs.{sign_of}
use Rattle.chi_token.specs.Tables.{value_at}
use Rattle.chi_token.specs.Tokens.{IsToken, token_spelled_by}
use Rattle.chi_lex.specs.Gaps.{space}
use Rattle.chi_fmt.specs.declared.comment.Comment.{Comment}
use Rattle.chi_fmt.specs.declared.line.Line.{Line}
use Rattle.chi_fmt.specs.Comments.{comment}
use Rattle.chi_fmt.specs.Reread.{token_at, AreComments, before, semicolon_tokens, line_tokens, text_tokens, kept_spelling, moved}
use Rattle.chi_fmt.specs.Sound.{AreTokens, is_row, AreRows}
use Rattle.chi_fmt.specs.Rows.{spaces, text_of, semicolon_text, line_text, empty_line, comment_text}
use Rattle.chi_fmt.specs.Pages.{one_if, source_tokens, stands_before, line_with, lines_text}
use Rattle.chi_fmt.proofs.Standing.{Breaks, standing}
use Rattle.chi_fmt.proofs.Scans.{Scans, nothing, blank, comment_line, one_token}
use Rattle.chi_fmt.proofs.Joins.{close-breaks, feed-breaks}
use Rattle.chi_fmt.proofs.RowScans.{text-scans}

-- blanks

pub spaces-scan : (count : ℕ) (back : List ℕ) (index : ℕ) (tokens : List Token) (comments : List Comment)
    → Scans back index tokens comments → Scans (spaces count ++ back) index tokens comments
spaces-scan zero back index tokens comments later = later
spaces-scan (suc count) back index tokens comments later =
    blank space (spaces count ++ back) index tokens comments refl (spaces-scan count back index tokens comments later)

empty-scan : (b : Bool) (back : List ℕ) (index : ℕ) (tokens : List Token) (comments : List Comment)
    → Scans back index tokens comments → Scans (empty_line b ++ back) index tokens comments
empty-scan false back index tokens comments later = later
empty-scan true back index tokens comments later = blank line_feed back index tokens comments refl later

-- comments

pub comments-scan : (margin : ℕ) (here : List Comment) (back : List ℕ) (index : ℕ) (tokens : List Token) (comments : List Comment)
    → AreComments here → Scans back index tokens comments
    → Scans (flat_map (comment_text margin) here ++ back) index tokens (before index here ++ comments)
comments-scan margin [] back index tokens comments are later = later
comments-scan margin (c ∷ cs) back index tokens comments are later =
    let rest = flat_map (comment_text margin) cs ++ back in
    let whole : (comment_text margin c ++ flat_map (comment_text margin) cs) ++ back ≡ spaces margin ++ (c.text ++ line_feed ∷ rest) =
    append_assoc (comment_text margin c) (flat_map (comment_text margin) cs) back
    ∙ append_assoc (spaces margin ++ c.text) (line_feed ∷ []) rest
    ∙ append_assoc (spaces margin) c.text (line_feed ∷ rest) in
    subst (λ xs. Scans xs index tokens (comment index c.text ∷ before index cs ++ comments)) (sym whole)
    (spaces-scan margin (c.text ++ line_feed ∷ rest) index tokens (comment index c.text ∷ before index cs ++ comments)
    (comment_line c.text rest index tokens (before index cs ++ comments) are.0
    (comments-scan margin cs back index tokens comments are.1 later)))

-- a line

pub semicolon-token : IsToken (token.Sign Semicolon)
unfolding token_spelled_by sign_of value_at
semicolon-token = (59 ∷ [], refl)

semicolon-breaks : (kept : Bool) (back : List ℕ) → Breaks (semicolon_text kept ++ line_feed ∷ back)
semicolon-breaks false back = feed-breaks back
semicolon-breaks true back = close-breaks Semicolon (line_feed ∷ back) refl (λ h. refl)

semicolon-scan : (kept : Bool) (back : List ℕ) (index : ℕ) (tokens : List Token) (comments : List Comment)
    → Scans back (index + one_if kept) tokens comments
    → Scans (semicolon_text kept ++ line_feed ∷ back) index (semicolon_tokens kept ++ tokens) comments
semicolon-scan false back index tokens comments later =
    let same : index + 0 ≡ index = omega arith in
    blank line_feed back index tokens comments refl (subst (λ n. Scans back n tokens comments) same later)
semicolon-scan true back index tokens comments later =
    one_token (token.Sign Semicolon) (line_feed ∷ back) index tokens comments semicolon-token
    (standing (token.Sign Semicolon) (line_feed ∷ back) semicolon-token (feed-breaks back))
    (blank line_feed back (index + 1) tokens comments refl later)

pub line-scan : (line : Line) (back : List ℕ) (index : ℕ) (tokens : List Token) (comments : List Comment)
    → AreTokens line.spots → is_row line.spots ≡ true → Scans back (index + text_tokens line) tokens comments
    → Scans (line_text line ++ back) index (line_tokens line ++ tokens) comments
line-scan line back index tokens comments are row later =
    let kept = line.semicolon.kept in
    let rest = semicolon_text kept ++ line_feed ∷ back in
    let whole : line_text line ++ back ≡ spaces line.margin ++ (text_of line.spots ++ rest) =
    append_assoc (spaces line.margin ++ text_of line.spots ++ semicolon_text kept) (line_feed ∷ []) back
    ∙ append_assoc (spaces line.margin ++ text_of line.spots) (semicolon_text kept) (line_feed ∷ back)
    ∙ append_assoc (spaces line.margin) (text_of line.spots) rest in
    let size : index + (length line.spots + one_if kept) ≡ index + length line.spots + one_if kept = omega arith in
    subst (λ xs. Scans xs index (line_tokens line ++ tokens) comments) (sym whole)
    (spaces-scan line.margin (text_of line.spots ++ rest) index (line_tokens line ++ tokens) comments
    (subst (λ ts. Scans (text_of line.spots ++ rest) index ts comments) (sym (append_assoc (map token_at line.spots) (semicolon_tokens kept) tokens))
    (text-scans line.spots rest index (semicolon_tokens kept ++ tokens) comments are row (semicolon-breaks kept back)
    (semicolon-scan kept back (index + length line.spots) tokens comments (subst (λ n. Scans back n tokens comments) size later)))))

-- lines

some-are : (n : ℕ) (cs : List Comment) → AreComments cs → AreComments (take n cs) × AreComments (drop n cs)
some-are zero cs are = (tt, are)
some-are (suc n) [] are = (tt, tt)
some-are (suc n) (c ∷ cs) are = let more = some-are n cs are.1 in ((are.0, more.0), more.1)

pub lines-scan : (lines : List Line) (comments : List Comment) (index passed : ℕ) → AreRows lines → AreComments comments
    → Scans (lines_text passed lines comments) index (kept_spelling lines) (moved index passed lines comments)
lines-scan [] comments index passed rows are =
    subst (λ xs. Scans xs index [] (before index comments)) (append-nil (flat_map (comment_text 0) comments))
    (subst (λ cs. Scans (flat_map (comment_text 0) comments ++ []) index [] cs) (append-nil (before index comments))
    (comments-scan 0 comments [] index [] [] are (nothing index)))
lines-scan (line ∷ lines) comments index passed rows are =
    let n = prefix_len (stands_before passed line) comments in
    let here = take n comments in
    let later = drop n comments in
    let parts = some-are n comments are in
    let rest = lines_text (passed + source_tokens line) lines later in
    let tokens = kept_spelling lines in
    let more = moved (index + text_tokens line) (passed + source_tokens line) lines later in
    let whole : line_with line here ++ rest ≡ empty_line line.after_empty ++ (flat_map (comment_text line.margin) here ++ (line_text line ++ rest)) =
    append_assoc (empty_line line.after_empty ++ flat_map (comment_text line.margin) here) (line_text line) rest
    ∙ append_assoc (empty_line line.after_empty) (flat_map (comment_text line.margin) here) (line_text line ++ rest) in
    subst (λ xs. Scans xs index (line_tokens line ++ tokens) (before index here ++ more)) (sym whole)
    (empty-scan line.after_empty (flat_map (comment_text line.margin) here ++ (line_text line ++ rest)) index (line_tokens line ++ tokens) (before index here ++ more)
    (comments-scan line.margin here (line_text line ++ rest) index (line_tokens line ++ tokens) more parts.0
    (line-scan line rest index tokens more rows.0 rows.1
    (lines-scan lines later (index + text_tokens line) (passed + source_tokens line) rows.2 parts.1))))
