-- The comments of a line, and of the lines after it.
use Rattle.std.proofs.Common.{◌≡◌, ℕ, suc, ◌+◌, ◌<◌, ◌≤◌, Bool, true, false, not, cond, List, [], ◌∷◌, ◌++◌, length, take, drop, refl, sym, ap, subst, ◌∙◌, append_assoc, append-nil, arith}
use Rattle.std.specs.List.{flat_map, onto_first, position_or_len, slice_split}
use Rattle.std.proofs.lemmas.List.Splits.{slice_split-cons_no, slice_split_first}
use Rattle.std.proofs.lemmas.List.{drop_all, length-drop}
use Rattle.chi_lex.specs.Places.{is_line_feed}
use Rattle.chi_fmt.specs.declared.comment.Comment.{Comment}
use Rattle.chi_fmt.specs.Comments.{is_hash, comment, comment_if_any, gap_comments, line_comment}

-- a line that a line feed ends, and what is left after it
pub gap_step : (before stop : ℕ) (rest here later : List ℕ) (found more whole : List Comment)
    → more ≡ found ++ line_comment before here → found ++ gap_comments before rest ≡ whole
    → stop ≡ position_or_len is_line_feed rest → stop < length rest → here ≡ take stop rest → later ≡ drop (stop + 1) rest
    → more ++ gap_comments before later ≡ whole
gap_step before stop rest here later found more whole added same first low front back =
    let low' : position_or_len is_line_feed rest < length rest = subst (λ n. n < length rest) first low in
    (λ i. added i ++ gap_comments before (back i))
    ∙ (λ i. (found ++ line_comment before (front i)) ++ gap_comments before (drop (stop + 1) rest))
    ∙ (λ i. (found ++ line_comment before (take (first i) rest)) ++ gap_comments before (drop (first i + 1) rest))
    ∙ append_assoc found (line_comment before (take (position_or_len is_line_feed rest) rest)) (gap_comments before (drop (position_or_len is_line_feed rest + 1) rest))
    ∙ ap (λ lines. found ++ flat_map (line_comment before) lines) (sym (slice_split_first is_line_feed rest 0 low'))
    ∙ same

-- what is left is no longer
pub left_within : (stop size : ℕ) (rest later : List ℕ) → length rest ≤ size → later ≡ drop (stop + 1) rest → length later ≤ size
left_within stop size rest later within back = omega (arith, ap length back, length-drop (stop + 1) rest)

none_cons : (p : ℕ → Bool) (x : ℕ) (xs : List ℕ) (b : Bool) → p x ≡ b → cond (not b) (1 + position_or_len p xs) 0 ≡ suc (length xs)
    → (position_or_len p xs ≡ length xs → slice_split p xs ≡ xs ∷ []) → slice_split p (x ∷ xs) ≡ (x ∷ xs) ∷ []
none_cons p x xs true e h r = absurd (omega arith)
none_cons p x xs false e h r = slice_split-cons_no p x xs e ∙ ap (onto_first x) (r (omega arith))

split_none : (p : ℕ → Bool) (xs : List ℕ) → position_or_len p xs ≡ length xs → slice_split p xs ≡ xs ∷ []
split_none p [] h = refl
split_none p (x ∷ xs) h = none_cons p x xs (p x) refl h (split_none p xs)

-- the last line
pub gap_last : (before stop : ℕ) (rest : List ℕ) (found more whole : List Comment)
    → stop ≡ position_or_len is_line_feed rest → stop ≤ length rest → length rest ≤ stop
    → found ++ gap_comments before rest ≡ whole → more ≡ found ++ line_comment before rest → more ≡ whole
gap_last before stop rest found more whole first within high same added =
    let one : slice_split is_line_feed rest ≡ rest ∷ [] = split_none is_line_feed rest (sym first ∙ omega arith) in
    added ∙ ap (λ xs. found ++ xs) (sym (append-nil (line_comment before rest)))
    ∙ ap (λ lines. found ++ flat_map (line_comment before) lines) (sym one) ∙ same

-- a line with a hash sign has a comment, and one without has none

comment_some : (before : ℕ) (text : List ℕ) → 0 < length text → comment_if_any before text ≡ comment before text ∷ []
comment_some before [] low = absurd (omega arith)
comment_some before (c ∷ cs) low = refl

pub line_some : (before from : ℕ) (line text : List ℕ) → from ≡ position_or_len is_hash line → from ≤ length line → ¬ (from ≡ length line) → text ≡ drop from line
    → line_comment before line ≡ comment before text ∷ []
line_some before from line text first within other is =
    let some : 0 < length (drop from line) = omega (arith, length-drop from line) in
    ap (λ n. comment_if_any before (drop n line)) (sym first) ∙ comment_some before (drop from line) some ∙ ap (λ xs. comment before xs ∷ []) (sym is)

pub line_none : (before from : ℕ) (line : List ℕ) → from ≡ position_or_len is_hash line → from ≡ length line → line_comment before line ≡ []
line_none before from line first all =
    ap (λ n. comment_if_any before (drop n line)) (sym first) ∙ ap (comment_if_any before) (drop_all from line (omega arith))
