-- The comments of what stands between two tokens, byte by byte.
use Rattle.std.proofs.Common.{◌≡◌, ℕ, Bool, true, false, not, cond, eqb, List, [], ◌∷◌, ◌++◌, refl, sym, ap, subst, ◌∙◌}
use Rattle.std.proofs.lemmas.Bool.{eqb-true}
use Rattle.std.specs.List.{flat_map, list_all, slice_split, onto_first}
use Rattle.chi_token.specs.Characters.{line_feed}
use Rattle.chi_lex.specs.Gaps.{hash, is_blank, goes_on}
use Rattle.chi_lex.specs.Places.{is_line_feed}
use Rattle.chi_lex.proofs.Runs.{and_left, and_right, one_suc}
use Rattle.chi_fmt.specs.Reread.{IsCommentText}
use Rattle.chi_fmt.specs.Comments.{comment, is_hash, line_comment, gap_comments}

-- no comment where nothing stands
pub none_between : (index : ℕ) → gap_comments index [] ≡ []
none_between index = refl

-- a line feed ends its line
pub past_line_feed : (index : ℕ) (gap : List ℕ) → gap_comments index (line_feed ∷ gap) ≡ gap_comments index gap
past_line_feed index gap = refl

-- a byte of a line that begins no comment

line_past : (index c : ℕ) (line : List ℕ) → is_hash c ≡ false → line_comment index (c ∷ line) ≡ line_comment index line
line_past index c line other = rw other (rw one_suc refl)

onto_past : (index c : ℕ) (parts : List (List ℕ)) → is_hash c ≡ false
    → flat_map (line_comment index) (onto_first c parts) ≡ flat_map (line_comment index) parts
onto_past index c [] other = ap (λ cs. cs ++ []) (line_past index c [] other)
onto_past index c (part ∷ parts) other = ap (λ cs. cs ++ flat_map (line_comment index) parts) (line_past index c part other)

pub past_byte : (index c : ℕ) (gap : List ℕ) → is_line_feed c ≡ false → is_hash c ≡ false → gap_comments index (c ∷ gap) ≡ gap_comments index gap
past_byte index c gap same_line other =
    ap (λ b. flat_map (line_comment index) (cond b ([] ∷ slice_split is_line_feed gap) (onto_first c (slice_split is_line_feed gap)))) same_line
    ∙ onto_past index c (slice_split is_line_feed gap) other

-- a blank
pub past_blank : (index c : ℕ) (gap : List ℕ) → is_blank c ≡ true → gap_comments index (c ∷ gap) ≡ gap_comments index gap
past_blank index c gap blank = by (is_line_feed c) refl (is_hash c) refl
  where
    blank_hash : eqb c hash ≡ true → is_blank c ≡ false
    blank_hash h = let same : c ≡ hash = eqb-true c hash h in ap is_blank same

    by : (l : Bool) → is_line_feed c ≡ l → (h : Bool) → is_hash c ≡ h → gap_comments index (c ∷ gap) ≡ gap_comments index gap
    by true l' h h' = let same : c ≡ line_feed = eqb-true c line_feed l' in ap (λ x. gap_comments index (x ∷ gap)) same
    by false l' true h' = let no : true ≡ false = sym blank ∙ blank_hash h' in cc
    by false l' false h' = past_byte index c gap l' h'

-- a comment's line

not_true : (b : Bool) → not b ≡ true → b ≡ false
not_true true h = cc
not_true false h = refl

split_at_feed : (text gap : List ℕ) → list_all goes_on text ≡ true
    → slice_split is_line_feed (text ++ line_feed ∷ gap) ≡ text ∷ slice_split is_line_feed gap
split_at_feed [] gap all = refl
split_at_feed (c ∷ text) gap all =
    ap (λ b. cond b ([] ∷ slice_split is_line_feed (text ++ line_feed ∷ gap)) (onto_first c (slice_split is_line_feed (text ++ line_feed ∷ gap))))
    (not_true (is_line_feed c) (and_left (goes_on c) (list_all goes_on text) all))
    ∙ ap (λ parts. onto_first c parts) (split_at_feed text gap (and_right (goes_on c) (list_all goes_on text) all))

hashed : (index : ℕ) (body gap : List ℕ) → list_all goes_on body ≡ true
    → gap_comments index ((hash ∷ body) ++ line_feed ∷ gap) ≡ comment index (hash ∷ body) ∷ gap_comments index gap
hashed index body gap all = ap (λ parts. flat_map (line_comment index) parts) (split_at_feed (hash ∷ body) gap all)

pub past_comment : (index : ℕ) (text gap : List ℕ) → IsCommentText text
    → gap_comments index (text ++ line_feed ∷ gap) ≡ comment index text ∷ gap_comments index gap
past_comment index text gap is =
    subst (λ xs. gap_comments index (xs ++ line_feed ∷ gap) ≡ comment index xs ∷ gap_comments index gap) is.is
    (hashed index is.body gap is.one_line)
