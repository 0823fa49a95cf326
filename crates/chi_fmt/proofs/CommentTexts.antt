-- The comments of a source are comments: each begins with a hash sign, and none has a line feed.
use Rattle.std.proofs.Common.{◌≡◌, ℕ, ◌+◌, Bool, true, false, not, ◌&&◌, cond, List, [], ◌∷◌, ◌++◌, drop, slice_range, refl, sym, ap}
use Rattle.std.proofs.lemmas.Bool.{eqb-true}
use Rattle.std.specs.List.{flat_map, list_all, onto_first, position_or_len, slice_split}
use Rattle.chi_token.specs.declared.place.Spanned.{Spanned}
use Rattle.chi_lex.specs.Gaps.{hash, goes_on}
use Rattle.chi_lex.specs.Places.{is_line_feed}
use Rattle.chi_lex.proofs.Runs.{and_right, one_suc}
use Rattle.chi_fmt.specs.declared.comment.Comment.{Comment}
use Rattle.chi_fmt.specs.Comments.{is_hash, comment_if_any, line_comment, gap_comments, comments_from, comments_of}
use Rattle.chi_fmt.specs.Reread.{IsCommentText, AreComments}

-- no line of a gap has a line feed

abbrev GoOn : List (List ℕ) → Type 0
GoOn [] = Unit {0}
GoOn (line ∷ lines) = (list_all goes_on line ≡ true) × GoOn lines

onto-goes : (x : ℕ) (lines : List (List ℕ)) → goes_on x ≡ true → GoOn lines → GoOn (onto_first x lines)
onto-goes x [] goes all = (ap (λ b. b && true) goes, tt)
onto-goes x (line ∷ lines) goes all = ((λ i. goes i && all.0 i), all.1)

byte-goes : (x : ℕ) (b : Bool) (lines : List (List ℕ)) → is_line_feed x ≡ b → GoOn lines → GoOn (cond b ([] ∷ lines) (onto_first x lines))
byte-goes x true lines is all = (refl, all)
byte-goes x false lines is all = onto-goes x lines (ap not is) all

gap-goes : (gap : List ℕ) → GoOn (slice_split is_line_feed gap)
gap-goes [] = (refl, tt)
gap-goes (x ∷ xs) = byte-goes x (is_line_feed x) (slice_split is_line_feed xs) refl (gap-goes xs)

-- what a line has from its first hash sign on is nothing, or the text of a comment

abbrev IsTextIfAny : List ℕ → Type 0
IsTextIfAny [] = Unit {0}
IsTextIfAny (c ∷ cs) = IsCommentText (c ∷ cs)

line-text : (line : List ℕ) → list_all goes_on line ≡ true → IsTextIfAny (drop (position_or_len is_hash line) line)
line-text [] goes = tt
line-text (x ∷ xs) goes = by (is_hash x) refl (line-text xs (and_right (goes_on x) (list_all goes_on xs) goes))
  where
    by : (b : Bool) → is_hash x ≡ b → IsTextIfAny (drop (position_or_len is_hash xs) xs)
        → IsTextIfAny (drop (cond (not b) (1 + position_or_len is_hash xs) 0) (x ∷ xs))
    by true is rest = record { body = xs; is = ap (λ c. c ∷ xs) (sym (eqb-true x hash is)); one_line = and_right (goes_on x) (list_all goes_on xs) goes }
    by false is rest = rw one_suc rest

-- so all are comments

some-are : (before : ℕ) (text : List ℕ) → IsTextIfAny text → AreComments (comment_if_any before text)
some-are before [] is = tt
some-are before (c ∷ cs) is = (is, tt)

both-are : (front back : List Comment) → AreComments front → AreComments back → AreComments (front ++ back)
both-are [] back are more = more
both-are (c ∷ front) back are more = (are.0, both-are front back are.1 more)

lines-are : (before : ℕ) (lines : List (List ℕ)) → GoOn lines → AreComments (flat_map (line_comment before) lines)
lines-are before [] all = tt
lines-are before (line ∷ lines) all =
    both-are (line_comment before line) (flat_map (line_comment before) lines)
    (some-are before (drop (position_or_len is_hash line) line) (line-text line all.0)) (lines-are before lines all.1)

gap-are : (before : ℕ) (gap : List ℕ) → AreComments (gap_comments before gap)
gap-are before gap = lines-are before (slice_split is_line_feed gap) (gap-goes gap)

from-are : (source : List ℕ) (offset index : ℕ) (tokens : List Spanned) → AreComments (comments_from source offset index tokens)
from-are source offset index [] = gap-are index (drop offset source)
from-are source offset index (t ∷ ts) =
    both-are (gap_comments index (slice_range source offset t.start)) (comments_from source t.stop (index + 1) ts)
    (gap-are index (slice_range source offset t.start)) (from-are source t.stop (index + 1) ts)

pub comments-are : (source : List ℕ) (tokens : List Spanned) → AreComments (comments_of source tokens)
comments-are source tokens = from-are source 0 0 tokens
