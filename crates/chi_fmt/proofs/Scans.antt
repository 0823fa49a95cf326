-- The reading of a text as blanks, lines of comments, and tokens by their canonical spelling: which tokens and comments it gives.
use Rattle.std.proofs.Common.{◌≡◌, ℕ, suc, ◌+◌, ◌-◌, ◌≤◌, true, cond, eqb, Some, None, List, [], ◌∷◌, ◌++◌, length, take, drop, map, refl, sym, ap, subst, ◌∙◌, arith, length-append, append_assoc}
use Rattle.std.specs.Prelude.{slice_range}
use Rattle.std.specs.List.{take_while}
use Rattle.std.proofs.lemmas.List.{drop-drop, drop_at}
use Rattle.std.proofs.lemmas.List.Folds.{length-prefix_len}
use Rattle.chi_token.specs.Characters.{line_feed}
use Rattle.chi_token.specs.Spelling.{canonical_spelling}
use Rattle.chi_token.specs.Tokens.{IsToken}
use Rattle.chi_token.specs.declared.place.Spanned.{Spanned}
use Rattle.chi_token.specs.declared.token.Token.{Token}
use Rattle.chi_lex.specs.Gaps.{gap_of, hash, is_blank, goes_on}
use Rattle.chi_lex.specs.Reading.{ReadsFrom, at_end, past_gap, past_token, longest_token, spanned}
use Rattle.chi_lex.proofs.Runs.{prefix_len-stop}
use Rattle.chi_fmt.specs.declared.comment.Comment.{Comment}
use Rattle.chi_fmt.specs.Comments.{comment, gap_comments, comments_from}
use Rattle.chi_fmt.specs.Reread.{IsCommentText}
use Rattle.chi_fmt.proofs.Gaps.{past_blank, past_comment}
use Rattle.chi_fmt.proofs.Standing.{gap-standing}

-- from the index of the next token on
pub data Scans : List ℕ → ℕ → List Token → List Comment → Type 0 where
  nothing : (index : ℕ) → Scans [] index [] []
  blank : (c : ℕ) (rest : List ℕ) (index : ℕ) (tokens : List Token) (comments : List Comment) → is_blank c ≡ true
      → Scans rest index tokens comments → Scans (c ∷ rest) index tokens comments
  comment_line : (text rest : List ℕ) (index : ℕ) (tokens : List Token) (comments : List Comment) → IsCommentText text
      → Scans rest index tokens comments → Scans (text ++ line_feed ∷ rest) index tokens (comment index text ∷ comments)
  one_token : (t : Token) (back : List ℕ) (index : ℕ) (tokens : List Token) (comments : List Comment) → IsToken t
      → longest_token (canonical_spelling t ++ back) ≡ Some (t, length (canonical_spelling t))
      → Scans back (index + 1) tokens comments → Scans (canonical_spelling t ++ back) index (t ∷ tokens) comments

-- the tokens don't begin before an offset
abbrev pub From : ℕ → List Spanned → Type 0
From offset [] = Unit {0}
From offset (t ∷ ts) = offset ≤ t.start

abbrev token_of : Spanned → Token
token_of t = t.token

-- what is read of a source from an offset on
pub record Scanned (source : List ℕ) (offset index : ℕ) (tokens : List Token) (comments : List Comment) : Type 0 where
  pub read : List Spanned
  pub reads : ReadsFrom source offset read None
  pub from : From offset read
  pub same : map token_of read ≡ tokens
  pub found : comments_from source offset index read ≡ comments

From-later : (low high : ℕ) (ts : List Spanned) → low ≤ high → From high ts → From low ts
From-later low high [] le from = tt
From-later low high (t ∷ ts) le from = omega arith

-- the bytes after one that is there
drop-next : (source : List ℕ) (offset c : ℕ) (rest : List ℕ) → drop offset source ≡ c ∷ rest → drop (offset + 1) source ≡ rest
drop-next source offset c rest is = sym (drop-drop 1 offset source) ∙ ap (λ xs. drop 1 xs) is

-- the stretch from a byte on to a later place
range-next : (source : List ℕ) (offset stop c : ℕ) (rest : List ℕ) → drop offset source ≡ c ∷ rest → offset + 1 ≤ stop
    → slice_range source offset stop ≡ c ∷ slice_range source (offset + 1) stop
range-next source offset stop c rest is low =
    let size : stop - offset ≡ suc (stop - (offset + 1)) = omega arith in
    ap (λ n. take n (drop offset source)) size
    ∙ ap (λ xs. take (suc (stop - (offset + 1))) xs) is
    ∙ ap (λ xs. c ∷ take (stop - (offset + 1)) xs) (sym (drop-next source offset c rest is))

-- one blank more before what was read
comments-blank : (source : List ℕ) (offset index c : ℕ) (rest : List ℕ) (ts : List Spanned) → drop offset source ≡ c ∷ rest
    → is_blank c ≡ true → From (offset + 1) ts → comments_from source offset index ts ≡ comments_from source (offset + 1) index ts
comments-blank source offset index c rest [] is is_b from =
    ap (λ xs. gap_comments index xs) is ∙ past_blank index c rest is_b
    ∙ ap (λ xs. gap_comments index xs) (sym (drop-next source offset c rest is))
comments-blank source offset index c rest (t ∷ ts) is is_b from =
    ap (λ xs. gap_comments index xs ++ comments_from source t.stop (index + 1) ts)
    (range-next source offset t.start c rest is from)
    ∙ ap (λ cs. cs ++ comments_from source t.stop (index + 1) ts)
    (past_blank index c (slice_range source (offset + 1) t.start) is_b)

gap-blank : (c : ℕ) (rest : List ℕ) → is_blank c ≡ true → gap_of (c ∷ rest) ≡ Some 1
gap-blank c rest is_b = ap (λ b. cond b (Some 1) (cond (eqb c hash) (Some (1 + length (take_while goes_on rest))) None)) is_b

scanned-blank : (source : List ℕ) (offset index c : ℕ) (rest : List ℕ) (tokens : List Token) (comments : List Comment)
    → drop offset source ≡ c ∷ rest → is_blank c ≡ true
    → Scanned source (offset + 1) index tokens comments → Scanned source offset index tokens comments
scanned-blank source offset index c rest tokens comments is is_b s = record {
  read = s.read;
  reads = past_gap offset 1 s.read None (ap gap_of is ∙ gap-blank c rest is_b) s.reads;
  from = From-later offset (offset + 1) s.read (omega arith) s.from;
  same = s.same;
  found = comments-blank source offset index c rest s.read is is_b s.from ∙ s.found;
}

-- a comment and the line feed after it

-- the stretch from an offset on, where these bytes stand there and a later one
range-over : (source xs rest : List ℕ) (offset stop : ℕ) → drop offset source ≡ xs ++ rest → offset + length xs ≤ stop
    → slice_range source offset stop ≡ xs ++ slice_range source (offset + length xs) stop
range-over source [] rest offset stop is low = let same : offset ≡ offset + 0 = omega arith in ap (λ n. slice_range source n stop) same
range-over source (x ∷ xs) rest offset stop is low =
    let same : offset + 1 + length xs ≡ offset + suc (length xs) = omega arith in
    range-next source offset stop x (xs ++ rest) is (omega arith)
    ∙ ap (λ ys. x ∷ ys) (range-over source xs rest (offset + 1) stop (drop-next source offset x (xs ++ rest) is) (omega arith))
    ∙ ap (λ n. (x ∷ xs) ++ slice_range source n stop) same

drop-over : (source xs rest : List ℕ) (offset : ℕ) → drop offset source ≡ xs ++ rest → drop (offset + length xs) source ≡ rest
drop-over source xs rest offset is =
    sym (drop-drop (length xs) offset source) ∙ ap (λ ys. drop (length xs) ys) is ∙ drop_at xs rest (length xs) refl

comments-comment : (source : List ℕ) (offset index : ℕ) (text rest : List ℕ) (ts : List Spanned)
    → drop offset source ≡ (text ++ line_feed ∷ []) ++ rest → IsCommentText text → From (offset + length (text ++ line_feed ∷ [])) ts
    → comments_from source offset index ts ≡ comment index text ∷ comments_from source (offset + length (text ++ line_feed ∷ [])) index ts
comments-comment source offset index text rest [] is about from =
    ap (λ xs. gap_comments index xs) (is ∙ append_assoc text (line_feed ∷ []) rest)
    ∙ past_comment index text rest about
    ∙ ap (λ xs. comment index text ∷ gap_comments index xs) (sym (drop-over source (text ++ line_feed ∷ []) rest offset is))
comments-comment source offset index text rest (t ∷ ts) is about from =
    let later = slice_range source (offset + length (text ++ line_feed ∷ [])) t.start in
    ap (λ xs. gap_comments index xs ++ comments_from source t.stop (index + 1) ts)
    (range-over source (text ++ line_feed ∷ []) rest offset t.start is from ∙ append_assoc text (line_feed ∷ []) later)
    ∙ ap (λ cs. cs ++ comments_from source t.stop (index + 1) ts) (past_comment index text later about)

gap-comment : (text rest : List ℕ) → IsCommentText text → gap_of (text ++ line_feed ∷ rest) ≡ Some (length text)
gap-comment text rest about =
    let plus : 1 + length about.body ≡ suc (length about.body) = omega arith in
    subst (λ xs. gap_of (xs ++ line_feed ∷ rest) ≡ Some (length xs)) about.is
    (ap (λ n. Some (1 + n)) (length-prefix_len goes_on (about.body ++ line_feed ∷ rest) ∙ prefix_len-stop goes_on about.body line_feed rest about.one_line refl)
    ∙ ap (λ n. Some n) plus)

scanned-comment : (source : List ℕ) (offset index : ℕ) (text rest : List ℕ) (tokens : List Token) (comments : List Comment)
    → drop offset source ≡ text ++ line_feed ∷ rest → IsCommentText text
    → Scanned source (offset + length (text ++ line_feed ∷ [])) index tokens comments
    → Scanned source offset index tokens (comment index text ∷ comments)
scanned-comment source offset index text rest tokens comments is about s =
    let whole : drop offset source ≡ (text ++ line_feed ∷ []) ++ rest = is ∙ sym (append_assoc text (line_feed ∷ []) rest) in
    let feed : drop (offset + length text) source ≡ line_feed ∷ rest = drop-over source text (line_feed ∷ rest) offset is in
    let size : offset + length text + 1 ≡ offset + length (text ++ line_feed ∷ []) = omega (arith, length-append text (line_feed ∷ [])) in
    record {
      read = s.read;
      reads = past_gap offset (length text) s.read None (ap gap_of is ∙ gap-comment text rest about)
          (past_gap (offset + length text) 1 s.read None (ap gap_of feed ∙ gap-blank line_feed rest refl)
          (subst (λ n. ReadsFrom source n s.read None) (sym size) s.reads));
      from = From-later offset (offset + length (text ++ line_feed ∷ [])) s.read (omega arith) s.from;
      same = s.same;
      found = comments-comment source offset index text rest s.read whole about s.from ∙ ap (λ cs. comment index text ∷ cs) s.found;
    }

-- a token

range-none : (source : List ℕ) (offset : ℕ) → slice_range source offset offset ≡ []
range-none source offset = let none : offset - offset ≡ 0 = omega arith in ap (λ n. take n (drop offset source)) none

scanned-token : (source : List ℕ) (offset index : ℕ) (t : Token) (back : List ℕ) (tokens : List Token) (comments : List Comment)
    → drop offset source ≡ canonical_spelling t ++ back → IsToken t
    → longest_token (canonical_spelling t ++ back) ≡ Some (t, length (canonical_spelling t))
    → Scanned source (offset + length (canonical_spelling t)) (index + 1) tokens comments
    → Scanned source offset index (t ∷ tokens) comments
scanned-token source offset index t back tokens comments is spelled longest s =
    let n = length (canonical_spelling t) in
    record {
      read = spanned source t offset (offset + n) ∷ s.read;
      reads = past_token offset t n s.read None (ap gap_of is ∙ gap-standing t back spelled) (ap longest_token is ∙ longest) s.reads;
      from = omega arith;
      same = ap (λ ts. t ∷ ts) s.same;
      found = ap (λ xs. gap_comments index xs ++ comments_from source (offset + n) (index + 1) s.read) (range-none source offset) ∙ s.found;
    }

pub scanned : (rest : List ℕ) (index : ℕ) (tokens : List Token) (comments : List Comment) → Scans rest index tokens comments
    → (source : List ℕ) (offset : ℕ) → drop offset source ≡ rest → Scanned source offset index tokens comments
scanned rest index tokens comments (nothing i) source offset is =
    record { read = []; reads = at_end offset is; from = tt; same = refl; found = ap (λ xs. gap_comments index xs) is }
scanned rest index tokens comments (blank c more i ts cs is_blank s) source offset is =
    scanned-blank source offset index c more tokens comments is is_blank
    (scanned more index tokens comments s source (offset + 1) (drop-next source offset c more is))
scanned rest index tokens comments (comment_line text more i ts cs about s) source offset is =
    let whole : drop offset source ≡ (text ++ line_feed ∷ []) ++ more = is ∙ sym (append_assoc text (line_feed ∷ []) more) in
    scanned-comment source offset index text more tokens cs is about
    (scanned more index tokens cs s source (offset + length (text ++ line_feed ∷ [])) (drop-over source (text ++ line_feed ∷ []) more offset whole))
scanned rest index tokens comments (one_token t back i ts cs spelled longest s) source offset is =
    scanned-token source offset index t back ts comments is spelled longest
    (scanned back (index + 1) ts comments s source (offset + length (canonical_spelling t)) (drop-over source (canonical_spelling t) back offset is))
