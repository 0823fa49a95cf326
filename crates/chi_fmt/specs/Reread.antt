-- What is read of the text of lines: their kept tokens, and each comment before the first token of the line before which it stands.
use Rattle.std.specs.Prelude.{ℕ, ◌+◌, ◌≡◌, ◌<◌, Bool, true, false, List, [], ◌∷◌, ◌++◌, length, drop, map}
use Rattle.std.specs.List.{list_all, take_while, prefix_len}
use Rattle.chi_token.specs.declared.sign.Sign.TheVariants.{Semicolon}
use Rattle.chi_token.specs.declared.token.Token.{Token}
use Rattle.chi_token.specs.declared.token.Token.TheVariants as token
use Rattle.chi_lex.specs.Gaps.{hash, goes_on}
use Rattle.chi_fmt.specs.declared.comment.Comment.{Comment}
use Rattle.chi_fmt.specs.declared.line.Line.{Line}
use Rattle.chi_fmt.specs.declared.spot.Spot.{Spot}
use Rattle.chi_fmt.specs.Comments.{comment}
use Rattle.chi_fmt.specs.Pages.{one_if, source_tokens, stands_before}

abbrev pub token_at : Spot → Token
token_at s = s.token

-- from its hash sign to before a line feed
pub record IsCommentText (text : List ℕ) : Type 0 where
  pub body : List ℕ
  pub is : hash ∷ body ≡ text
  pub one_line : list_all goes_on body ≡ true

-- each of them before the token with this index
abbrev pub before : ℕ → List Comment → List Comment
before index comments = map (λ c. comment index c.text) comments

abbrev pub AreComments : List Comment → Type 0
AreComments [] = Unit {0}
AreComments (c ∷ cs) = IsCommentText c.text × AreComments cs

abbrev pub semicolon_tokens : Bool → List Token
semicolon_tokens false = []
semicolon_tokens true = token.Sign Semicolon ∷ []

-- the tokens of a line that the source has
abbrev pub line_source : Line → List Token
line_source line = map token_at line.spots ++ semicolon_tokens line.semicolon.written

abbrev pub source_of : List Line → List Token
source_of [] = []
source_of (line ∷ lines) = line_source line ++ source_of lines

-- the tokens of a line that are kept
abbrev pub line_tokens : Line → List Token
line_tokens line = map token_at line.spots ++ semicolon_tokens line.semicolon.kept

-- how many tokens the line has in the text
abbrev pub text_tokens : Line → ℕ
text_tokens line = length line.spots + one_if line.semicolon.kept

-- the tokens that are kept
abbrev pub kept_spelling : List Line → List Token
kept_spelling [] = []
kept_spelling (line ∷ lines) = line_tokens line ++ kept_spelling lines

-- the comments as they stand in the text, where it has so many tokens before these lines: each before the first token of its line
abbrev pub moved : ℕ → ℕ → List Line → List Comment → List Comment
moved index passed [] comments = before index comments
moved index passed (line ∷ lines) comments =
    before index (take_while (stands_before passed line) comments)
    ++ moved (index + text_tokens line) (passed + source_tokens line) lines (drop (prefix_len (stands_before passed line) comments) comments)

-- a line as it is in the text: the `;` that is kept is written
abbrev pub settled : Line → Line
settled line = record {
  after_empty = line.after_empty;
  margin = line.margin;
  spots = line.spots;
  semicolon = record { written = line.semicolon.kept; kept = line.semicolon.kept };
}

-- no line is without tokens
abbrev pub HaveTokens : List Line → Type 0
HaveTokens [] = Unit {0}
HaveTokens (line ∷ lines) = (0 < length line.spots) × HaveTokens lines
