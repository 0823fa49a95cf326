-- The text of one line, and of a comment on a line of its own.
use Rattle.std.specs.Prelude.{ℕ, Bool, true, false, List, [], ◌∷◌, ◌++◌, replicate, if◌then◌else◌}
use Rattle.chi_token.specs.Characters.{line_feed}
use Rattle.chi_token.specs.Spelling.{canonical_spelling}
use Rattle.chi_token.specs.declared.sign.Sign.TheVariants.{Semicolon}
use Rattle.chi_token.specs.declared.token.Token.TheVariants.{Sign}
use Rattle.chi_lex.specs.Gaps.{space}
use Rattle.chi_fmt.specs.declared.comment.Comment.{Comment}
use Rattle.chi_fmt.specs.declared.line.Line.{Line}
use Rattle.chi_fmt.specs.declared.spot.Spot.{Spot}
use Rattle.chi_fmt.specs.Spaces.{is_joined}

abbrev pub spaces : ℕ → List ℕ
spaces count = replicate count space

-- nothing, or a space, stands between two tokens of a line
abbrev pub gap : Spot → Spot → List ℕ
gap first second = if is_joined first second then [] else space ∷ []

-- the tokens of a line after its first one, each after what stands between it and the one before
abbrev pub text_after : Spot → List Spot → List ℕ
text_after first [] = []
text_after first (second ∷ more) = gap first second ++ canonical_spelling second.token ++ text_after second more

abbrev pub text_of : List Spot → List ℕ
text_of [] = []
text_of (first ∷ more) = canonical_spelling first.token ++ text_after first more

-- the `;` that ends a line, before which no space stands
abbrev pub semicolon_text : Bool → List ℕ
semicolon_text false = []
semicolon_text true = canonical_spelling (Sign Semicolon)

abbrev pub line_text : Line → List ℕ
line_text line = spaces line.margin ++ text_of line.spots ++ semicolon_text line.semicolon.kept ++ line_feed ∷ []

abbrev pub empty_line : Bool → List ℕ
empty_line false = []
empty_line true = line_feed ∷ []

abbrev pub comment_text : ℕ → Comment → List ℕ
comment_text margin comment = spaces margin ++ comment.text ++ line_feed ∷ []
