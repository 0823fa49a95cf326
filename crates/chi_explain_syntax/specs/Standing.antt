-- What stands at a token of a source, and where.
use Rattle.std.specs.Prelude.{ℕ, ◌-◌, ◌==◌, nat_lt, Bool, true, false, List, ◌++◌, length, slice_get, codes, Option, Some, None, if◌then◌else◌}
use Rattle.chi_token.specs.declared.place.Place.{Place}
use Rattle.chi_token.specs.declared.place.Spanned.{Spanned}
use Rattle.chi_token.specs.declared.token.Token.{Token}
use Rattle.chi_token.specs.declared.token.Token.TheVariants.{Word, Name, Int, Real, Text, Sign}
use Rattle.chi_token.specs.Spelling.{canonical_spelling}
use Rattle.chi_lex.specs.Places.{place_of}

-- the place of a token, or that of the end of the source where there is none
abbrev pub place_at : List ℕ → Option Spanned → Place
place_at source (Some x) = x.place
place_at source None = place_of source (length source)

abbrev pub kind_words : Token → List ℕ
kind_words (Word _) = codes "the word "
kind_words (Name _) = codes "the name "
kind_words (Int _) = codes "the number "
kind_words (Real _) = codes "the number "
kind_words (Text _) = codes "the text "
kind_words (Sign _) = codes "the sign "

-- a token as it is spelled
abbrev pub token_words : Token → List ℕ
token_words token = kind_words token ++ codes "`" ++ canonical_spelling token ++ codes "`"

-- what stands there, or the end of the file
abbrev pub standing_words : Option Spanned → List ℕ
standing_words (Some x) = token_words x.token
standing_words None = codes "the end of the file"

abbrev pub is_keyword : Token → Bool
is_keyword (Word _) = true
is_keyword _ = false

-- whether a word of the language stands there
abbrev pub is_word : Option Spanned → Bool
is_word (Some x) = is_keyword x.token
is_word None = false

-- the token before token k
abbrev pub token_before : List Spanned → ℕ → Option Spanned
token_before tokens k = if k == 0 then None else slice_get tokens (k - 1)

-- The line of a token that stands on an earlier line than a place. Where it is the one before the place, the place begins its
-- line.
abbrev pub earlier_line : Option Spanned → Place → Option ℕ
earlier_line (Some x) place = if nat_lt x.place.line place.line then Some x.place.line else None
earlier_line None place = None
