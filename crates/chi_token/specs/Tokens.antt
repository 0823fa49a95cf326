-- Which bytes spell which token.
use Rattle.std.specs.Prelude.{ℕ, ◌≡◌, ◌==◌, ◌&&◌, nat_lt, Bool, false, Option, Some, None, List, [], ◌∷◌, length, drop, option_map, if◌then◌else◌}
use Rattle.std.specs.List.{list_all, prefix_len}
use Rattle.chi_token.specs.declared.keyword.Keyword.{Keyword}
use Rattle.chi_token.specs.declared.token.Token.{Token}
use Rattle.chi_token.specs.declared.token.Token.TheVariants.{Word, Name, Int, Real, Text, Sign}
use Rattle.chi_token.specs.Characters.{quote, is_digit, is_point, is_name_start, is_name_byte}
use Rattle.chi_token.specs.Keywords.{keyword_of}
use Rattle.chi_token.specs.Signs.{sign_of}
use Rattle.chi_token.specs.Texts.{text_of}

-- a keyword where there is one, else a name
abbrev pub word_or_name : Option Keyword → List ℕ → Token
word_or_name (Some keyword) bytes = Word keyword
word_or_name None bytes = Name bytes

-- one or more digits
abbrev pub is_digits : List ℕ → Bool
is_digits bytes = nat_lt 0 (length bytes) && list_all is_digit bytes

-- a point and digits
abbrev pub is_fraction : List ℕ → Bool
is_fraction [] = false
is_fraction (c ∷ cs) = is_point c && is_digits cs

-- digits, a point, digits
abbrev pub is_real : List ℕ → Bool
is_real bytes = nat_lt 0 (prefix_len is_digit bytes) && is_fraction (drop (prefix_len is_digit bytes) bytes)

-- the number that the bytes spell
abbrev pub number_of : List ℕ → Option Token
number_of bytes =
    if is_digits bytes then Some (Int bytes)
    else if is_real bytes then Some (Real bytes)
    else None

-- The token that the bytes spell as a whole. Its first byte tells its kind.
unfoldable pub token_spelled_by : List ℕ → Option Token
token_spelled_by [] = None
token_spelled_by (c ∷ cs) =
    if is_name_start c then (if list_all is_name_byte cs then Some (word_or_name (keyword_of (c ∷ cs)) (c ∷ cs)) else None)
    else if is_digit c then number_of (c ∷ cs)
    else if c == quote then option_map Text (text_of cs)
    else option_map Sign (sign_of (c ∷ cs))

-- some bytes spell the token
abbrev pub IsToken : Token → Type 0
IsToken token = (bytes : List ℕ) × (token_spelled_by bytes ≡ Some token)
