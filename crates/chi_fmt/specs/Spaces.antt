-- Between which two tokens of a line no space stands.
use Rattle.std.specs.Prelude.{Bool, true, false, not, ◌||◌, ◌&&◌}
use Rattle.chi_token.specs.declared.keyword.Keyword.{Keyword}
use Rattle.chi_token.specs.declared.keyword.Keyword.TheVariants.{BoolWord, DictWord, FalseWord, IntWord, ListWord, RealWord, StringWord, TimeWord, TimerWord, TrueWord, TupleWord, WriteWord, WritelnWord}
use Rattle.chi_token.specs.declared.sign.Sign.{Sign}
use Rattle.chi_token.specs.declared.sign.Sign.TheVariants.{LeftParen, RightParen, LeftBracket, RightBracket, LeftBrace, RightBrace, Bang, Question, Comma, Semicolon, Colon, Dot}
use Rattle.chi_token.specs.declared.token.Token.{Token}
use Rattle.chi_token.specs.declared.token.Token.TheVariants as token
use Rattle.chi_fmt.specs.declared.spot.Role.{Role}
use Rattle.chi_fmt.specs.declared.spot.Role.TheVariants.{Usual, Prefix, Communicates, Opens, Closes}
use Rattle.chi_fmt.specs.declared.spot.Spot.{Spot}

-- none before , ; : . ) ] } ! ?
abbrev pub ends_close : Sign → Bool
ends_close Comma = true
ends_close Semicolon = true
ends_close Colon = true
ends_close Dot = true
ends_close RightParen = true
ends_close RightBracket = true
ends_close RightBrace = true
ends_close Bang = true
ends_close Question = true
ends_close _ = false

-- none after ( [ { .
abbrev pub begins_close : Sign → Bool
begins_close LeftParen = true
begins_close LeftBracket = true
begins_close LeftBrace = true
begins_close Dot = true
begins_close _ = false

-- none after a prefix sign, the `<` and the `>` of an empty container's type, and the `!` or `?` of a communication, unless
-- after these a keyword follows
abbrev pub is_word : Token → Bool
is_word (token.Word _) = true
is_word _ = false

abbrev pub holds_next : Role → Token → Bool
holds_next Usual next = false
holds_next Prefix next = true
holds_next Communicates next = not (is_word next)
holds_next Opens next = true
holds_next Closes next = true

-- none before the `>` of an empty container's type
abbrev pub holds_last : Role → Bool
holds_last Closes = true
holds_last _ = false

-- none before ( and [ where one of these stands before: a name, a number, a text, a closing bracket, or one of the words

abbrev pub is_bracket : Token → Bool
is_bracket (token.Sign LeftParen) = true
is_bracket (token.Sign LeftBracket) = true
is_bracket _ = false

abbrev pub word_takes_bracket : Keyword → Bool
word_takes_bracket TrueWord = true
word_takes_bracket FalseWord = true
word_takes_bracket TimeWord = true
word_takes_bracket IntWord = true
word_takes_bracket RealWord = true
word_takes_bracket StringWord = true
word_takes_bracket BoolWord = true
word_takes_bracket TimerWord = true
word_takes_bracket WriteWord = true
word_takes_bracket WritelnWord = true
word_takes_bracket ListWord = true
word_takes_bracket DictWord = true
word_takes_bracket TupleWord = true
word_takes_bracket _ = false

abbrev pub sign_takes_bracket : Sign → Bool
sign_takes_bracket RightParen = true
sign_takes_bracket RightBracket = true
sign_takes_bracket RightBrace = true
sign_takes_bracket _ = false

abbrev pub takes_bracket : Token → Bool
takes_bracket (token.Word keyword) = word_takes_bracket keyword
takes_bracket (token.Name bytes) = true
takes_bracket (token.Int bytes) = true
takes_bracket (token.Real bytes) = true
takes_bracket (token.Text bytes) = true
takes_bracket (token.Sign sign) = sign_takes_bracket sign

abbrev pub closes : Token → Bool
closes (token.Sign sign) = ends_close sign
closes _ = false

abbrev pub opens : Token → Bool
opens (token.Sign sign) = begins_close sign
opens _ = false

-- no space stands between the two
abbrev pub is_joined : Spot → Spot → Bool
is_joined first second =
    closes second.token || opens first.token
    || holds_next first.role second.token || holds_last second.role
    || (is_bracket second.token && takes_bracket first.token)
