-- Classes of tokens, by which the grammar knows them, and their numbers.
use Rattle.std.specs.Prelude.{ℕ, ◌+◌}
use denote.Enum.Declared.{tag_of}
use Rattle.chi_token.specs.contracts.keyword.Keyword as keyword_type
use Rattle.chi_token.specs.contracts.sign.Sign as sign_type
use Rattle.chi_token.specs.declared.token.Token.{Token}
use Rattle.chi_token.specs.declared.token.Token.TheVariants as token
use Rattle.chi_tree.specs.declared.class.Class.{Class}
use Rattle.chi_tree.specs.declared.class.Class.TheVariants.{Word, Sign, Name, Int, Real, Text}

abbrev pub class_of : Token → Class
class_of (token.Word keyword) = Word keyword
class_of (token.Name bytes) = Name
class_of (token.Int bytes) = Int
class_of (token.Real bytes) = Real
class_of (token.Text bytes) = Text
class_of (token.Sign sign) = Sign sign

-- each class has a number of its own
abbrev pub number_of : Class → ℕ
number_of Name = 0
number_of Int = 1
number_of Real = 2
number_of Text = 3
number_of (Sign sign) = 4 + tag_of sign_type.the_type sign
number_of (Word keyword) = 64 + tag_of keyword_type.the_type keyword
