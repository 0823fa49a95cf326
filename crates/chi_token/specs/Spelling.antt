-- The canonical spelling of a token.
use Rattle.std.specs.Prelude.{ℕ, List}
use Rattle.chi_token.specs.declared.token.Token.{Token}
use Rattle.chi_token.specs.declared.token.Token.TheVariants.{Word, Name, Int, Real, Text, Sign}
use Rattle.chi_token.specs.Keywords.{word_of}
use Rattle.chi_token.specs.Signs.{mark_of}
use Rattle.chi_token.specs.Texts.{quoted}

-- the bytes that spell a token: the word, name, digits or mark as it is, a text in quotes with its escapes
abbrev pub canonical_spelling : Token → List ℕ
canonical_spelling (Word keyword) = word_of keyword
canonical_spelling (Name bytes) = bytes
canonical_spelling (Int bytes) = bytes
canonical_spelling (Real bytes) = bytes
canonical_spelling (Text bytes) = quoted bytes
canonical_spelling (Sign sign) = mark_of sign
