-- Classes of tokens as they are listed.
use Rattle.std.specs.Prelude.{ℕ, Bool, true, false, List, [], ◌∷◌, ◌++◌, codes, Option, Some, None, if◌then◌else◌}
use Rattle.std.specs.Fmt.{decimal}
use Rattle.std.specs.List.{flat_map, list_any}
use Rattle.chi_token.specs.declared.sign.Sign.TheVariants.{Semicolon}
use Rattle.chi_token.specs.Keywords.{word_of}
use Rattle.chi_token.specs.Signs.{mark_of}
use Rattle.chi_tree.specs.declared.class.Class.{Class}
use Rattle.chi_tree.specs.declared.class.Class.TheVariants.{Word, Sign, Name, Int, Real, Text}

-- names, numbers and texts by what they are, words and signs as they are spelled
abbrev pub class_words : Class → List ℕ
class_words Name = codes "a name"
class_words Int = codes "an int"
class_words Real = codes "a real"
class_words Text = codes "a text"
class_words (Word keyword) = codes "`" ++ word_of keyword ++ codes "`"
class_words (Sign sign) = codes "`" ++ mark_of sign ++ codes "`"

-- one after the other
abbrev pub listed : List Class → List ℕ
listed [] = []
listed (class ∷ classes) = class_words class ++ flat_map (λ other. codes ", " ++ class_words other) classes

abbrev pub is_name : Class → Bool
is_name Name = true
is_name _ = false

abbrev pub is_semicolon : Class → Bool
is_semicolon (Sign Semicolon) = true
is_semicolon _ = false

-- the line at whose end a `;` could stand instead, if it could
abbrev pub line_to_end : List Class → Option ℕ → Option ℕ
line_to_end classes line = if list_any is_semicolon classes then line else None

abbrev pub semicolon_words : Option ℕ → List ℕ
semicolon_words (Some line) = codes "`;` at the end of line " ++ decimal line ++ codes ", or here "
semicolon_words None = []

-- what could stand where nothing that stands there can, and before that the `;` that an earlier line may lack
abbrev pub expected_words : List Class → Option ℕ → List ℕ
expected_words classes line = codes "; expected: " ++ semicolon_words (line_to_end classes line) ++ listed classes
