-- What is said of a rule of typing that is broken at a place.
use Rattle.std.specs.Prelude.{ℕ, ◌==◌, ◌&&◌, Bool, Option, Some, None, List, [], ◌∷◌, ◌++◌, length, map, codes, if◌then◌else◌}
use Rattle.std.specs.Fmt.{decimal}
use Rattle.chi_token.specs.declared.place.Place.{Place}
use Rattle.chi_check_types.specs.declared.rules.TheConstants.{NEW_NAME}
use Rattle.chi_check_types.specs.Predefined.{is_predefined}
use Rattle.chi_explain_typing.specs.declared.rules.TheConstants.{RULES}
use Rattle.chi_explain_typing.specs.declared.named.TheConstants.{NAMED, PREDEFINED_NAME}
use Rattle.chi_explain_typing.specs.Names.{name_at, words_with}

-- the words of the first row with this number
unfoldable pub words_at : ℕ → List (ℕ × List ℕ) → Option (List ℕ)
words_at number [] = None
words_at number (row ∷ rows) = if row.0 == number then Some row.1 else words_at number rows

-- the words of a rule, by the one table of them
unfoldable pub words_of_rule : ℕ → Option (List ℕ)
words_of_rule rule = words_at rule (map (λ row. (row.0, row.1.now)) RULES)

-- those of a rule that have a name in them, by the table of these
unfoldable pub named_words : ℕ → Option (List ℕ)
named_words rule = words_at rule (map (λ row. (row.0, row.1.now)) NAMED)

-- whether what is wrong with the name is that it is predefined
abbrev pub is_of_predefined : ℕ → List ℕ → Bool
is_of_predefined rule name = rule == NEW_NAME && is_predefined name

-- the words of a rule about a name, where there is one, and the rule has such
abbrev pub words_about : ℕ → List ℕ → Option (List ℕ)
words_about rule name =
    if length name == 0 then None
    else if is_of_predefined rule name then Some PREDEFINED_NAME.now
    else named_words rule

-- words, and what parts them from a number
abbrev pub parted : Option (List ℕ) → List ℕ
parted (Some words) = words ++ codes ": "
parted None = []

-- words about a name, where there are any, or those of the rule
abbrev pub said : List ℕ → Option (List ℕ) → Option (List ℕ) → Option (List ℕ)
said name (Some about) words = Some (words_with name about)
said name None words = words

-- what is said of a rule and a name: of no name by the rule's words alone
abbrev pub sentence : ℕ → List ℕ → List ℕ
sentence rule name = parted (said name (words_about rule name) (words_of_rule rule))

-- the rule's words, with the name at the place, and its number at the end; a number that no rule has is told alone
unfoldable pub broken_words : List ℕ → ℕ → Place → List ℕ
broken_words source rule place = sentence rule (name_at source place) ++ codes "rule " ++ decimal rule
