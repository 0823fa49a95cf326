-- Which classes of tokens can stand after the first tokens of a source.
use Rattle.std.specs.Prelude.{ℕ, ◌≡◌, List, [], ◌∷◌, ◌++◌, map, take}
use Rattle.chi_token.specs.declared.keyword.TheConstants.{KEYWORDS}
use Rattle.chi_token.specs.declared.sign.TheConstants.{SIGNS}
use Rattle.chi_token.specs.declared.place.Spanned.{Spanned}
use Rattle.chi_token.specs.declared.token.Token.{Token}
use Rattle.chi_tree.specs.declared.class.Class.{Class}
use Rattle.chi_tree.specs.declared.class.Class.TheVariants.{Word, Sign, Name, Int, Real, Text}
use Rattle.chi_tree.specs.Classes.{class_of}
use Rattle.chi_tree.specs.Limits.{whole_room}
use Rattle.chi_tree_spell.specs.Statements.{spelled}
use Rattle.chi_tree_spell.specs.Words.{Tokens, token_of}
use Rattle.chi_tree_laws.specs.Beginnings.{FormedFrontWithin}
use Rattle.chi_tree_laws.specs.Definitions.{FormedProgram}
use Rattle.chi_tree_laws.specs.StatementNestings.{nestings}

-- a program begins with the tokens, and none of them passes a limit on nesting
abbrev pub Begins : Tokens → Type 0
Begins tokens = FormedFrontWithin FormedProgram spelled nestings whole_room.blocks whole_room.expressions tokens

-- the tokens before token k of a source
abbrev pub tokens_before : List Spanned → ℕ → Tokens
tokens_before tokens k = take k (map token_of tokens)

-- after the tokens each token of the class can stand, or none of them can

abbrev pub CanStand : Tokens → Class → Type 0
CanStand before class = (token : Token) → class_of token ≡ class → Begins (before ++ token ∷ [])

abbrev pub CannotStand : Tokens → Class → Type 0
CannotStand before class = (token : Token) → class_of token ≡ class → Begins (before ++ token ∷ []) → ⊥

-- of some classes, in their order, these are the ones that can stand after the tokens
pub data AreExpected (before : Tokens) : List Class → List Class → Type 0 where
  no_more : AreExpected before [] []
  expected : {class : Class} {classes chosen : List Class}
      → CanStand before class → AreExpected before classes chosen → AreExpected before (class ∷ classes) (class ∷ chosen)
  unexpected : {class : Class} {classes chosen : List Class}
      → CannotStand before class → AreExpected before classes chosen → AreExpected before (class ∷ classes) chosen

-- all classes: names, numbers and texts, then the signs and the words by their tables
unfoldable pub all_classes : List Class
all_classes = Name ∷ Int ∷ Real ∷ Text ∷ map (λ row. Sign row.1) SIGNS ++ map (λ row. Word row.1) KEYWORDS
