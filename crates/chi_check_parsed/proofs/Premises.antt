-- A parsed program has names that are names, formals that have types and bodies that are whole.
use Rattle.std.proofs.Common.{◌≡◌, ℕ, Bool, true, ◌&&◌, List, [], ◌∷◌, ◌++◌, map, Option, refl, arith}
use Rattle.std.specs.Option.{option_map}
use Rattle.chi_token.specs.declared.token.Token.TheVariants as token
use Rattle.chi_token.specs.declared.sign.Sign.TheVariants as sign
use Rattle.chi_tree.specs.declared.definition.Definition.{Definition}
use Rattle.chi_tree.specs.declared.definition.Item.{Item}
use Rattle.chi_tree.specs.declared.type_tree.Formal.{Formal}
use Rattle.chi_tree.specs.declared.type_tree.Name.{Name}
use Rattle.chi_tree.specs.declared.type_tree.TypeTree.{TypeTree}
use Rattle.chi_tree_spell.specs.Words.{Tokens, if_any, all, each_after, separated}
use Rattle.chi_tree_spell.specs.Expressions.{spelled_type}
use Rattle.chi_tree_spell.specs.Statements as spelled
use Rattle.chi_tree_laws.specs.Definitions as formed
use Rattle.chi_tree_laws.specs.Definitions.{FormedParameters, FormedDefinition, FormedItems, FormedProgram}
use Rattle.chi_tree_laws.specs.Expressions as expressions
use Rattle.chi_tree_laws.specs.Expressions.{FormedFormals}
use Rattle.chi_check_laws.specs.CheckedBodies.{BodyIsWhole, EachIsWhole}
use Rattle.chi_check_laws.specs.Formals.{begin_typed, header_is_typed, headers_are_typed}
use Rattle.chi_check_laws.specs.Spelled.{AreNames, Spelled, EachSpelled}
use Rattle.chi_check_parsed.proofs.Formed.{inner_whole}
use Rattle.chi_check_parsed.proofs.Tokens.{Fits, AllFit, fit_left, fit_right}

abbrev pub definitions : List Item → List Definition
definitions items = map (λ item. item.definition) items

-- ---- formals

formals_typed : (d : ℕ) (fs : List Formal) → FormedFormals d fs → begin_typed fs ≡ true
formals_typed _ _ (expressions.formals t more) = refl

parameters_typed : (d : ℕ) (fs : List Formal) → FormedParameters d fs → begin_typed fs ≡ true
parameters_typed _ _ formed.no_parameters = refl
parameters_typed _ _ (formed.parameters {d = d} {fs = fs} f) = formals_typed d fs f

header_typed : (b d : ℕ) (x : Definition) → FormedDefinition b d x → header_is_typed x ≡ true
header_typed _ _ _ formed.enumeration = refl
header_typed _ _ _ (formed.constant t e) = refl
header_typed _ _ _ (formed.type_name t) = refl
header_typed _ _ _ (formed.function {d = d} {fs = fs} t f k) = parameters_typed d fs f
header_typed _ _ _ (formed.process {d = d} {fs = fs} t f k) = parameters_typed d fs f
header_typed _ _ _ (formed.model {d = d} {fs = fs} t f k) = parameters_typed d fs f
header_typed _ _ _ (formed.experiment k) = refl

pub headers_typed : (b d : ℕ) (items : List Item) → FormedItems b d items → headers_are_typed (definitions items) ≡ true
headers_typed _ _ _ (formed.one_item {b = b} {d = d} {definition = x} f) = λ i. header_typed b d x f i && true
headers_typed _ _ _ (formed.items {b = b} {d = d} {definition = x} {more = more} f fs) = λ i. header_typed b d x f i && headers_typed b d more fs i

-- ---- bodies

body_whole : (b d : ℕ) (x : Definition) → FormedDefinition b d x → BodyIsWhole x
body_whole _ _ _ formed.enumeration = tt
body_whole _ _ _ (formed.constant t e) = tt
body_whole _ _ _ (formed.type_name t) = tt
body_whole _ _ _ (formed.function {b = b} {d = d} {block = block} t f k) = inner_whole b d block k
body_whole _ _ _ (formed.process {b = b} {d = d} {block = block} t f k) = inner_whole b d block k
body_whole _ _ _ (formed.model {b = b} {d = d} {block = block} t f k) = inner_whole b d block k
body_whole _ _ _ (formed.experiment {b = b} {block = block} k) = inner_whole b _ block k

pub bodies_whole : (b d : ℕ) (items : List Item) → FormedItems b d items → EachIsWhole (definitions items)
bodies_whole _ _ _ (formed.one_item {b = b} {d = d} {definition = x} f) = (body_whole b d x f, tt)
bodies_whole _ _ _ (formed.items {b = b} {d = d} {definition = x} {more = more} f fs) = (body_whole b d x f, bodies_whole b d more fs)

-- ---- names

further_names : (names : List Name) → AllFit (each_after (token.Sign sign.Comma) (map (λ n. token.Name n.text ∷ []) names)) → AreNames names
further_names [] h = tt
further_names (name ∷ names) h = (h.1.0, further_names names h.1.1)

all_names : (names : List Name) → AllFit (separated (token.Sign sign.Comma) (map (λ n. token.Name n.text ∷ []) names)) → AreNames names
all_names [] h = tt
all_names (name ∷ names) h = (h.0, further_names names h.1)

head_name : (t : Option TypeTree) (name : Name) (more : Tokens) → AllFit ((if_any (option_map spelled_type t) ++ token.Name name.text ∷ []) ++ more) → Fits (token.Name name.text)
head_name t name more h = (fit_right (if_any (option_map spelled_type t)) (token.Name name.text ∷ []) (fit_left (if_any (option_map spelled_type t) ++ token.Name name.text ∷ []) more h)).0

some_values : (b d : ℕ) (x : Definition) → FormedDefinition b d x → AllFit (spelled.spelled_definition x) → Spelled x
some_values _ _ _ (formed.enumeration {first = first} {more = more}) h =
    (omega arith, all_names (first ∷ more) (fit_left (separated (token.Sign sign.Comma) (map (λ n. token.Name n.text ∷ []) (first ∷ more))) (token.Sign sign.RightBrace ∷ []) h.1.1.1.1))
some_values _ _ _ (formed.constant t e) h = tt
some_values _ _ _ (formed.type_name t) h = tt
some_values _ _ _ (formed.function {t = t} f g k) h = (fit_right (spelled_type t) _ h.1).0
some_values _ _ _ (formed.process {t = t} {name = name} f g k) h = head_name t name _ h.1
some_values _ _ _ (formed.model {t = t} {name = name} f g k) h = head_name t name _ h.1
some_values _ _ _ (formed.experiment k) h = h.1.0

pub item_spelled : (x : Definition) (semicolon : Bool) (more : Tokens) → AllFit ((spelled.spelled_definition x ++ spelled.semicolon_if semicolon) ++ more) → AllFit (spelled.spelled_definition x)
item_spelled x semicolon more h = fit_left (spelled.spelled_definition x) (spelled.semicolon_if semicolon) (fit_left (spelled.spelled_definition x ++ spelled.semicolon_if semicolon) more h)

pub each_spelled : (b d : ℕ) (items : List Item) → FormedItems b d items → AllFit (all (map spelled.spelled_item items)) → EachSpelled (definitions items)
each_spelled _ _ _ (formed.one_item {b = b} {d = d} {definition = x} {semicolon = s} f) h = (some_values b d x f (item_spelled x s _ h), tt)
each_spelled _ _ _ (formed.items {b = b} {d = d} {definition = x} {semicolon = s} {more = more} f fs) h =
    (some_values b d x f (item_spelled x s _ h), each_spelled b d more fs (fit_right (spelled.spelled_definition x ++ spelled.semicolon_if s) _ h))
