-- A token of the classes of a kind has a row in the table of what such tokens stand for.
use Rattle.std.proofs.Common.{◌≡◌, true, List, [], ◌∷◌, map, refl, subst}
use Rattle.chi_grammar.specs.Lookahead.{holds}
use Rattle.chi_token.specs.declared.keyword.Keyword.TheVariants.{AndWord, OrWord}
use Rattle.chi_token.specs.declared.sign.Sign.TheVariants.{Bang, Question}
use Rattle.chi_token.specs.declared.place.Place.{Place}
use Rattle.chi_token.specs.declared.token.Token.{Token}
use Rattle.chi_tree.specs.declared.class.Class.{Class}
use Rattle.chi_tree.specs.declared.class.Class.TheVariants as class
use Rattle.chi_tree.specs.Begins.{begins}
use Rattle.chi_tree.specs.Classes.{class_of, number_of}
use Rattle.chi_tree.specs.Statements.{is_some}
use Rattle.chi_tree.specs.Tokens.{operator_of, relation_of, prefix_of, cast_of, type_word_of, way_of, literal_of}
use Rattle.chi_tree.specs.Words.{classes, relation_signs, sum_signs, product_signs, prefix_signs, cast_words, type_words, literals}
use Rattle.chi_tree.proofs.ClassTokens.{row_of}
use Rattle.chi_parse_expr.specs.declared.level.ChainLevel.{ChainLevel}
use Rattle.chi_parse_expr.specs.declared.level.ChainLevel.TheVariants.{Or, And, Sum, Product}
use Rattle.chi_parse_expr.specs.Grouping.{link_part}

-- the token is of one of the classes
abbrev pub IsOf : List Class → Token → Type 0
IsOf cs t = holds (map number_of cs) (number_of (class_of t)) ≡ true

level_row : (level : ChainLevel) (t : Token) → IsOf (begins (link_part level)) t → is_some (operator_of t) ≡ true
level_row Or t h = row_of operator_of (class.Word OrWord ∷ []) ((λ bytes. refl), tt) t h
level_row And t h = row_of operator_of (class.Word AndWord ∷ []) ((λ bytes. refl), tt) t h
level_row Sum t h = row_of operator_of (classes sum_signs) ((λ bytes. refl), ((λ bytes. refl), tt)) t h
level_row Product t h =
    row_of operator_of (classes product_signs) ((λ bytes. refl), ((λ bytes. refl), ((λ bytes. refl), ((λ bytes. refl), tt)))) t h

pub operator_row : (level : ChainLevel) {cs : List Class} → cs ≡ begins (link_part level) → (t : Token) → IsOf cs t → is_some (operator_of t) ≡ true
operator_row level are t h = level_row level t (subst (λ cs. IsOf cs t) are h)

pub relation_row : (t : Token) → IsOf (classes relation_signs) t → is_some (relation_of t) ≡ true
relation_row t h =
    row_of relation_of (classes relation_signs)
    ((λ bytes. refl), ((λ bytes. refl), ((λ bytes. refl), ((λ bytes. refl), ((λ bytes. refl), ((λ bytes. refl), ((λ bytes. refl), ((λ bytes. refl), tt))))))))
    t h

pub prefix_row : (t : Token) → IsOf (classes prefix_signs) t → is_some (prefix_of t) ≡ true
prefix_row t h = row_of prefix_of (classes prefix_signs) ((λ bytes. refl), ((λ bytes. refl), ((λ bytes. refl), tt))) t h

pub cast_row : (t : Token) → IsOf (classes cast_words) t → is_some (cast_of t) ≡ true
cast_row t h =
    row_of cast_of (classes cast_words) ((λ bytes. refl), ((λ bytes. refl), ((λ bytes. refl), ((λ bytes. refl), ((λ bytes. refl), tt))))) t h

pub type_word_row : (t : Token) → IsOf (classes type_words) t → is_some (type_word_of t) ≡ true
type_word_row t h =
    row_of type_word_of (classes type_words)
    ((λ bytes. refl), ((λ bytes. refl), ((λ bytes. refl), ((λ bytes. refl), ((λ bytes. refl), ((λ bytes. refl), tt)))))) t h

pub way_row : (t : Token) → IsOf (class.Sign Bang ∷ class.Sign Question ∷ []) t → is_some (way_of t) ≡ true
way_row t h = row_of way_of (class.Sign Bang ∷ class.Sign Question ∷ []) ((λ bytes. refl), ((λ bytes. refl), tt)) t h

pub literal_row : (t : Token) (place : Place) → IsOf (classes literals) t → is_some (literal_of t place) ≡ true
literal_row t place h =
    row_of (λ u. literal_of u place) (classes literals)
    ((λ bytes. refl), ((λ bytes. refl), ((λ bytes. refl), ((λ bytes. refl), ((λ bytes. refl), ((λ bytes. refl), tt)))))) t h
