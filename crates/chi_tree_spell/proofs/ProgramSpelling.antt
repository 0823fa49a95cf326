-- The two readings of the grammar's tokens, and what follows for whatever it builds: the tokens are the tree's, and the places that
-- the tree keeps are those of the tokens.
use Rattle.std.proofs.Common.{◌≡◌, List, [], ◌∷◌, ◌++◌, map, Some, None, Ok, refl, subst, append_assoc}
use Rattle.chi_grammar.specs.declared.room.Room.{Room}
use Rattle.chi_grammar.specs.Exact.{ParsesAll}
use Rattle.chi_grammar.specs.Rules.{part, spelling}
use Rattle.chi_grammar.specs.Trees.{Is}
use Rattle.chi_grammar.specs.Trees as is
use Rattle.chi_token.specs.declared.place.Place.{Place}
use Rattle.chi_token.specs.declared.place.Spanned.{Spanned}
use Rattle.chi_token.specs.declared.token.Token.{Token}
use Rattle.chi_tree.specs.declared.definition.Definition.{Definition}
use Rattle.chi_tree.specs.declared.definition.Definition.TheVariants as definition
use Rattle.chi_tree.specs.declared.definition.Item.{Item}
use Rattle.chi_tree.specs.declared.definition.Program.{Program}
use Rattle.chi_tree.specs.Parts as s
use Rattle.chi_tree.specs.Rules.{grammar}
use Rattle.chi_tree.specs.View.{Built, type_of, expr_of}
use Rattle.chi_tree.specs.Statements.{block_of, item_of, items_of, program_of, last_place}
use Rattle.chi_tree_spell.specs.Marks.{plain, Mark, mark, IsMarkOf, OneByOne, Agree}
use Rattle.chi_tree_spell.specs.Marks as marks
use Rattle.chi_tree_spell.specs.Words.{Tokens, token_of, all}
use Rattle.chi_tree_spell.specs.Expressions.{spelled_expr, spelled_type, marked_expr, marked_type}
use Rattle.chi_tree_spell.specs.Statements.{spelled_block, spelled, put_semicolon, put_definition, put_item, marked_block, IsLastPlace, AgreesWith}
use Rattle.chi_tree_spell.specs.Statements as places
use Rattle.chi_tree_spell.proofs.BuiltTokens.{Reading}
use Rattle.chi_tree_spell.proofs.EachPart.{type_read, expr_read, block_read, program_read}

-- the tokens alone
abbrev tokens_alone : Reading
tokens_alone = record {
  X = Token;
  put = plain;
  Fits = λ t x. t ≡ x.token;
  fits_bare = λ x. refl;
  fits_kept = λ x. refl;
}

none_kept : {p q : Place} → None ≡ Some p → p ≡ q
none_kept e = cc

same_place : {p q : Place} → Some p ≡ Some q → q ≡ p
same_place e = cc

-- the tokens with their places
abbrev tokens_and_places : Reading
tokens_and_places = record {
  X = Mark;
  put = mark;
  Fits = IsMarkOf;
  fits_bare = λ x. record { token = refl; place = λ kept e. none_kept e };
  fits_kept = λ x. record { token = refl; place = λ kept e. same_place e };
}

all_same : {ts : Tokens} {xs : List Spanned} → OneByOne (λ t x. t ≡ x.token) ts xs → ts ≡ map token_of xs
all_same marks.none = refl
all_same (marks.more h p) = λ i. h i ∷ all_same p i

pub type_spelling : (room : Room) (t : Built) → Is grammar room (part s.AnyType) t → spelled_type (type_of t) ≡ map token_of (spelling t)
type_spelling room t p = all_same (type_read tokens_alone p)

pub expr_spelling : (room : Room) (t : Built) → Is grammar room (part s.Expr) t → spelled_expr (expr_of t) ≡ map token_of (spelling t)
expr_spelling room t p = all_same (expr_read tokens_alone p)

pub block_spelling : (room : Room) (t : Built) → Is grammar room (part s.Block) t → spelled_block (block_of t) ≡ map token_of (spelling t)
block_spelling room t p = all_same (block_read tokens_alone p)

pub program_spelling : (room : Room) (t : Built) → Is grammar room (part s.Program) t → spelled (program_of t) ≡ map token_of (spelling t)
program_spelling room t p = all_same (program_read tokens_alone p)

pub type_places : (room : Room) (t : Built) → Is grammar room (part s.AnyType) t → Agree (marked_type (type_of t)) (spelling t)
type_places room t p = type_read tokens_and_places p

pub expr_places : (room : Room) (t : Built) → Is grammar room (part s.Expr) t → Agree (marked_expr (expr_of t)) (spelling t)
expr_places room t p = expr_read tokens_and_places p

pub block_places : (room : Room) (t : Built) → Is grammar room (part s.Block) t → Agree (marked_block (block_of t)) (spelling t)
block_places room t p = block_read tokens_and_places p

-- the place of the last token

is_last : (x : Spanned) (xs : List Spanned) → IsLastPlace (x ∷ xs) (last_place (x ∷ xs))
is_last x [] = places.last
is_last x (y ∷ ys) = places.later (is_last y ys)

agreed_last : {m : Mark} {ms : List Mark} {xs : List Spanned} → Agree (m ∷ ms) xs → IsLastPlace xs (last_place xs)
agreed_last (marks.more h p) = is_last _ _

-- a definition has a first token
last_after : (d : Definition) (ms : List Mark) {xs : List Spanned} → Agree (put_definition mark d ++ ms) xs → IsLastPlace xs (last_place xs)
last_after (definition.Enum place name values) ms p = agreed_last p
last_after (definition.Const place ty name equals value) ms p = agreed_last p
last_after (definition.TypeWord place name ty) ms p = agreed_last p
last_after (definition.Func place result_type name formals block) ms p = agreed_last p
last_after (definition.Proc place exit_type name formals block) ms p = agreed_last p
last_after (definition.Model place exit_type name formals block) ms p = agreed_last p
last_after (definition.Xper place name block) ms p = agreed_last p

pub program_places : (room : Room) (t : Built) → Is grammar room (part s.Program) t → AgreesWith (program_of t) (spelling t)
program_places room t (is.part (is.both {t = d} {u = ds} p ps)) =
    let item : Item = item_of d in
    let agree = program_read tokens_and_places (is.part (is.both p ps)) in
    record {
      nodes = agree;
      last = last_after item.definition _
          (subst (λ ms. Agree ms (spelling t)) (append_assoc (put_definition mark item.definition) (put_semicolon mark item.semicolon) (all (map (put_item mark) (items_of ds)))) agree);
    }

-- the program that all the tokens are parsed as
pub parsed_places : (tokens : List Spanned) (room : Room) (program : Program)
    → ParsesAll grammar tokens program_of room (part s.Program) (Ok program) → AgreesWith program tokens
parsed_places tokens room program (t, shows, is, same) =
    subst (λ p. AgreesWith p tokens) shows (subst (λ xs. AgreesWith (program_of t) xs) same (program_places room t is))
