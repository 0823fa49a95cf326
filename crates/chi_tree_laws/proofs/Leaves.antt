-- Tokens, words and signs as leaves of what is built, and the parts that they make by themselves.
use Rattle.std.proofs.Common.{◌≡◌, ℕ, suc, Bool, true, false, ◌∷◌, ◌++◌, Option, Some, None, refl, ap, sym, ◌∙◌}
use Rattle.std.specs.Option.{option_map}
use Rattle.chi_grammar.specs.declared.room.Room.{Room}
use Rattle.chi_grammar.specs.Rules.{Rule, leaf, node, pair, none, part, ◌∣◌, maybe}
use Rattle.chi_grammar.specs.Trees.{Is}
use Rattle.chi_grammar.specs.Trees as is
use Rattle.chi_token.specs.declared.keyword.Keyword.{Keyword}
use Rattle.chi_token.specs.declared.keyword.Keyword.TheVariants.{FalseWord, TrueWord}
use Rattle.chi_token.specs.declared.sign.Sign.{Sign}
use Rattle.chi_token.specs.declared.sign.Sign.TheVariants.{LeftBracket, RightBracket, Bang, Colon, Question}
use Rattle.chi_token.specs.declared.token.Token.{Token}
use Rattle.chi_token.specs.declared.token.Token.TheVariants as token
use Rattle.chi_token.specs.declared.place.Place.{Place}
use Rattle.chi_token.specs.declared.place.Spanned.{Spanned}
use Rattle.chi_tree.specs.declared.operator.Operator.{Operator}
use Rattle.chi_tree.specs.declared.operator.Operator.TheVariants as operator
use Rattle.chi_tree.specs.declared.operator.RelationSign.{RelationSign}
use Rattle.chi_tree.specs.declared.operator.RelationSign.TheVariants as relation
use Rattle.chi_tree.specs.declared.operator.PrefixSign.{PrefixSign}
use Rattle.chi_tree.specs.declared.operator.PrefixSign.TheVariants as prefix
use Rattle.chi_tree.specs.declared.operator.CastWord.{CastWord}
use Rattle.chi_tree.specs.declared.operator.CastWord.TheVariants as cast
use Rattle.chi_tree.specs.declared.type_tree.Name.{Name}
use Rattle.chi_tree.specs.declared.type_tree.TypeWord.{TypeWord}
use Rattle.chi_tree.specs.declared.type_tree.TypeWord.TheVariants as type_word
use Rattle.chi_tree.specs.declared.type_tree.Way.{Way}
use Rattle.chi_tree.specs.declared.type_tree.Way.TheVariants as way
use Rattle.chi_tree.specs.declared.expr.Expr.{Expr}
use Rattle.chi_tree.specs.declared.expr.Expr.TheVariants as expr
use Rattle.chi_tree.specs.declared.expr.Postfix.{Postfix}
use Rattle.chi_tree.specs.declared.expr.Postfix.TheVariants as postfix
use Rattle.chi_tree.specs.Parts.{Part}
use Rattle.chi_tree.specs.Parts as s
use Rattle.chi_tree.specs.Rules.{grammar, sign, sum_sign, product_sign, relation_sign, prefix_sign, cast_word, type_word}
use Rattle.chi_tree.specs.View.{operator_shown, relation_shown, prefix_shown, cast_shown, type_word_shown, Built, carried_of, inside, stepped, nowhere, way_in, optional, type_of, expr_of, postfix_of}
use Rattle.chi_tree_spell.specs.Words.{operator_token, relation_token, prefix_token, cast_token, type_token}
use Rattle.chi_tree_laws.specs.Levels.{Level, level_of, prefix_level}
use Rattle.chi_tree_laws.specs.Levels as level
use Rattle.chi_tree_laws.specs.Nestings.{Nestings, outside, bracketed, if_any}
use Rattle.chi_tree_laws.specs.ExprNestings.{way_nestings, by_nestings, expr_nestings, postfix_nestings}
use Rattle.chi_tree_laws.proofs.Depths.{depths}
use Rattle.chi_tree_laws.proofs.ExprNestingsIn.{expr-Bool, postfix-Slice}

-- tokens, and where they stand

abbrev pub at : Place → Token → Spanned
at place token = record { token = token; place = place; start = 0; stop = 0 }

abbrev pub mark : Sign → Built
mark k = leaf (at nowhere (token.Sign k))

abbrev pub mark_at : Place → Sign → Built
mark_at place k = leaf (at place (token.Sign k))

abbrev pub word_at : Place → Keyword → Built
word_at place k = leaf (at place (token.Word k))

abbrev pub name_leaf : Name → Built
name_leaf n = leaf (at n.place (token.Name n.text))

abbrev pub levels : ℕ → ℕ → Room
levels b d = record { blocks = b; expressions = d }

-- what the rule builds, with so many levels, and is shown as this, and the nestings in it
pub record Builds {T : Type 0} (b d : ℕ) (rule : Rule Spanned Part) (view : Built → T) (value : T) (nestings : Nestings) : Type 0 where
  pub tree : Built
  pub built : Is grammar (levels b d) rule tree
  pub shown : view tree ≡ value
  pub nests : depths built ≡ nestings

-- words and signs

pub sum_is : {room : Room} (o : Operator) (place : Place) → level_of o ≡ level.Sum → Is grammar room sum_sign (leaf (at place (operator_token o)))
sum_is operator.Add place e = is.left (is.word refl)
sum_is operator.Subtract place e = is.right (is.word refl)
sum_is _ place e = cc

pub product_is : {room : Room} (o : Operator) (place : Place) → level_of o ≡ level.Prod → Is grammar room product_sign (leaf (at place (operator_token o)))
product_is operator.Multiply place e = is.left (is.word refl)
product_is operator.Divide place e = is.right (is.left (is.word refl))
product_is operator.DivideWhole place e = is.right (is.right (is.left (is.word refl)))
product_is operator.Remainder place e = is.right (is.right (is.right (is.word refl)))
product_is _ place e = cc

pub operator_back : (o : Operator) → operator_shown (operator_token o) ≡ o
operator_back operator.Or = refl
operator_back operator.And = refl
operator_back operator.Add = refl
operator_back operator.Subtract = refl
operator_back operator.Multiply = refl
operator_back operator.Divide = refl
operator_back operator.DivideWhole = refl
operator_back operator.Remainder = refl

pub relation_is : {room : Room} (o : RelationSign) (place : Place) → Is grammar room relation_sign (leaf (at place (relation_token o)))
relation_is relation.Less place = is.left (is.word refl)
relation_is relation.LessEqual place = is.right (is.left (is.word refl))
relation_is relation.Equal place = is.right (is.right (is.left (is.word refl)))
relation_is relation.NotEqual place = is.right (is.right (is.right (is.left (is.word refl))))
relation_is relation.Greater place = is.right (is.right (is.right (is.right (is.left (is.word refl)))))
relation_is relation.GreaterEqual place = is.right (is.right (is.right (is.right (is.right (is.left (is.word refl))))))
relation_is relation.In place = is.right (is.right (is.right (is.right (is.right (is.right (is.left (is.word refl)))))))
relation_is relation.Sub place = is.right (is.right (is.right (is.right (is.right (is.right (is.right (is.word refl)))))))

pub relation_back : (o : RelationSign) → relation_shown (relation_token o) ≡ o
relation_back relation.Less = refl
relation_back relation.LessEqual = refl
relation_back relation.Equal = refl
relation_back relation.NotEqual = refl
relation_back relation.Greater = refl
relation_back relation.GreaterEqual = refl
relation_back relation.In = refl
relation_back relation.Sub = refl

pub prefix_is : {room : Room} (o : PrefixSign) (place : Place) → prefix_level o ≡ level.Unary → Is grammar room prefix_sign (leaf (at place (prefix_token o)))
prefix_is prefix.Minus place e = is.left (is.word refl)
prefix_is prefix.Plus place e = is.right (is.left (is.word refl))
prefix_is prefix.Sample place e = is.right (is.right (is.word refl))
prefix_is prefix.Not place e = cc

pub prefix_back : (o : PrefixSign) → prefix_shown (prefix_token o) ≡ o
prefix_back prefix.Not = refl
prefix_back prefix.Minus = refl
prefix_back prefix.Plus = refl
prefix_back prefix.Sample = refl

pub cast_is : {room : Room} (o : CastWord) (place : Place) → Is grammar room cast_word (leaf (at place (cast_token o)))
cast_is cast.Int place = is.left (is.word refl)
cast_is cast.Real place = is.right (is.left (is.word refl))
cast_is cast.Text place = is.right (is.right (is.left (is.word refl)))
cast_is cast.Bool place = is.right (is.right (is.right (is.left (is.word refl))))
cast_is cast.Timer place = is.right (is.right (is.right (is.right (is.word refl))))

pub cast_back : (o : CastWord) → cast_shown (cast_token o) ≡ o
cast_back cast.Int = refl
cast_back cast.Real = refl
cast_back cast.Text = refl
cast_back cast.Bool = refl
cast_back cast.Timer = refl

pub type_word_is : {room : Room} (o : TypeWord) (place : Place) → Is grammar room type_word (leaf (at place (type_token o)))
type_word_is type_word.Bool place = is.left (is.word refl)
type_word_is type_word.Int place = is.right (is.left (is.word refl))
type_word_is type_word.Real place = is.right (is.right (is.left (is.word refl)))
type_word_is type_word.Text place = is.right (is.right (is.right (is.left (is.word refl))))
type_word_is type_word.Timer place = is.right (is.right (is.right (is.right (is.left (is.word refl)))))
type_word_is type_word.Inst place = is.right (is.right (is.right (is.right (is.right (is.word refl)))))

pub type_word_back : (o : TypeWord) → type_word_shown (type_token o) ≡ o
type_word_back type_word.Bool = refl
type_word_back type_word.Int = refl
type_word_back type_word.Real = refl
type_word_back type_word.Text = refl
type_word_back type_word.Timer = refl
type_word_back type_word.Inst = refl

abbrev pub way_tree : Way → Built
way_tree way.Both = none
way_tree way.Send = mark Bang
way_tree way.Receive = mark Question

abbrev pub way_is : {room : Room} (w : Way) → Is grammar room (maybe (sign Bang ∣ sign Question)) (way_tree w)
way_is way.Both = is.never
way_is way.Send = is.once (is.left (is.word refl))
way_is way.Receive = is.once (is.right (is.word refl))

pub way_nests : (room : Room) (w : Way) → depths (way_is {room = room} w) ≡ way_nestings w
way_nests room way.Both = refl
way_nests room way.Send = refl
way_nests room way.Receive = refl

pub way_back : (w : Way) → way_in (way_tree w) ≡ w
way_back way.Both = refl
way_back way.Send = refl
way_back way.Receive = refl

-- the part of a level, and of its links

abbrev pub level_part : Level → Part
level_part level.Expr = s.Expr
level_part level.Conj = s.Conj
level_part level.Neg = s.Neg
level_part level.Rel = s.Rel
level_part level.Sum = s.Sum
level_part level.Prod = s.Prod
level_part level.Unary = s.Unary
level_part level.Power = s.Power
level_part level.Post = s.Post
level_part level.Primary = s.Primary

abbrev pub link_part : Level → Part
link_part level.Expr = s.OrLink
link_part level.Conj = s.AndLink
link_part level.Sum = s.SumLink
link_part _ = s.ProdLink

-- parts that may be left out

pub data IfAny (b d : ℕ) : Option Expr → Type 0 where
  left_out : IfAny b d None
  given : {e : Expr} → Builds b d (part s.Expr) expr_of e (expr_nestings e) → IfAny b d (Some e)

abbrev pub if_tree : {b d : ℕ} {e : Option Expr} → IfAny b d e → Built
if_tree left_out = none
if_tree (given u) = u.tree

abbrev pub if_built : {b d : ℕ} {e : Option Expr} → (u : IfAny b d e) → Is grammar (levels b d) (maybe (part s.Expr)) (if_tree u)
if_built left_out = is.never
if_built (given u) = is.once u.built

pub if_nests : {b d : ℕ} {e : Option Expr} → (u : IfAny b d e) → depths (if_built u) ≡ if_any (option_map expr_nestings e)
if_nests left_out = refl
if_nests (given u) = u.nests

some_tree : {room : Room} {s : Part} {t : Built} {T : Type 0} → Is grammar room (part s) t → (x : T) → optional t x ≡ Some x
some_tree (is.part p) x = refl

pub if_shown : {b d : ℕ} {e : Option Expr} → (u : IfAny b d e) → optional (if_tree u) (expr_of (if_tree u)) ≡ e
if_shown left_out = refl
if_shown (given u) = some_tree u.built (expr_of u.tree) ∙ ap (λ e. Some e) u.shown

pub truth_built : (b d : ℕ) (truth : Bool) (place : Place) → Builds b d (part s.Primary) expr_of (expr.Bool truth place) (expr_nestings (expr.Bool truth place))
truth_built b d true place = record {
  tree = node s.Primary (node s.Literal (word_at place TrueWord));
  built = is.part (is.left (is.part (is.right (is.right (is.right (is.left (is.word refl)))))));
  shown = refl;
  nests = sym (expr-Bool true place);
}
truth_built b d false place = record {
  tree = node s.Primary (node s.Literal (word_at place FalseWord));
  built = is.part (is.left (is.part (is.right (is.right (is.right (is.right (is.left (is.word refl))))))));
  shown = refl;
  nests = sym (expr-Bool false place);
}

pub carried_is : {room : Room} {t : Built} → Is grammar room (part s.AnyType) t → carried_of (node s.Carried t) ≡ Some (type_of t)
carried_is (is.part p) = refl

-- a slice in its brackets
bracket_built : {b d : ℕ} {p : Postfix} (place : Place) (t : Built) → (is_inside : Is grammar (levels b d) (part s.Inside) t) → inside place t ≡ p
    → bracketed (depths is_inside) ≡ postfix_nestings p → Builds b (suc d) (part s.Postfix) postfix_of p (postfix_nestings p)
bracket_built place t is_inside shown nests = record {
  tree = node s.Postfix (node s.Bracket (pair (mark_at place LeftBracket) (pair t (mark RightBracket))));
  built = is.part (is.left (is.deeper (refl, refl) (is.part (is.both (is.word refl) (is.both is_inside (is.word refl))))));
  shown = shown;
  nests = nests;
}

pub slice_built : {b d : ℕ} {from upto : Option Expr} (place : Place) (has : Bool) (by : Option Expr) (more : Built)
    → IfAny b d from → IfAny b d upto → (is_more : Is grammar (levels b d) (maybe (part s.ByStep)) more)
    → ((a c : Option Expr) → stepped place a c more ≡ postfix.Slice place a c has by)
    → depths is_more ≡ by_nestings has (option_map expr_nestings by)
    → Builds b (suc d) (part s.Postfix) postfix_of (postfix.Slice place from upto has by) (postfix_nestings (postfix.Slice place from upto has by))
slice_built place has by more left_out v is_more shown nests =
    bracket_built place (node s.Inside (node s.Upto (pair (mark Colon) (pair (if_tree v) more))))
    (is.part (is.right (is.part (is.both (is.word refl) (is.both (if_built v) is_more)))))
    (shown None _ ∙ ap (λ c. postfix.Slice place None c has by) (if_shown v))
    ((λ i. bracketed (outside ∷ if_nests v i ++ nests i)) ∙ sym (postfix-Slice place None _ has by))
slice_built place has by more (given u) v is_more shown nests =
    bracket_built place (node s.Inside (pair u.tree (node s.Upto (pair (mark Colon) (pair (if_tree v) more)))))
    (is.part (is.left (is.both u.built (is.once (is.part (is.both (is.word refl) (is.both (if_built v) is_more)))))))
    (shown (Some (expr_of u.tree)) _ ∙ (λ i. postfix.Slice place (Some (u.shown i)) (if_shown v i) has by))
    ((λ i. bracketed (u.nests i ++ (outside ∷ if_nests v i ++ nests i))) ∙ sym (postfix-Slice place (Some _) _ has by))
