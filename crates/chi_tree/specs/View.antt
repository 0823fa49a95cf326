-- What the grammar has built, shown as the tree of the language: a case for each part. What no rule builds is shown as
-- whatever comes last.
use Rattle.std.specs.Prelude.{true, false, List, [], ◌∷◌, Option, Some, None}
use Rattle.chi_grammar.specs.Rules.{Tree, leaf, node, pair, none}
use Rattle.chi_token.specs.declared.place.Place.{Place}
use Rattle.chi_token.specs.declared.place.Spanned.{Spanned}
use Rattle.chi_token.specs.declared.token.Token.{Token}
use Rattle.chi_tree.specs.declared.type_tree.Name.{Name}
use Rattle.chi_tree.specs.declared.type_tree.TypeTree.{TypeTree}
use Rattle.chi_tree.specs.declared.type_tree.TypeTree.TheVariants as type
use Rattle.chi_tree.specs.declared.type_tree.TypeWord.{TypeWord}
use Rattle.chi_tree.specs.declared.type_tree.TypeWord.TheVariants as type_word
use Rattle.chi_tree.specs.declared.type_tree.Way.{Way}
use Rattle.chi_tree.specs.declared.type_tree.Way.TheVariants as way
use Rattle.chi_tree.specs.declared.type_tree.Formal.{Formal}
use Rattle.chi_tree.specs.declared.operator.Operator.{Operator}
use Rattle.chi_tree.specs.declared.operator.Operator.TheVariants as operator
use Rattle.chi_tree.specs.declared.operator.RelationSign.{RelationSign}
use Rattle.chi_tree.specs.declared.operator.RelationSign.TheVariants as relation
use Rattle.chi_tree.specs.declared.operator.PrefixSign.{PrefixSign}
use Rattle.chi_tree.specs.declared.operator.PrefixSign.TheVariants as prefix
use Rattle.chi_tree.specs.declared.operator.CastWord.{CastWord}
use Rattle.chi_tree.specs.declared.operator.CastWord.TheVariants as cast
use Rattle.chi_tree.specs.declared.expr.Expr.{Expr}
use Rattle.chi_tree.specs.declared.expr.Expr.TheVariants as expr
use Rattle.chi_tree.specs.declared.expr.Link.{Link}
use Rattle.chi_tree.specs.declared.expr.Entry.{Entry}
use Rattle.chi_tree.specs.declared.expr.Postfix.{Postfix}
use Rattle.chi_tree.specs.declared.expr.Postfix.TheVariants as postfix
use Rattle.chi_tree.specs.Tokens.{name_of, operator_of, relation_of, prefix_of, cast_of, type_word_of, way_of, literal_of}
use Rattle.chi_tree.specs.Parts.{Part}
use Rattle.chi_tree.specs.Parts as s

abbrev pub Built : Type 0
Built = Tree Spanned Part

-- tokens

abbrev pub nowhere : Place
nowhere = record { line = 0; column = 0 }

-- A token is shown by its row in the table of what it stands for. No rule builds a token without a row; it is shown as some value.

abbrev pub given_or : {T : Type 0} → T → Option T → T
given_or other (Some x) = x
given_or other None = other

abbrev pub operator_shown : Token → Operator
operator_shown token = given_or operator.Or (operator_of token)

abbrev pub relation_shown : Token → RelationSign
relation_shown token = given_or relation.Less (relation_of token)

abbrev pub prefix_shown : Token → PrefixSign
prefix_shown token = given_or prefix.Not (prefix_of token)

abbrev pub cast_shown : Token → CastWord
cast_shown token = given_or cast.Int (cast_of token)

abbrev pub type_word_shown : Token → TypeWord
type_word_shown token = given_or type_word.Bool (type_word_of token)

abbrev pub way_shown : Token → Way
way_shown token = given_or way.Both (way_of token)

abbrev pub literal_shown : Token → Place → Expr
literal_shown token place = given_or (expr.Time nowhere) (literal_of token place)

abbrev pub place_in : Built → Place
place_in (leaf x) = x.place
place_in _ = nowhere

abbrev pub name_in : Built → Name
name_in (leaf x) = name_of x
name_in _ = record { text = []; place = nowhere }

abbrev pub more_names_in : Built → List Name
more_names_in (pair (pair c n) ns) = name_in n ∷ more_names_in ns
more_names_in _ = []

abbrev pub names_in : Built → List Name
names_in (node s.Names (pair n ns)) = name_in n ∷ more_names_in ns
names_in _ = []

abbrev pub way_in : Built → Way
way_in (leaf x) = way_shown x.token
way_in _ = way.Both

-- an expression with what stands after it, where anything does

abbrev pub chained : Expr → List Link → Expr
chained e [] = e
chained e (l ∷ ls) = expr.Chain e (l ∷ ls)

abbrev pub parted : Expr → List Postfix → Expr
parted e [] = e
parted e (p ∷ ps) = expr.Part e (p ∷ ps)

-- expressions and types

abbrev pub no_expr : Expr
no_expr = expr.Time nowhere

abbrev pub no_type : TypeTree
no_type = type.Defined (record { text = []; place = nowhere })

abbrev pub no_link : Link
no_link = record { operator = operator.Remainder; place = nowhere; operand = no_expr }

-- what is shown of a part that may be left out
abbrev pub optional : {T : Type 0} → Built → T → Option T
optional none x = None
optional t x = Some x

-- a name, or a call of it with arguments
abbrev pub called : Name → Built → List Expr → Expr
called name none arguments = expr.Named name
called name t arguments = expr.Call name arguments

abbrev mutual
  pub type_of : Built → TypeTree
  type_of (node s.AnyType t) = type_of t
  type_of (node s.BuiltType t) = type_of t
  type_of (node s.NamedType t) = type.Defined (name_in t)
  type_of (node s.WordType (leaf x)) = type.Word (type_word_shown x.token) x.place
  type_of (node s.ListType (pair w (pair size t))) = type.List (place_in w) (size_of size) (type_of t)
  type_of (node s.SetType (pair w t)) = type.Set (place_in w) (type_of t)
  type_of (node s.DistType (pair w t)) = type.Dist (place_in w) (type_of t)
  type_of (node s.DictType (pair w (pair l (pair k (pair c (pair v r)))))) = type.Dict (place_in w) (type_of k) (type_of v)
  type_of (node s.TupleType (pair w (pair l (pair f r)))) = type.Tuple (place_in w) (formals_of f)
  type_of (node s.ChanType (pair w (pair way c))) = type.Chan (place_in w) (way_in way) (carried_of c)
  type_of _ = no_type

  pub size_of : Built → Option Expr
  size_of (pair l (pair e r)) = Some (expr_of e)
  size_of _ = None

  -- nothing for `void`
  pub carried_of : Built → Option TypeTree
  carried_of (node s.Carried (leaf x)) = None
  carried_of (node s.Carried t) = Some (type_of t)
  carried_of _ = None

  pub formals_of : Built → List Formal
  formals_of (node s.Formals (pair t (pair n fs))) = record { ty = Some (type_of t); name = name_in n } ∷ more_formals_of fs
  formals_of (node s.Fields (pair t (pair n (pair f fs)))) =
      record { ty = Some (type_of t); name = name_in n } ∷ formal_of f ∷ more_formals_of fs
  formals_of _ = []

  pub more_formals_of : Built → List Formal
  more_formals_of (pair f fs) = formal_of f ∷ more_formals_of fs
  more_formals_of _ = []

  pub formal_of : Built → Formal
  formal_of (node s.MoreFormal t) = formal_in t
  formal_of (node s.MoreField t) = formal_in t
  formal_of _ = record { ty = None; name = name_in none }

  pub formal_in : Built → Formal
  formal_in (pair c (pair t n)) = record { ty = Some (type_of t); name = name_in n }
  formal_in (pair c n) = record { ty = None; name = name_in n }
  formal_in _ = record { ty = None; name = name_in none }

  pub expr_of : Built → Expr
  expr_of (node s.Expr (pair e ls)) = chained (expr_of e) (links_of ls)
  expr_of (node s.Conj (pair e ls)) = chained (expr_of e) (links_of ls)
  expr_of (node s.Neg t) = expr_of t
  expr_of (node s.NotNeg (pair w e)) = expr.Prefix prefix.Not (place_in w) (expr_of e)
  expr_of (node s.Rel (pair e more)) = related (expr_of e) more
  expr_of (node s.Sum (pair e ls)) = chained (expr_of e) (links_of ls)
  expr_of (node s.Prod (pair e ls)) = chained (expr_of e) (links_of ls)
  expr_of (node s.Unary t) = expr_of t
  expr_of (node s.Prefixed (pair (leaf x) e)) = expr.Prefix (prefix_shown x.token) x.place (expr_of e)
  expr_of (node s.Power (pair e more)) = powered (expr_of e) more
  expr_of (node s.Post (pair e ps)) = parted (expr_of e) (postfixes_of ps)
  expr_of (node s.Primary t) = expr_of t
  expr_of (node s.Literal (leaf x)) = literal_shown x.token x.place
  expr_of (node s.Named (pair n more)) = called (name_in n) more (arguments_of more)
  expr_of (node s.Cast (pair (leaf x) (pair l (pair e r)))) = expr.Cast (cast_shown x.token) x.place (expr_of e)
  expr_of (node s.Round (pair l (pair e (pair more r)))) = bracketed (place_in l) (expr_of e) more
  expr_of (node s.Square (pair l (pair es r))) = expr.ListOf (place_in l) (exprs_of es)
  expr_of (node s.Curly (pair l (pair e (pair more r)))) = braced (place_in l) (expr_of e) more
  expr_of (node s.Blank (pair l (pair t end))) = blank (place_in l) (type_of t) end
  expr_of _ = no_expr

  pub links_of : Built → List Link
  links_of (pair l ls) = link_of l ∷ links_of ls
  links_of _ = []

  pub link_of : Built → Link
  link_of (node s.OrLink t) = link_in t
  link_of (node s.AndLink t) = link_in t
  link_of (node s.SumLink t) = link_in t
  link_of (node s.ProdLink t) = link_in t
  link_of _ = no_link

  pub link_in : Built → Link
  link_in (pair (leaf x) e) = record { operator = operator_shown x.token; place = x.place; operand = expr_of e }
  link_in _ = no_link

  pub related : Expr → Built → Expr
  related e (node s.RelLink (pair (leaf x) f)) = expr.Relation e (relation_shown x.token) x.place (expr_of f)
  related e _ = e

  pub powered : Expr → Built → Expr
  powered e (node s.PowerLink (pair w f)) = expr.Power e (place_in w) (expr_of f)
  powered e _ = e

  pub postfixes_of : Built → List Postfix
  postfixes_of (pair p ps) = postfix_of p ∷ postfixes_of ps
  postfixes_of _ = []

  pub postfix_of : Built → Postfix
  postfix_of (node s.Postfix t) = postfix_of t
  postfix_of (node s.TargetStep t) = postfix_of t
  postfix_of (node s.Field (pair d n)) = postfix.Field (name_in n)
  postfix_of (node s.TargetIndex (pair l (pair e r))) = postfix.Index (place_in l) (expr_of e)
  postfix_of (node s.Bracket (pair l (pair t r))) = inside (place_in l) t
  postfix_of _ = postfix.Field (name_in none)

  -- what stands in square brackets
  pub inside : Place → Built → Postfix
  inside place (node s.Inside (pair e more)) = indexed place (expr_of e) more
  inside place (node s.Inside (node s.Upto t)) = sliced place None t
  inside place _ = postfix.Index place no_expr

  pub indexed : Place → Expr → Built → Postfix
  indexed place e (node s.Upto t) = sliced place (Some e) t
  indexed place e _ = postfix.Index place e

  pub sliced : Place → Option Expr → Built → Postfix
  sliced place from (pair c (pair e more)) = stepped place from (optional e (expr_of e)) more
  sliced place from _ = postfix.Slice place from None false None

  pub stepped : Place → Option Expr → Option Expr → Built → Postfix
  stepped place from upto (node s.ByStep (pair c e)) = postfix.Slice place from upto true (optional e (expr_of e))
  stepped place from upto _ = postfix.Slice place from upto false None

  pub arguments_of : Built → List Expr
  arguments_of (node s.Arguments (pair l (pair es r))) = exprs_of es
  arguments_of _ = []

  pub exprs_of : Built → List Expr
  exprs_of (node s.Exprs (pair e es)) = expr_of e ∷ more_exprs_of es
  exprs_of _ = []

  pub more_exprs_of : Built → List Expr
  more_exprs_of (pair (pair c e) es) = expr_of e ∷ more_exprs_of es
  more_exprs_of _ = []

  pub bracketed : Place → Expr → Built → Expr
  bracketed place e (node s.Others (pair c es)) = expr.TupleOf place (e ∷ exprs_of es)
  bracketed place e _ = expr.Round place e

  pub braced : Place → Expr → Built → Expr
  braced place e (node s.Contents t) = braced place e t
  braced place e (node s.Others (pair c es)) = expr.SetOf place (e ∷ exprs_of es)
  braced place e (node s.Entries (pair c (pair v es))) = expr.DictOf place (record { key = e; value = expr_of v } ∷ entries_of es)
  braced place e _ = expr.SetOf place (e ∷ [])

  pub entries_of : Built → List Entry
  entries_of (pair x xs) = entry_of x ∷ entries_of xs
  entries_of _ = []

  pub entry_of : Built → Entry
  entry_of (node s.MoreEntry (pair c (pair k (pair d v)))) = record { key = expr_of k; value = expr_of v }
  entry_of _ = record { key = no_expr; value = no_expr }

  -- an empty literal, of which the type is given
  pub blank : Place → TypeTree → Built → Expr
  blank place t (node s.BlankEnd u) = blank place t u
  blank place t (pair w (node s.BlankItems u)) = expr.EmptyList place t
  blank place t (pair w (node s.BlankElements u)) = expr.EmptySet place t
  blank place t (pair w (pair v end)) = expr.EmptyDict place t (type_of v)
  blank place t _ = no_expr
