-- The spelling of an expression and of a type, from left to right: each token is put with its place where the node keeps that,
-- which `put` makes something of. `spelled_expr` keeps the tokens, and `marked_expr` the tokens and the places.
use Rattle.std.specs.Prelude.{Bool, true, false, List, [], ◌∷◌, ◌++◌, Option, Some, None, map}
use Rattle.chi_token.specs.declared.keyword.Keyword.TheVariants.{ChanWord, DictWord, DistWord, ListWord, SetWord, TimeWord, TupleWord, VoidWord}
use Rattle.chi_token.specs.declared.place.Place.{Place}
use Rattle.chi_token.specs.declared.sign.Sign.TheVariants.{LeftParen, RightParen, LeftBracket, RightBracket, LeftBrace, RightBrace, Less, Greater, Caret, Bang, Question, Colon, Comma, Semicolon, Dot}
use Rattle.chi_token.specs.declared.token.Token.{Token}
use Rattle.chi_token.specs.declared.token.Token.TheVariants.{Word, Sign, Name}
use Rattle.chi_token.specs.declared.token.Token.TheVariants as token
use Rattle.chi_tree.specs.declared.type_tree.Name as names
use Rattle.chi_tree.specs.declared.type_tree.Way.{Way}
use Rattle.chi_tree.specs.declared.type_tree.Way.TheVariants as way
use Rattle.chi_tree.specs.declared.type_tree.TypeTree.{TypeTree, TypeTree-F, fold-TypeTree}
use Rattle.chi_tree.specs.declared.type_tree.Formal.{Formal, Formal-F, fold-Formal}
use Rattle.chi_tree.specs.declared.expr.Expr.{Expr, Expr-F, fold-Expr}
use Rattle.chi_tree.specs.declared.expr.Postfix.{Postfix, Postfix-F, fold-Postfix}
use Rattle.chi_tree.specs.declared.expr.Entry.{Entry, Entry-F, fold-Entry}
use Rattle.chi_tree.specs.declared.expr.Link.{Link, Link-F, fold-Link}
use Rattle.chi_tree_spell.specs.Marks.{Put, plain, Mark, mark}
use Rattle.chi_tree_spell.specs.Words.{Tokens, operator_token, relation_token, prefix_token, cast_token, type_token, truth_token, if_any, all, separated}

-- a formal: what its type, where one stands before it, and its name are spelled as
pub record Declared (X : Type 0) : Type 0 where
  pub ty : Option (List X)
  pub name : X

module _ {X : Type 0} (put : Put X) where
  -- a token whose place no node keeps
  abbrev pub bare : Token → X
  bare token = put token None

  -- a token whose node keeps its place
  abbrev pub kept : Token → Place → X
  kept token place = put token (Some place)

  abbrev pub put_name : names.Name → X
  put_name n = kept (Name n.text) n.place

  -- with commas between
  abbrev pub put_commas : List (List X) → List X
  put_commas = separated (bare (Sign Comma))

  -- in brackets

  abbrev pub put_round : List X → List X
  put_round inner = bare (Sign LeftParen) ∷ inner ++ bare (Sign RightParen) ∷ []

  abbrev pub put_square : List X → List X
  put_square inner = bare (Sign LeftBracket) ∷ inner ++ bare (Sign RightBracket) ∷ []

  abbrev pub put_curly : List X → List X
  put_curly inner = bare (Sign LeftBrace) ∷ inner ++ bare (Sign RightBrace) ∷ []

  -- in brackets, of which the node keeps the place of the first

  abbrev pub round_at : Place → List X → List X
  round_at place inner = kept (Sign LeftParen) place ∷ inner ++ bare (Sign RightParen) ∷ []

  abbrev pub square_at : Place → List X → List X
  square_at place inner = kept (Sign LeftBracket) place ∷ inner ++ bare (Sign RightBracket) ∷ []

  abbrev pub curly_at : Place → List X → List X
  curly_at place inner = kept (Sign LeftBrace) place ∷ inner ++ bare (Sign RightBrace) ∷ []

  -- after another formal a `;` stands before a type, and a `,` before a name without one
  abbrev pub further_type : Option (List X) → List X
  further_type None = bare (Sign Comma) ∷ []
  further_type (Some tokens) = bare (Sign Semicolon) ∷ tokens

  abbrev pub put_further : Declared X → List X
  put_further formal = further_type formal.ty ++ formal.name ∷ []

  abbrev pub declared_formals : List (Declared X) → List X
  declared_formals [] = []
  declared_formals (formal ∷ more) = if_any formal.ty ++ formal.name ∷ all (map put_further more)

  abbrev pub expr_step : Expr-F (List X) (List X) (List X) (List X) (List X) (Declared X) → List X
  expr_step (Expr-F.Chain first links) = first ++ all links
  expr_step (Expr-F.Prefix sign place operand) = kept (prefix_token sign) place ∷ operand
  expr_step (Expr-F.Relation left sign place right) = left ++ kept (relation_token sign) place ∷ right
  expr_step (Expr-F.Power base place exponent) = base ++ kept (Sign Caret) place ∷ exponent
  expr_step (Expr-F.Part whole postfixes) = whole ++ all postfixes
  expr_step (Expr-F.Int digits place) = kept (token.Int digits) place ∷ []
  expr_step (Expr-F.Real digits place) = kept (token.Real digits) place ∷ []
  expr_step (Expr-F.Text bytes place) = kept (token.Text bytes) place ∷ []
  expr_step (Expr-F.Bool truth place) = kept (truth_token truth) place ∷ []
  expr_step (Expr-F.Time place) = kept (Word TimeWord) place ∷ []
  expr_step (Expr-F.Named name) = put_name name ∷ []
  expr_step (Expr-F.Call name arguments) = put_name name ∷ put_round (put_commas arguments)
  expr_step (Expr-F.Cast word place operand) = kept (cast_token word) place ∷ put_round operand
  expr_step (Expr-F.Round place inner) = round_at place inner
  expr_step (Expr-F.TupleOf place parts) = round_at place (put_commas parts)
  expr_step (Expr-F.ListOf place elements) = square_at place (put_commas elements)
  expr_step (Expr-F.SetOf place elements) = curly_at place (put_commas elements)
  expr_step (Expr-F.DictOf place entries) = curly_at place (put_commas entries)
  expr_step (Expr-F.EmptyList place element) = kept (Sign Less) place ∷ element ++ bare (Sign Greater) ∷ put_square []
  expr_step (Expr-F.EmptySet place element) = kept (Sign Less) place ∷ element ++ bare (Sign Greater) ∷ put_curly []
  expr_step (Expr-F.EmptyDict place key value) =
      kept (Sign Less) place ∷ key ++ bare (Sign Colon) ∷ value ++ bare (Sign Greater) ∷ put_curly []

  -- the second colon of a slice, where one stands, and what is after it
  abbrev pub put_by : Bool → Option (List X) → List X
  put_by false by = []
  put_by true by = bare (Sign Colon) ∷ if_any by

  abbrev pub postfix_step : Postfix-F (List X) (List X) (List X) (List X) (List X) (Declared X) → List X
  postfix_step (Postfix-F.Index place index) = square_at place index
  postfix_step (Postfix-F.Slice place from upto second_colon by) =
      square_at place (if_any from ++ bare (Sign Colon) ∷ if_any upto ++ put_by second_colon by)
  postfix_step (Postfix-F.Field name) = bare (Sign Dot) ∷ put_name name ∷ []

  abbrev pub put_size : Option (List X) → List X
  put_size None = []
  put_size (Some size) = put_round size

  abbrev pub put_carried : Option (List X) → List X
  put_carried None = bare (Word VoidWord) ∷ []
  put_carried (Some t) = t

  -- what stands after `chan`
  abbrev pub put_way : Way → List X
  put_way way.Both = []
  put_way way.Send = bare (Sign Bang) ∷ []
  put_way way.Receive = bare (Sign Question) ∷ []

  abbrev pub type_step : TypeTree-F (List X) (List X) (List X) (List X) (List X) (Declared X) → List X
  type_step (TypeTree-F.Word word place) = kept (type_token word) place ∷ []
  type_step (TypeTree-F.Defined name) = put_name name ∷ []
  type_step (TypeTree-F.List place size element) = kept (Word ListWord) place ∷ put_size size ++ element
  type_step (TypeTree-F.Set place element) = kept (Word SetWord) place ∷ element
  type_step (TypeTree-F.Dist place drawn) = kept (Word DistWord) place ∷ drawn
  type_step (TypeTree-F.Dict place key value) = kept (Word DictWord) place ∷ put_round (key ++ bare (Sign Colon) ∷ value)
  type_step (TypeTree-F.Tuple place fields) = kept (Word TupleWord) place ∷ put_round (declared_formals fields)
  type_step (TypeTree-F.Chan place way carried) = kept (Word ChanWord) place ∷ put_way way ++ put_carried carried

  abbrev pub entry_step : Entry-F (List X) (List X) (List X) (List X) (List X) (Declared X) → List X
  entry_step e = e.key ++ bare (Sign Colon) ∷ e.value

  abbrev pub link_step : Link-F (List X) (List X) (List X) (List X) (List X) (Declared X) → List X
  link_step l = kept (operator_token l.operator) l.place ∷ l.operand

  abbrev pub formal_step : Formal-F (List X) (List X) (List X) (List X) (List X) (Declared X) → Declared X
  formal_step f = record { ty = f.ty; name = put_name f.name }

  abbrev pub put_expr : Expr → List X
  put_expr = fold-Expr (List X) (List X) (List X) (List X) (List X) (Declared X) expr_step postfix_step type_step entry_step link_step formal_step

  abbrev pub put_postfix : Postfix → List X
  put_postfix = fold-Postfix (List X) (List X) (List X) (List X) (List X) (Declared X) expr_step postfix_step type_step entry_step link_step formal_step

  abbrev pub put_type : TypeTree → List X
  put_type = fold-TypeTree (List X) (List X) (List X) (List X) (List X) (Declared X) expr_step postfix_step type_step entry_step link_step formal_step

  abbrev pub put_entry : Entry → List X
  put_entry = fold-Entry (List X) (List X) (List X) (List X) (List X) (Declared X) expr_step postfix_step type_step entry_step link_step formal_step

  abbrev pub put_link : Link → List X
  put_link = fold-Link (List X) (List X) (List X) (List X) (List X) (Declared X) expr_step postfix_step type_step entry_step link_step formal_step

  abbrev pub put_declared : Formal → Declared X
  put_declared = fold-Formal (List X) (List X) (List X) (List X) (List X) (Declared X) expr_step postfix_step type_step entry_step link_step formal_step

  abbrev pub put_formals : List Formal → List X
  put_formals fs = declared_formals (map put_declared fs)

-- the tokens alone

abbrev pub commas : List Tokens → Tokens
commas = put_commas plain

abbrev pub round : Tokens → Tokens
round = put_round plain

abbrev pub square : Tokens → Tokens
square = put_square plain

abbrev pub curly : Tokens → Tokens
curly = put_curly plain

abbrev pub further : Declared Token → Tokens
further = put_further plain

abbrev pub step_tokens : Bool → Option Tokens → Tokens
step_tokens = put_by plain

abbrev pub way_tokens : Way → Tokens
way_tokens = put_way plain

abbrev pub size_tokens : Option Tokens → Tokens
size_tokens = put_size plain

abbrev pub carried_tokens : Option Tokens → Tokens
carried_tokens = put_carried plain

abbrev pub spelled_expr : Expr → Tokens
spelled_expr = put_expr plain

abbrev pub spelled_postfix : Postfix → Tokens
spelled_postfix = put_postfix plain

abbrev pub spelled_type : TypeTree → Tokens
spelled_type = put_type plain

abbrev pub spelled_entry : Entry → Tokens
spelled_entry = put_entry plain

abbrev pub spelled_link : Link → Tokens
spelled_link = put_link plain

abbrev pub declared : Formal → Declared Token
declared = put_declared plain

abbrev pub spelled_formals : List Formal → Tokens
spelled_formals = put_formals plain

-- the tokens with the places that the nodes keep

abbrev pub marked_expr : Expr → List Mark
marked_expr = put_expr mark

abbrev pub marked_type : TypeTree → List Mark
marked_type = put_type mark
