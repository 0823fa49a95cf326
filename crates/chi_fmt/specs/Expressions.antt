-- The spots of an expression and of a type, from left to right: the tokens that spell it, each in its role. All are usual but
-- the sign before an operand and the two signs round an empty container's type.
use Rattle.std.specs.Prelude.{List, [], ◌∷◌, ◌++◌, map}
use Rattle.chi_token.specs.declared.sign.Sign.TheVariants.{Less, Greater, Colon}
use Rattle.chi_token.specs.declared.token.Token.{Token}
use Rattle.chi_token.specs.declared.token.Token.TheVariants as token
use Rattle.chi_tree.specs.declared.type_tree.TypeTree.{TypeTree, fold-TypeTree}
use Rattle.chi_tree.specs.declared.type_tree.Formal.{Formal, fold-Formal}
use Rattle.chi_tree.specs.declared.operator.PrefixSign.{PrefixSign}
use Rattle.chi_tree.specs.declared.operator.PrefixSign.TheVariants as prefix
use Rattle.chi_tree.specs.declared.expr.Expr.{Expr, Expr-F, fold-Expr}
use Rattle.chi_tree.specs.declared.expr.Postfix.{Postfix, fold-Postfix}
use Rattle.chi_tree.specs.declared.expr.Entry.{Entry, fold-Entry}
use Rattle.chi_tree.specs.declared.expr.Link.{Link, fold-Link}
use Rattle.chi_tree_spell.specs.Marks.{Put}
use Rattle.chi_tree_spell.specs.Words.{prefix_token}
use Rattle.chi_tree_spell.specs.Expressions.{Declared, bare, put_commas, put_round, put_square, put_curly, declared_formals, expr_step, postfix_step, type_step, entry_step, link_step, formal_step}
use Rattle.chi_fmt.specs.declared.spot.Role.{Role}
use Rattle.chi_fmt.specs.declared.spot.Role.TheVariants.{Usual, Prefix, Opens, Closes}
use Rattle.chi_fmt.specs.declared.spot.Spot.{Spot}

abbrev pub Spots : Type 0
Spots = List Spot

abbrev pub spot : Token → Role → Spot
spot token role = record { token = token; role = role }

abbrev pub usual : Put Spot
usual token place = spot token Usual

-- a `-` or `+` stands in front of its operand; `not` and `sample` are words like others
abbrev pub prefix_role : PrefixSign → Role
prefix_role prefix.Minus = Prefix
prefix_role prefix.Plus = Prefix
prefix_role prefix.Not = Usual
prefix_role prefix.Sample = Usual

abbrev pub prefix_spot : PrefixSign → Spot
prefix_spot sign = spot (prefix_token sign) (prefix_role sign)

abbrev pub opening : Spot
opening = spot (token.Sign Less) Opens

abbrev pub closing : Spot
closing = spot (token.Sign Greater) Closes

abbrev pub spots_step : Expr-F Spots Spots Spots Spots Spots (Declared Spot) → Spots
spots_step (Expr-F.Prefix sign place operand) = prefix_spot sign ∷ operand
spots_step (Expr-F.EmptyList place element) = opening ∷ element ++ closing ∷ put_square usual []
spots_step (Expr-F.EmptySet place element) = opening ∷ element ++ closing ∷ put_curly usual []
spots_step (Expr-F.EmptyDict place key value) =
    opening ∷ key ++ bare usual (token.Sign Colon) ∷ value ++ closing ∷ put_curly usual []
spots_step other = expr_step usual other

abbrev pub expr_spots : Expr → Spots
expr_spots = fold-Expr Spots Spots Spots Spots Spots (Declared Spot) spots_step (postfix_step usual) (type_step usual) (entry_step usual) (link_step usual) (formal_step usual)

abbrev pub postfix_spots : Postfix → Spots
postfix_spots = fold-Postfix Spots Spots Spots Spots Spots (Declared Spot) spots_step (postfix_step usual) (type_step usual) (entry_step usual) (link_step usual) (formal_step usual)

abbrev pub type_spots : TypeTree → Spots
type_spots = fold-TypeTree Spots Spots Spots Spots Spots (Declared Spot) spots_step (postfix_step usual) (type_step usual) (entry_step usual) (link_step usual) (formal_step usual)

abbrev pub entry_spots : Entry → Spots
entry_spots = fold-Entry Spots Spots Spots Spots Spots (Declared Spot) spots_step (postfix_step usual) (type_step usual) (entry_step usual) (link_step usual) (formal_step usual)

abbrev pub link_spots : Link → Spots
link_spots = fold-Link Spots Spots Spots Spots Spots (Declared Spot) spots_step (postfix_step usual) (type_step usual) (entry_step usual) (link_step usual) (formal_step usual)

abbrev pub formal_spots : Formal → Declared Spot
formal_spots = fold-Formal Spots Spots Spots Spots Spots (Declared Spot) spots_step (postfix_step usual) (type_step usual) (entry_step usual) (link_step usual) (formal_step usual)

abbrev pub formals_spots : List Formal → Spots
formals_spots fs = declared_formals usual (map formal_spots fs)

-- with commas between
abbrev pub commas : List Spots → Spots
commas = put_commas usual

abbrev pub exprs_spots : List Expr → Spots
exprs_spots es = commas (map expr_spots es)

-- in brackets
abbrev pub round : Spots → Spots
round = put_round usual

abbrev pub curly : Spots → Spots
curly = put_curly usual
