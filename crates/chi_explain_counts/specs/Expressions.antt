-- What is counted at a place of an expression, or of a type, in whose sizes expressions stand: the arguments of a call.
use Rattle.std.specs.Prelude.{List, Option, None, length, map}
use Rattle.std.specs.Option.{option_map, option_or}
use Rattle.chi_token.specs.declared.place.Place.{Place}
use Rattle.chi_tree.specs.declared.type_tree.TypeTree.{TypeTree, TypeTree-F, fold-TypeTree}
use Rattle.chi_tree.specs.declared.type_tree.Formal.{Formal, Formal-F, fold-Formal}
use Rattle.chi_tree.specs.declared.expr.Expr.{Expr, Expr-F, fold-Expr}
use Rattle.chi_tree.specs.declared.expr.Postfix.{Postfix, Postfix-F, fold-Postfix}
use Rattle.chi_tree.specs.declared.expr.Entry.{Entry, Entry-F, fold-Entry}
use Rattle.chi_tree.specs.declared.expr.Link.{Link, Link-F, fold-Link}
use Rattle.chi_explain_counts.specs.declared.counted.Counted.TheVariants as counted
use Rattle.chi_explain_counts.specs.Found.{Found, here, first_found, where_some}

module _ (place : Place) where
  abbrev pub expr_step : Expr-F Found Found Found Found Found Found → Found
  expr_step (Expr-F.Chain first links) = option_or first (first_found links)
  expr_step (Expr-F.Prefix sign at operand) = operand
  expr_step (Expr-F.Relation left sign at right) = option_or left right
  expr_step (Expr-F.Power base at exponent) = option_or base exponent
  expr_step (Expr-F.Part whole postfixes) = option_or whole (first_found postfixes)
  expr_step (Expr-F.Call name arguments) = option_or (here place name.place (counted.Arguments (length arguments))) (first_found arguments)
  expr_step (Expr-F.Cast word at operand) = operand
  expr_step (Expr-F.Round at inner) = inner
  expr_step (Expr-F.TupleOf at parts) = first_found parts
  expr_step (Expr-F.ListOf at elements) = first_found elements
  expr_step (Expr-F.SetOf at elements) = first_found elements
  expr_step (Expr-F.DictOf at entries) = first_found entries
  expr_step (Expr-F.EmptyList at element) = element
  expr_step (Expr-F.EmptySet at element) = element
  expr_step (Expr-F.EmptyDict at key value) = option_or key value
  expr_step _ = None

  abbrev pub postfix_step : Postfix-F Found Found Found Found Found Found → Found
  postfix_step (Postfix-F.Index at index) = index
  postfix_step (Postfix-F.Slice at from upto second_colon by) = option_or (where_some from) (option_or (where_some upto) (where_some by))
  postfix_step (Postfix-F.Field name) = None

  abbrev pub type_step : TypeTree-F Found Found Found Found Found Found → Found
  type_step (TypeTree-F.List at size element) = option_or (where_some size) element
  type_step (TypeTree-F.Set at element) = element
  type_step (TypeTree-F.Dist at drawn) = drawn
  type_step (TypeTree-F.Dict at key value) = option_or key value
  type_step (TypeTree-F.Tuple at fields) = first_found fields
  type_step (TypeTree-F.Chan at way carried) = where_some carried
  type_step _ = None

  abbrev pub entry_step : Entry-F Found Found Found Found Found Found → Found
  entry_step e = option_or e.key e.value

  abbrev pub link_step : Link-F Found Found Found Found Found Found → Found
  link_step l = l.operand

  abbrev pub formal_step : Formal-F Found Found Found Found Found Found → Found
  formal_step f = where_some f.ty

  abbrev pub counted_in_expr : Expr → Found
  counted_in_expr = fold-Expr Found Found Found Found Found Found expr_step postfix_step type_step entry_step link_step formal_step

  abbrev pub counted_in_postfix : Postfix → Found
  counted_in_postfix = fold-Postfix Found Found Found Found Found Found expr_step postfix_step type_step entry_step link_step formal_step

  abbrev pub counted_in_type : TypeTree → Found
  counted_in_type = fold-TypeTree Found Found Found Found Found Found expr_step postfix_step type_step entry_step link_step formal_step

  abbrev pub counted_in_entry : Entry → Found
  counted_in_entry = fold-Entry Found Found Found Found Found Found expr_step postfix_step type_step entry_step link_step formal_step

  abbrev pub counted_in_link : Link → Found
  counted_in_link = fold-Link Found Found Found Found Found Found expr_step postfix_step type_step entry_step link_step formal_step

  abbrev pub counted_in_formal : Formal → Found
  counted_in_formal = fold-Formal Found Found Found Found Found Found expr_step postfix_step type_step entry_step link_step formal_step

  -- of several, and of one that may be left out

  abbrev pub counted_in_exprs : List Expr → Found
  counted_in_exprs es = first_found (map counted_in_expr es)

  abbrev pub counted_in_postfixes : List Postfix → Found
  counted_in_postfixes ps = first_found (map counted_in_postfix ps)

  abbrev pub counted_in_formals : List Formal → Found
  counted_in_formals fs = first_found (map counted_in_formal fs)

  abbrev pub counted_where_expr : Option Expr → Found
  counted_where_expr e = where_some (option_map counted_in_expr e)

  abbrev pub counted_where_type : Option TypeTree → Found
  counted_where_type t = where_some (option_map counted_in_type t)
