-- A tree without its places: each place that it keeps is nowhere. Two trees are equal but for their places where they are
-- the same without them.
use Rattle.chi_tree.specs.declared.type_tree.Name.{Name}
use Rattle.chi_tree.specs.declared.type_tree.TypeTree.{TypeTree, TypeTree-F, fold-TypeTree}
use Rattle.chi_tree.specs.declared.type_tree.TypeTree.TheVariants as type
use Rattle.chi_tree.specs.declared.type_tree.Formal.{Formal, Formal-F, fold-Formal}
use Rattle.chi_tree.specs.declared.expr.Expr.{Expr, Expr-F, fold-Expr}
use Rattle.chi_tree.specs.declared.expr.Expr.TheVariants as expr
use Rattle.chi_tree.specs.declared.expr.Postfix.{Postfix, Postfix-F, fold-Postfix}
use Rattle.chi_tree.specs.declared.expr.Postfix.TheVariants as postfix
use Rattle.chi_tree.specs.declared.expr.Entry.{Entry, Entry-F, fold-Entry}
use Rattle.chi_tree.specs.declared.expr.Link.{Link, Link-F, fold-Link}
use Rattle.chi_tree.specs.View.{nowhere}

abbrev pub unplaced_name : Name → Name
unplaced_name name = record { text = name.text; place = nowhere }

-- at each node the parts are without their places already

abbrev pub expr_without : Expr-F Expr Postfix TypeTree Entry Link Formal → Expr
expr_without (Expr-F.Chain first links) = expr.Chain first links
expr_without (Expr-F.Prefix sign place operand) = expr.Prefix sign nowhere operand
expr_without (Expr-F.Relation left sign place right) = expr.Relation left sign nowhere right
expr_without (Expr-F.Power base place exponent) = expr.Power base nowhere exponent
expr_without (Expr-F.Part whole postfixes) = expr.Part whole postfixes
expr_without (Expr-F.Int digits place) = expr.Int digits nowhere
expr_without (Expr-F.Real digits place) = expr.Real digits nowhere
expr_without (Expr-F.Text text place) = expr.Text text nowhere
expr_without (Expr-F.Bool truth place) = expr.Bool truth nowhere
expr_without (Expr-F.Time place) = expr.Time nowhere
expr_without (Expr-F.Named name) = expr.Named (unplaced_name name)
expr_without (Expr-F.Call name arguments) = expr.Call (unplaced_name name) arguments
expr_without (Expr-F.Cast word place e) = expr.Cast word nowhere e
expr_without (Expr-F.Round place e) = expr.Round nowhere e
expr_without (Expr-F.TupleOf place parts) = expr.TupleOf nowhere parts
expr_without (Expr-F.ListOf place items) = expr.ListOf nowhere items
expr_without (Expr-F.SetOf place items) = expr.SetOf nowhere items
expr_without (Expr-F.DictOf place entries) = expr.DictOf nowhere entries
expr_without (Expr-F.EmptyList place t) = expr.EmptyList nowhere t
expr_without (Expr-F.EmptySet place t) = expr.EmptySet nowhere t
expr_without (Expr-F.EmptyDict place k v) = expr.EmptyDict nowhere k v

abbrev pub postfix_without : Postfix-F Expr Postfix TypeTree Entry Link Formal → Postfix
postfix_without (Postfix-F.Index place e) = postfix.Index nowhere e
postfix_without (Postfix-F.Slice place from upto has_by by) = postfix.Slice nowhere from upto has_by by
postfix_without (Postfix-F.Field name) = postfix.Field (unplaced_name name)

abbrev pub type_without : TypeTree-F Expr Postfix TypeTree Entry Link Formal → TypeTree
type_without (TypeTree-F.Word word place) = type.Word word nowhere
type_without (TypeTree-F.Defined name) = type.Defined (unplaced_name name)
type_without (TypeTree-F.List place size t) = type.List nowhere size t
type_without (TypeTree-F.Set place t) = type.Set nowhere t
type_without (TypeTree-F.Dist place t) = type.Dist nowhere t
type_without (TypeTree-F.Dict place k v) = type.Dict nowhere k v
type_without (TypeTree-F.Tuple place fields) = type.Tuple nowhere fields
type_without (TypeTree-F.Chan place way t) = type.Chan nowhere way t

abbrev pub entry_without : Entry-F Expr Postfix TypeTree Entry Link Formal → Entry
entry_without e = record { key = e.key; value = e.value }

abbrev pub link_without : Link-F Expr Postfix TypeTree Entry Link Formal → Link
link_without l = record { operator = l.operator; place = nowhere; operand = l.operand }

abbrev pub formal_without : Formal-F Expr Postfix TypeTree Entry Link Formal → Formal
formal_without f = record { ty = f.ty; name = unplaced_name f.name }

abbrev pub unplaced_expr : Expr → Expr
unplaced_expr = fold-Expr Expr Postfix TypeTree Entry Link Formal expr_without postfix_without type_without entry_without link_without formal_without

abbrev pub unplaced_postfix : Postfix → Postfix
unplaced_postfix = fold-Postfix Expr Postfix TypeTree Entry Link Formal expr_without postfix_without type_without entry_without link_without formal_without

abbrev pub unplaced_type : TypeTree → TypeTree
unplaced_type = fold-TypeTree Expr Postfix TypeTree Entry Link Formal expr_without postfix_without type_without entry_without link_without formal_without

abbrev pub unplaced_entry : Entry → Entry
unplaced_entry = fold-Entry Expr Postfix TypeTree Entry Link Formal expr_without postfix_without type_without entry_without link_without formal_without

abbrev pub unplaced_link : Link → Link
unplaced_link = fold-Link Expr Postfix TypeTree Entry Link Formal expr_without postfix_without type_without entry_without link_without formal_without

abbrev pub unplaced_formal : Formal → Formal
unplaced_formal = fold-Formal Expr Postfix TypeTree Entry Link Formal expr_without postfix_without type_without entry_without link_without formal_without
