-- The height of the core that is made of an expression, at most: how many operators and parts lie over one another in it.
use Rattle.std.specs.Prelude.{ℕ, ◌+◌, length, max, List, [], ◌∷◌, Option, None, Some}
use Rattle.chi_tree.specs.declared.type_tree.TypeTree.{TypeTree, TypeTree-F, fold-TypeTree}
use Rattle.chi_tree.specs.declared.type_tree.Formal.{Formal, Formal-F, fold-Formal}
use Rattle.chi_tree.specs.declared.expr.Expr.{Expr, Expr-F, fold-Expr}
use Rattle.chi_tree.specs.declared.expr.Postfix.{Postfix, Postfix-F, fold-Postfix}
use Rattle.chi_tree.specs.declared.expr.Entry.{Entry, Entry-F, fold-Entry}
use Rattle.chi_tree.specs.declared.expr.Link.{Link, Link-F, fold-Link}

-- the greatest of the heights of parts that stand beside each other
abbrev pub highest : List ℕ → ℕ
highest [] = 0
highest (part ∷ parts) = max part (highest parts)

-- of a part that may be left out
abbrev pub where_some : Option ℕ → ℕ
where_some None = 0
where_some (Some part) = part

-- Operands of one level group from the left, and so do parts of parts: each takes what stands before it as an operand, so
-- that what is first lies under all of them.
abbrev pub piled : ℕ → List ℕ → ℕ
piled first parts = length parts + max first (highest parts)

abbrev pub expr_step : Expr-F ℕ ℕ ℕ ℕ ℕ ℕ → ℕ
expr_step (Expr-F.Chain first links) = piled first links
expr_step (Expr-F.Prefix sign place operand) = 1 + operand
expr_step (Expr-F.Relation left sign place right) = 1 + max left right
expr_step (Expr-F.Power base place exponent) = 1 + max base exponent
expr_step (Expr-F.Part whole postfixes) = piled whole postfixes
expr_step (Expr-F.Call name arguments) = 1 + highest arguments
expr_step (Expr-F.Cast word place operand) = 1 + operand
expr_step (Expr-F.Round place inner) = 1 + inner
expr_step (Expr-F.TupleOf place parts) = 1 + highest parts
expr_step (Expr-F.ListOf place elements) = 1 + highest elements
expr_step (Expr-F.SetOf place elements) = 1 + highest elements
expr_step (Expr-F.DictOf place entries) = 1 + highest entries
expr_step (Expr-F.EmptyList place element) = 1 + element
expr_step (Expr-F.EmptySet place element) = 1 + element
expr_step (Expr-F.EmptyDict place key value) = 1 + max key value
expr_step _ = 1

abbrev pub postfix_step : Postfix-F ℕ ℕ ℕ ℕ ℕ ℕ → ℕ
postfix_step (Postfix-F.Index place index) = index
postfix_step (Postfix-F.Slice place from upto second_colon by) = max (where_some from) (max (where_some upto) (where_some by))
postfix_step (Postfix-F.Field name) = 0

abbrev pub type_step : TypeTree-F ℕ ℕ ℕ ℕ ℕ ℕ → ℕ
type_step (TypeTree-F.List place size element) = 1 + max (where_some size) element
type_step (TypeTree-F.Set place element) = 1 + element
type_step (TypeTree-F.Dist place drawn) = 1 + drawn
type_step (TypeTree-F.Dict place key value) = 1 + max key value
type_step (TypeTree-F.Tuple place fields) = 1 + highest fields
type_step (TypeTree-F.Chan place way carried) = 1 + where_some carried
type_step _ = 1

abbrev pub entry_step : Entry-F ℕ ℕ ℕ ℕ ℕ ℕ → ℕ
entry_step e = max e.key e.value

abbrev pub link_step : Link-F ℕ ℕ ℕ ℕ ℕ ℕ → ℕ
link_step l = l.operand

abbrev pub formal_step : Formal-F ℕ ℕ ℕ ℕ ℕ ℕ → ℕ
formal_step f = where_some f.ty

abbrev pub height : Expr → ℕ
height = fold-Expr ℕ ℕ ℕ ℕ ℕ ℕ expr_step postfix_step type_step entry_step link_step formal_step

abbrev pub part_height : Postfix → ℕ
part_height = fold-Postfix ℕ ℕ ℕ ℕ ℕ ℕ expr_step postfix_step type_step entry_step link_step formal_step

abbrev pub type_height : TypeTree → ℕ
type_height = fold-TypeTree ℕ ℕ ℕ ℕ ℕ ℕ expr_step postfix_step type_step entry_step link_step formal_step

abbrev pub entry_height : Entry → ℕ
entry_height = fold-Entry ℕ ℕ ℕ ℕ ℕ ℕ expr_step postfix_step type_step entry_step link_step formal_step

abbrev pub link_height : Link → ℕ
link_height = fold-Link ℕ ℕ ℕ ℕ ℕ ℕ expr_step postfix_step type_step entry_step link_step formal_step

abbrev pub formal_height : Formal → ℕ
formal_height = fold-Formal ℕ ℕ ℕ ℕ ℕ ℕ expr_step postfix_step type_step entry_step link_step formal_step
