-- The nesting of each token of an expression and of a type, from left to right.
use Rattle.std.specs.Prelude.{Bool, true, false, List, [], ◌∷◌, ◌++◌, Option, Some, None, map}
use Rattle.chi_tree.specs.declared.expr.Expr.{Expr, Expr-F, fold-Expr}
use Rattle.chi_tree.specs.declared.expr.Postfix.{Postfix, Postfix-F, fold-Postfix}
use Rattle.chi_tree.specs.declared.expr.Entry.{Entry, Entry-F, fold-Entry}
use Rattle.chi_tree.specs.declared.expr.Link.{Link, Link-F, fold-Link}
use Rattle.chi_tree.specs.declared.type_tree.TypeTree.{TypeTree, TypeTree-F, fold-TypeTree}
use Rattle.chi_tree.specs.declared.type_tree.Formal.{Formal, Formal-F, fold-Formal}
use Rattle.chi_tree.specs.declared.type_tree.Way.{Way}
use Rattle.chi_tree.specs.declared.type_tree.Way.TheVariants as way
use Rattle.chi_tree_laws.specs.Nestings.{Nestings, outside, in_level, bracketed, if_any, all, separated}

-- a formal: the nestings in its type, where one stands before it
abbrev pub Declared : Type 0
Declared = Option Nestings

-- a name after `,`, or a type and a name after `;`
abbrev pub further : Declared → Nestings
further ty = outside ∷ if_any ty ++ outside ∷ []

abbrev pub formals : List Declared → Nestings
formals [] = []
formals (ty ∷ more) = if_any ty ++ outside ∷ all (map further more)

-- the type of a field stands in the type of its tuple
abbrev pub as_field : Declared → Declared
as_field None = None
as_field (Some ty) = Some (in_level ty)

abbrev pub fields : List Declared → Nestings
fields fs = formals (map as_field fs)

abbrev pub expr_step : Expr-F Nestings Nestings Nestings Nestings Nestings Declared → Nestings
expr_step (Expr-F.Chain first links) = first ++ all links
-- a prefix operator stands in its own operand
expr_step (Expr-F.Prefix sign place operand) = in_level (outside ∷ operand)
expr_step (Expr-F.Relation left sign place right) = left ++ outside ∷ right
-- the first token after `^` is the first that is deeper
expr_step (Expr-F.Power base place exponent) = base ++ outside ∷ in_level exponent
expr_step (Expr-F.Part whole postfixes) = whole ++ all postfixes
expr_step (Expr-F.Int digits place) = outside ∷ []
expr_step (Expr-F.Real digits place) = outside ∷ []
expr_step (Expr-F.Text text place) = outside ∷ []
expr_step (Expr-F.Bool truth place) = outside ∷ []
expr_step (Expr-F.Time place) = outside ∷ []
expr_step (Expr-F.Named name) = outside ∷ []
expr_step (Expr-F.Call name arguments) = outside ∷ bracketed (separated arguments)
expr_step (Expr-F.Cast word place e) = outside ∷ bracketed e
expr_step (Expr-F.Round place e) = bracketed e
expr_step (Expr-F.TupleOf place parts) = bracketed (separated parts)
expr_step (Expr-F.ListOf place items) = bracketed (separated items)
expr_step (Expr-F.SetOf place items) = bracketed (separated items)
expr_step (Expr-F.DictOf place entries) = bracketed (separated entries)
-- `<` and `>` open and close nothing
expr_step (Expr-F.EmptyList place t) = outside ∷ t ++ outside ∷ bracketed []
expr_step (Expr-F.EmptySet place t) = outside ∷ t ++ outside ∷ bracketed []
expr_step (Expr-F.EmptyDict place k v) = outside ∷ k ++ (outside ∷ v ++ outside ∷ bracketed [])

-- the second colon of a slice, where one stands, and what is after it
abbrev pub by_nestings : Bool → Option Nestings → Nestings
by_nestings false by = []
by_nestings true by = outside ∷ if_any by

abbrev pub postfix_step : Postfix-F Nestings Nestings Nestings Nestings Nestings Declared → Nestings
postfix_step (Postfix-F.Index place e) = bracketed e
postfix_step (Postfix-F.Slice place from upto has_by by) = bracketed (if_any from ++ (outside ∷ if_any upto ++ by_nestings has_by by))
postfix_step (Postfix-F.Field name) = outside ∷ outside ∷ []

abbrev pub size_nestings : Option Nestings → Nestings
size_nestings None = []
size_nestings (Some size) = bracketed size

abbrev pub way_nestings : Way → Nestings
way_nestings way.Both = []
way_nestings way.Send = outside ∷ []
way_nestings way.Receive = outside ∷ []

-- `void` is no type, so it is no deeper
abbrev pub carried_nestings : Option Nestings → Nestings
carried_nestings None = outside ∷ []
carried_nestings (Some t) = in_level t

-- the first token of a type inside a type is the first that is deeper
abbrev pub type_step : TypeTree-F Nestings Nestings Nestings Nestings Nestings Declared → Nestings
type_step (TypeTree-F.Word word place) = outside ∷ []
type_step (TypeTree-F.Defined name) = outside ∷ []
type_step (TypeTree-F.List place size t) = outside ∷ size_nestings size ++ in_level t
type_step (TypeTree-F.Set place t) = outside ∷ in_level t
type_step (TypeTree-F.Dist place t) = outside ∷ in_level t
type_step (TypeTree-F.Dict place k v) = outside ∷ bracketed (in_level k ++ outside ∷ in_level v)
type_step (TypeTree-F.Tuple place fs) = outside ∷ bracketed (fields fs)
type_step (TypeTree-F.Chan place way t) = outside ∷ way_nestings way ++ carried_nestings t

abbrev pub entry_step : Entry-F Nestings Nestings Nestings Nestings Nestings Declared → Nestings
entry_step e = e.key ++ outside ∷ e.value

abbrev pub link_step : Link-F Nestings Nestings Nestings Nestings Nestings Declared → Nestings
link_step l = outside ∷ l.operand

abbrev pub formal_step : Formal-F Nestings Nestings Nestings Nestings Nestings Declared → Declared
formal_step f = f.ty

abbrev pub expr_nestings : Expr → Nestings
expr_nestings = fold-Expr Nestings Nestings Nestings Nestings Nestings Declared expr_step postfix_step type_step entry_step link_step formal_step

abbrev pub postfix_nestings : Postfix → Nestings
postfix_nestings = fold-Postfix Nestings Nestings Nestings Nestings Nestings Declared expr_step postfix_step type_step entry_step link_step formal_step

abbrev pub type_nestings : TypeTree → Nestings
type_nestings = fold-TypeTree Nestings Nestings Nestings Nestings Nestings Declared expr_step postfix_step type_step entry_step link_step formal_step

abbrev pub entry_nestings : Entry → Nestings
entry_nestings = fold-Entry Nestings Nestings Nestings Nestings Nestings Declared expr_step postfix_step type_step entry_step link_step formal_step

abbrev pub link_nestings : Link → Nestings
link_nestings = fold-Link Nestings Nestings Nestings Nestings Nestings Declared expr_step postfix_step type_step entry_step link_step formal_step

abbrev pub declared : Formal → Declared
declared = fold-Formal Nestings Nestings Nestings Nestings Nestings Declared expr_step postfix_step type_step entry_step link_step formal_step

abbrev pub formal_nestings : List Formal → Nestings
formal_nestings fs = formals (map declared fs)
