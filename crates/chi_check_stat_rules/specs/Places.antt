-- The first tokens of expressions and of types.
use Rattle.chi_token.specs.declared.place.Place.{Place}
use Rattle.chi_tree.specs.declared.type_tree.TypeTree.{TypeTree, TypeTree-F, out-TypeTree}
use Rattle.chi_tree.specs.declared.expr.Expr.{Expr, Expr-F, fold-Expr}

-- what an expression begins with is the first token of its first part, unless it has one of its own there
abbrev pub expr_step : {P T E L F : Type 0} → Expr-F Place P T E L F → Place
expr_step (Expr-F.Chain first links) = first
expr_step (Expr-F.Prefix sign place operand) = place
expr_step (Expr-F.Relation left sign place right) = left
expr_step (Expr-F.Power base place exponent) = base
expr_step (Expr-F.Part whole postfixes) = whole
expr_step (Expr-F.Int digits place) = place
expr_step (Expr-F.Real digits place) = place
expr_step (Expr-F.Text bytes place) = place
expr_step (Expr-F.Bool truth place) = place
expr_step (Expr-F.Time place) = place
expr_step (Expr-F.Named name) = name.place
expr_step (Expr-F.Call name arguments) = name.place
expr_step (Expr-F.Cast word place operand) = place
expr_step (Expr-F.Round place inner) = place
expr_step (Expr-F.TupleOf place parts) = place
expr_step (Expr-F.ListOf place elements) = place
expr_step (Expr-F.SetOf place elements) = place
expr_step (Expr-F.DictOf place entries) = place
expr_step (Expr-F.EmptyList place element) = place
expr_step (Expr-F.EmptySet place element) = place
expr_step (Expr-F.EmptyDict place key value) = place

abbrev pub expr_place : Expr → Place
expr_place = fold-Expr Place (Unit {0}) (Unit {0}) (Unit {0}) (Unit {0}) (Unit {0}) expr_step (λ p. tt) (λ t. tt) (λ e. tt) (λ l. tt) (λ f. tt)

abbrev pub type_step : {X P T E L F : Type 0} → TypeTree-F X P T E L F → Place
type_step (TypeTree-F.Word word place) = place
type_step (TypeTree-F.Defined name) = name.place
type_step (TypeTree-F.List place size element) = place
type_step (TypeTree-F.Set place element) = place
type_step (TypeTree-F.Dist place drawn) = place
type_step (TypeTree-F.Dict place key value) = place
type_step (TypeTree-F.Tuple place fields) = place
type_step (TypeTree-F.Chan place way carried) = place

abbrev pub type_place : TypeTree → Place
type_place t = type_step (out-TypeTree t)
