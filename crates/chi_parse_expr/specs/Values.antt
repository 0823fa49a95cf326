-- What is shown of a part of a production. Private to proofs.
use Rattle.chi_grammar.specs.Rules.{pair}
use Rattle.chi_tree.specs.declared.expr.Expr.{Expr}
use Rattle.chi_tree.specs.View.{Built, expr_of, no_expr}

-- the value of an entry, after its colon
abbrev pub value_of : Built → Expr
value_of (pair c e) = expr_of e
value_of _ = no_expr
