use Rattle.chi_parse_expr.proofs.postfixes.boxed_expr.Goals as goal

pub returns : goal.returns
returns c = c.boxed.ensures _ _ _ _ _ c.expr.ensures
