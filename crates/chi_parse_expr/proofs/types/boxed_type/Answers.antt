use Rattle.chi_parse_expr.proofs.types.boxed_type.Goals as goal

pub returns : goal.returns
returns c = c.boxed.ensures _ _ _ _ _ c.any_type.ensures
