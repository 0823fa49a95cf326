use Rattle.std.proofs.Common.{sym, ◌∙◌}
use Rattle.chi_check_expr.proofs.CallEquations.{predefined_unknown, name_known, unnamed}
use Rattle.chi_check_expr.proofs.calls.function_known.Goals as goal

pub returns-then-is_predefined : goal.returns-then-is_predefined
returns-then-is_predefined c = predefined_unknown c.args.site c.args.scope.now c.args.by.now c.in-Named.name c.in-Named.is (sym c.is_predefined.ensures ∙ c.if-is_predefined.true)

pub returns-else-is_predefined : goal.returns-else-is_predefined
returns-else-is_predefined c = c.known.ensures ∙ name_known c.args.site c.args.scope.now c.args.by.now c.in-Named.name c.in-Named.is (sym c.is_predefined.ensures ∙ c.if-is_predefined.false)

pub returns-in_default : goal.returns-in_default
returns-in_default c = unnamed c.args.site c.args.scope.now c.args.by.now c.in_default.not-Named
