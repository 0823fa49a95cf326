use Rattle.std.proofs.Common.{◌≡◌}
use Rattle.chi_check_expr_rules.specs.Conversions.{passed}
use Rattle.chi_check_expr_rules.proofs.Before.{before}
use Rattle.chi_check_expr_rules.proofs.conversions.passed.Given as goal

abbrev pub invariant-loop-operand : goal.invariant-loop-operand
invariant-loop-operand l = passed l.fn.operands l.fn.wanted ≡ before l.cores.items (passed l.operand-iterator.rest.items l.others)
