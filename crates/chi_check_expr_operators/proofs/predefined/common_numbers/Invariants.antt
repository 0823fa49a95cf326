use Rattle.std.proofs.Common.{◌≡◌, drop}
use Rattle.chi_check_expr_rules.specs.PredefinedCalls.{common_number, common_numbers}
use Rattle.chi_check_expr_operators.proofs.predefined.common_numbers.Given as goal

abbrev pub invariant-loop-other : goal.invariant-loop-other
invariant-loop-other l = common_numbers l.fn.numbers ≡ common_number l.ty (drop l.other-index l.others)
