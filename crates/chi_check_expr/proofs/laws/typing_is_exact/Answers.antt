use Rattle.chi_check_expr.proofs.Exact.{exact_typing, exact_reading}
use Rattle.chi_check_expr.proofs.laws.typing_is_exact.Goals as goal

pub returns-clause-expressions : goal.returns-clause-expressions
returns-clause-expressions c = exact_typing

pub returns-clause-types : goal.returns-clause-types
returns-clause-types c = exact_reading
