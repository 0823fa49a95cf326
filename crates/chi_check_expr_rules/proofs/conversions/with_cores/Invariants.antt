use Rattle.std.proofs.Common.{◌≡◌, ◌++◌, map}
use Rattle.chi_check_expr_rules.proofs.conversions.with_cores.Given as goal

abbrev pub invariant-loop-part : goal.invariant-loop-part
invariant-loop-part l = l.fn.before.items ++ map (λ m. m.core) l.fn.parts ≡ l.cores.items ++ map (λ m. m.core) l.part-iterator.rest.items
