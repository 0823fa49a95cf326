use Rattle.std.proofs.Common.{◌≡◌, ◌++◌, map}
use Rattle.chi_check_expr_rules.specs.Conversions.{converted}
use Rattle.chi_check_expr_rules.proofs.conversions.all_converted.Given as goal

abbrev pub invariant-loop-part : goal.invariant-loop-part
invariant-loop-part l = map (λ m. converted m l.wanted) l.fn.parts ≡ l.cores.items ++ map (λ m. converted m l.wanted) l.part-iterator.rest.items
