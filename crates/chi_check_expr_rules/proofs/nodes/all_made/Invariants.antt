use Rattle.std.proofs.Common.{◌≡◌}
use Rattle.chi_check_expr_rules.specs.Nodes.{all_made}
use Rattle.chi_check_expr_rules.proofs.Before.{before}
use Rattle.chi_check_expr_rules.proofs.nodes.all_made.Given as goal

abbrev pub invariant-loop-part : goal.invariant-loop-part
invariant-loop-part l = all_made l.fn.parts ≡ before l.all.items (all_made l.part-iterator.rest.items)
