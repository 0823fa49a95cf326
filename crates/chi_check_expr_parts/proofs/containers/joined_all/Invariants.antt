use Rattle.std.proofs.Common.{◌≡◌, drop}
use Rattle.chi_check_expr_rules.specs.Containers.{joined_from, joined_all}
use Rattle.chi_check_expr_parts.proofs.containers.joined_all.Given as goal

abbrev pub invariant-loop-other : goal.invariant-loop-other
invariant-loop-other l = joined_all l.fn.parts ≡ joined_from l.ty (drop l.other-index l.others)
