use Rattle.std.proofs.Common.{◌≡◌, drop}
use Rattle.chi_check_expr_rules.specs.Parts.{position_from}
use Rattle.chi_check_expr_rules.proofs.fields.position_of.Given as goal

-- the parts before this one have other names
abbrev pub invariant-loop-number : goal.invariant-loop-number
invariant-loop-number l = position_from 0 l.name l.parts ≡ position_from l.number l.name (drop l.number l.parts)
