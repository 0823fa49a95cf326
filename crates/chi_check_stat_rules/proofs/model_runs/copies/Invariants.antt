use Rattle.std.proofs.Common.{◌≡◌, ◌++◌, drop}
use Rattle.chi_check_stat_rules.proofs.model_runs.copies.Given as goal

abbrev pub invariant-loop-ty : goal.invariant-loop-ty
invariant-loop-ty l = l.types ≡ l.copies.items ++ drop l.ty-index l.types
