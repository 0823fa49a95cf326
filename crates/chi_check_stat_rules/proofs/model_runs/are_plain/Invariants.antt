use Rattle.std.proofs.Common.{◌≡◌, drop}
use Rattle.std.specs.List.{list_all}
use Rattle.chi_types.specs.Plain.{is_plain}
use Rattle.chi_check_stat_rules.proofs.model_runs.are_plain.Given as goal

abbrev pub invariant-loop-ty : goal.invariant-loop-ty
invariant-loop-ty l = list_all is_plain l.types ≡ list_all is_plain (drop l.ty-index l.types)
