use Rattle.std.proofs.Common.{◌≡◌, map, drop}
use Rattle.std.specs.List.{list_any}
use Rattle.chi_types.specs.Same.{beside}
use Rattle.chi_types.specs.Plain.{holds}
use Rattle.chi_check_stat_rules.specs.Values.{lives}
use Rattle.chi_check_stat_rules.proofs.values.+lives.Given as goal

abbrev pub invariant-any_lives-loop-part : goal.invariant-any_lives-loop-part
invariant-any_lives-loop-part l =
    list_any holds (map (beside lives) l.fn.parts) ≡ list_any holds (map (beside lives) (drop l.part-index l.parts))
