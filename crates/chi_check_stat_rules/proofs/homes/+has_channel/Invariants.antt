use Rattle.std.proofs.Common.{◌≡◌, map, drop}
use Rattle.std.specs.List.{list_any}
use Rattle.chi_types.specs.Same.{beside}
use Rattle.chi_types.specs.Plain.{holds}
use Rattle.chi_check_stat_rules.specs.Homes.{has_channel}
use Rattle.chi_check_stat_rules.proofs.homes.+has_channel.Given as goal

abbrev pub invariant-any_has_channel-loop-part : goal.invariant-any_has_channel-loop-part
invariant-any_has_channel-loop-part l =
    list_any holds (map (beside has_channel) l.fn.parts) ≡ list_any holds (map (beside has_channel) (drop l.part-index l.parts))
