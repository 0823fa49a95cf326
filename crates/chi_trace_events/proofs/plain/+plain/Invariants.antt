use Rattle.std.proofs.Common.{◌≡◌, drop, map}
use Rattle.std.specs.List.{list_all}
use Rattle.chi_value.specs.Plain.{is_plain, itself}
use Rattle.chi_trace_events.proofs.plain.+plain.Given as goal

abbrev pub invariant-are_plain-loop-value : goal.invariant-are_plain-loop-value
invariant-are_plain-loop-value l =
    list_all itself (map is_plain (drop l.value-index l.values)) ≡ list_all itself (map is_plain l.values)
