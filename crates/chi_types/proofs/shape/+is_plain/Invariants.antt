use Rattle.std.proofs.Common.{◌≡◌, map, drop}
use Rattle.std.specs.List.{list_all}
use Rattle.chi_types.specs.Same.{beside}
use Rattle.chi_types.specs.Plain.{is_plain, holds}
use Rattle.chi_types.proofs.shape.+is_plain.Given as goal

abbrev pub invariant-are_plain-loop-part : goal.invariant-are_plain-loop-part
invariant-are_plain-loop-part l =
    list_all holds (map (beside is_plain) l.fn.parts) ≡ list_all holds (map (beside is_plain) (drop l.part-index l.parts))
