use Rattle.std.proofs.Common.{◌≡◌, ◌≢◌}
use Rattle.std.specs.Prelude.{map, reverse}
use Rattle.chi_core.specs.Answer.{Amiss}
use Rattle.chi_core.specs.Variables.{side_by_side}
use Rattle.chi_core_frame.specs.Assignments.{each_stored}
use Rattle.chi_core_frame.specs.Spots.{spot_in}
use Rattle.chi_core_frame.proofs.assigning.store_each.Given as goal

abbrev pub invariant-loop-spot : goal.invariant-loop-spot
invariant-loop-spot l =
    let left = side_by_side (map spot_in l.spot-iterator.rest.items) (reverse l.left.items) in
    (each_stored left l.variables l.view ≢ Amiss)
    × (each_stored (side_by_side (map spot_in l.fn.spots.items) l.fn.values.items) l.fn.variables l.fn.view ≡ each_stored left l.variables l.view)
