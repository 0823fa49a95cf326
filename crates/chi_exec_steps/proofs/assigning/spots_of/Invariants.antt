use Rattle.std.proofs.Common.{◌≡◌, drop, reverse, map}
use Rattle.chi_core_frame.specs.Spots.{spot_in}
use Rattle.chi_exec_law.specs.Instructions.{spots_from}
use Rattle.chi_exec_steps.proofs.Aims.{on_spots}
use Rattle.chi_exec_steps.proofs.assigning.spots_of.Given as goal

abbrev pub invariant-loop-aim : goal.invariant-loop-aim
invariant-loop-aim l = spots_from l.aims l.fn.keys.items ≡ on_spots (map spot_in l.spots.items) (spots_from (drop l.aim-index l.aims) (reverse l.left.items))
