use Rattle.std.proofs.Common.{◌≡◌, take, map}
use Rattle.chi_core_frame.specs.Spots.{spot_in}
use Rattle.chi_plain_eval.specs.Settings.{whole_spot}
use Rattle.chi_plain_eval.proofs.setting.whole_spots.Given as goal

abbrev pub invariant-loop-target : goal.invariant-loop-target
invariant-loop-target l = map spot_in l.spots.items ≡ map whole_spot (take l.target-index l.targets)
