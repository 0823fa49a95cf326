-- The spots that are kept.
use Rattle.chi_ops.specs.Paths.{steps_of}
use Rattle.chi_core.specs.Spots as spots
use Rattle.chi_core_frame.specs.declared.spots.Spot.{Spot}

abbrev pub spot_in : Spot → spots.Spot
spot_in spot = record { slot = spot.slot; path = steps_of spot.path.items }
