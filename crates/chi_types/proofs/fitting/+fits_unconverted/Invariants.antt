use Rattle.std.proofs.Common.{◌≡◌, map, drop}
use Rattle.chi_types.specs.Same.{each_passes, beside}
use Rattle.chi_types.specs.Fits.{fits_unconverted}
use Rattle.chi_types.proofs.fitting.+fits_unconverted.Given as goal

abbrev pub invariant-each_fits-loop-part : goal.invariant-each_fits-loop-part
invariant-each_fits-loop-part l =
    each_passes (map (beside fits_unconverted) l.fn.given) l.fn.wanted ≡
    each_passes (map (beside fits_unconverted) (drop l.part-index l.given)) l.others
