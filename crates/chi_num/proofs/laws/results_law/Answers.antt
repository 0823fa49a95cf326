use Rattle.chi_num.proofs.OfResults.{fits_told, floor_is, ceiling_is, nearest_is_rounded, remainder_is, given}
use Rattle.chi_num.proofs.laws.results_law.Goals as goal

pub returns : goal.returns
returns c =
    record { range = fits_told; floor = floor_is; ceiling = ceiling_is; nearest = nearest_is_rounded; remainder = remainder_is; given = given }
