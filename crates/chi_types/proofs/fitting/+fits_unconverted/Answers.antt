use Rattle.std.proofs.Common.{◌≡◌, true, false}
use Rattle.chi_types.specs.Same.{same}
use Rattle.chi_types.specs.Fits.{serves}
use Rattle.chi_types.proofs.Served.{served_dicts_of_one_key, served_dicts_of_two_keys, served_ways, served_no_way}
use Rattle.chi_types.proofs.fitting.+fits_unconverted.Goals as goal

pub fits_unconverted-returns-then-same : goal.fits_unconverted-returns-then-same
fits_unconverted-returns-then-same t c =
    let m = c.in-DictOf-DictOf in
    let holds : same m.k m.l ≡ true = cc in
    record { value = cc (served_dicts_of_one_key _ _ _ _ _ _ m.is-0 m.is-1 holds) }

pub fits_unconverted-returns-else-same : goal.fits_unconverted-returns-else-same
fits_unconverted-returns-else-same t c =
    let m = c.in-DictOf-DictOf in
    let fails : same m.k m.l ≡ false = cc in
    record { value = cc (served_dicts_of_two_keys _ _ _ _ _ _ m.is-0 m.is-1 fails) }

pub fits_unconverted-returns-then-serves : goal.fits_unconverted-returns-then-serves
fits_unconverted-returns-then-serves t c =
    let m = c.in-Chan-Chan in
    let holds : serves m.v m.w ≡ true = cc in
    record { value = cc (served_ways _ _ _ _ _ _ m.is-0 m.is-1 holds) }

pub fits_unconverted-returns-else-serves : goal.fits_unconverted-returns-else-serves
fits_unconverted-returns-else-serves t c =
    let m = c.in-Chan-Chan in
    let fails : serves m.v m.w ≡ false = cc in
    record { value = cc (served_no_way _ _ _ _ _ _ m.is-0 m.is-1 fails) }
