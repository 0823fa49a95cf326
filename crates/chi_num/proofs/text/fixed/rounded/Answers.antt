use Rattle.std.proofs.Common.{◌≡◌, ◌∙◌, ap, nat_abs, w64}
use Rattle.std.proofs.lemmas.Int.{to_z-of_z}
use Rattle.chi_num.specs.Nearest.{nearest}
use Rattle.chi_num.proofs.Nearest.{rounded_is}
use Rattle.chi_num.proofs.text.fixed.rounded.Goals as goal

pub returns-clause-nearest : goal.returns-clause-nearest
returns-clause-nearest c =
    let same = to_z-of_z w64 c.args.units c.ranges.units in
    let size : c.unsigned_abs.result ≡ nat_abs c.args.units = c.unsigned_abs.ensures.value ∙ ap nat_abs same in
    let rounded = c.nearest-size.ensures.nearest ∙ ap (λ n. nearest n c.args.step) size in
    rw same (rounded_is c.args.units c.args.step c.nearest-size.result c.requires rounded)
