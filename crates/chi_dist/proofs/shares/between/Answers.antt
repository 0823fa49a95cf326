use Rattle.std.proofs.Common.{◌∙◌, ap, ◌*◌, ◌/◌, ◌^◌}
use Rattle.chi_dist.proofs.Between.{not_clamped}
use Rattle.chi_dist.proofs.shares.between.Goals as goal

pub returns : goal.returns
returns c =
    not_clamped c.args.from c.args.to _ c.share_of.result c.args.draw c.ranges.from c.ranges.to c.ranges.draw.fits c.requires
    (c.share_of.ensures ∙ ap (λ n. c.args.draw * n / 2 ^ 64) c.abs_diff.ensures) c.saturating_add_unsigned.ensures
