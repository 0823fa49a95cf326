-- Exponential draws computed on the definition, beside those of an independent program.
use Rattle.std.proofs.Common.{◌≡◌, refl, [], ◌∷◌, pos, ◌^◌, ◌-◌}
use Rattle.std.specs.Int.Count.{count_leading_zeros}
use Rattle.chi_num.specs.declared.dist.Dist.TheVariants as dist
use Rattle.chi_dist.specs.declared.fault.DistFault.TheVariants.{BadBounds}
use Rattle.chi_dist.specs.Draws.{sampled, refuses}
use Rattle.chi_dist.specs.Exponential.{log_digits, exponential_units}

unit_first : exponential_units (pos 1) 0 ≡ pos 44
unfolding log_digits count_leading_zeros
unit_first = refl

unit_second : exponential_units (pos 1) 1 ≡ pos 43
unfolding log_digits count_leading_zeros
unit_second = refl

unit_quarter : exponential_units (pos 1) (2 ^ 62 - 1) ≡ pos 1
unfolding log_digits count_leading_zeros
unit_quarter = refl

unit_half : exponential_units (pos 1) (2 ^ 63 - 1) ≡ pos 0
unfolding log_digits count_leading_zeros
unit_half = refl

unit_last_but_one : exponential_units (pos 1) (2 ^ 64 - 2) ≡ pos 0
unfolding log_digits count_leading_zeros
unit_last_but_one = refl

unit_last : exponential_units (pos 1) (2 ^ 64 - 1) ≡ pos 0
unfolding log_digits count_leading_zeros
unit_last = refl

one_first : exponential_units (pos 1_000_000_000) 0 ≡ pos 44_361_419_584
unfolding log_digits count_leading_zeros
one_first = refl

one_second : exponential_units (pos 1_000_000_000) 1 ≡ pos 43_668_272_403
unfolding log_digits count_leading_zeros
one_second = refl

one_quarter : exponential_units (pos 1_000_000_000) (2 ^ 62 - 1) ≡ pos 1_386_294_362
unfolding log_digits count_leading_zeros
one_quarter = refl

one_half : exponential_units (pos 1_000_000_000) (2 ^ 63 - 1) ≡ pos 693_147_181
unfolding log_digits count_leading_zeros
one_half = refl

one_last_but_one : exponential_units (pos 1_000_000_000) (2 ^ 64 - 2) ≡ pos 0
unfolding log_digits count_leading_zeros
one_last_but_one = refl

one_last : exponential_units (pos 1_000_000_000) (2 ^ 64 - 1) ≡ pos 0
unfolding log_digits count_leading_zeros
one_last = refl

most_first : exponential_units (pos 100_000_000_000_000_000) 0 ≡ pos 4_436_141_958_400_000_000
unfolding log_digits count_leading_zeros
most_first = refl

most_second : exponential_units (pos 100_000_000_000_000_000) 1 ≡ pos 4_366_827_240_300_000_000
unfolding log_digits count_leading_zeros
most_second = refl

most_quarter : exponential_units (pos 100_000_000_000_000_000) (2 ^ 62 - 1) ≡ pos 138_629_436_200_000_000
unfolding log_digits count_leading_zeros
most_quarter = refl

most_half : exponential_units (pos 100_000_000_000_000_000) (2 ^ 63 - 1) ≡ pos 69_314_718_100_000_000
unfolding log_digits count_leading_zeros
most_half = refl

most_last_but_one : exponential_units (pos 100_000_000_000_000_000) (2 ^ 64 - 2) ≡ pos 0
unfolding log_digits count_leading_zeros
most_last_but_one = refl

most_last : exponential_units (pos 100_000_000_000_000_000) (2 ^ 64 - 1) ≡ pos 0
unfolding log_digits count_leading_zeros
most_last = refl

no_mean : sampled 42 (0 ∷ []) (dist.Exponential (pos 0) 0) ≡ refuses BadBounds
unfolding sampled
no_mean = refl

past_most : sampled 42 (0 ∷ []) (dist.Exponential (pos 100_000_000_000_000_001) 0) ≡ refuses BadBounds
unfolding sampled
past_most = refl
