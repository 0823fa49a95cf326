-- Draws and samplings computed on the definitions.
use Rattle.std.proofs.Common.{◌≡◌, refl, [], ◌∷◌, pos, neg_ℤ, ◌^◌, ◌-◌}
use Rattle.rand_pcg.specs.Lcg.{state_after}
use Rattle.chi_num.specs.declared.dist.Dist.TheVariants as dist
use Rattle.chi_dist.specs.declared.drawn.Drawn.TheVariants as drawn
use Rattle.chi_dist.specs.declared.fault.DistFault.TheVariants.{BadBounds, TooMany}
use Rattle.chi_dist.specs.Draws.{draw, stream_of, sampled, draws, refuses, wrong}

-- the words that PCG's own program writes for seed 42 and stream 54
reference_first : draw 42 54 0 ≡ 0xa15c02b77b47f409
unfolding draw stream_of state_after
reference_first = refl

reference_third : draw 42 54 2 ≡ 0xbfa4784bcbed606e
unfolding draw stream_of state_after
reference_third = refl

-- those of an independent program
other_fourth : draw 123456789 7 3 ≡ 0xe249175e66a80ef2
unfolding draw stream_of state_after
other_fourth = refl

all_trials : sampled 42 (0 ∷ []) (dist.Binomial (pos 2) (pos 1_000_000_000) 0) ≡ draws (drawn.Int (pos 2)) (2 ∷ [])
unfolding draw stream_of sampled state_after
all_trials = refl

-- the whole of 64 bits but its greatest
widest : sampled 42 (0 ∷ []) (dist.UniformInt (neg_ℤ (pos (2 ^ 63))) (pos (2 ^ 63 - 1)) 0) ≡ draws (drawn.Int (neg_ℤ (pos 6793865929418672305))) (1 ∷ [])
unfolding draw stream_of sampled state_after
widest = refl

-- faults in their order, where several parameters are bad
trials_first : sampled 42 (0 ∷ []) (dist.Binomial (neg_ℤ (pos 1)) (pos 2_000_000_000) 0) ≡ refuses BadBounds
unfolding sampled
trials_first = refl

many_before_chance : sampled 42 (0 ∷ []) (dist.Binomial (pos 10_001) (pos 2_000_000_000) 0) ≡ refuses TooMany
unfolding sampled
many_before_chance = refl

no_stream : sampled 42 (0 ∷ []) (dist.Bernoulli (pos 2_000_000_000) 1) ≡ wrong
unfolding sampled
no_stream = refl
