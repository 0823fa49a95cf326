-- A stream as it is kept: the state of its generator. Private to proofs.
use Rattle.std.specs.Prelude.{◌≡◌, ℕ, ◌*◌}
use Rattle.rand_pcg.specs.Lcg.{Lcg, advance, increment_of}
use Rattle.rand_pcg.specs.Pcg.{multiplier_64, pcg32}
use Rattle.chi_dist.specs.Draws.{stream_of}
use Rattle.chi_dist.specs.declared.stream.Stream.{Stream}

-- the generator of the stream of this number, at a state
abbrev pub words_at : ℕ → ℕ → Lcg
words_at number state = record { state = state; increment = increment_of 64 number }

-- the stream of this number is kept as its draws so far leave it
abbrev pub IsKept : ℕ → ℕ → Stream → Type 0
IsKept seed number s = words_at number s.state ≡ advance 64 multiplier_64 (2 * s.taken) (stream_of seed number)

-- the words that are left after one more draw
abbrev pub past_draw : Lcg → Lcg
past_draw words = (pcg32 (pcg32 words).1).1
