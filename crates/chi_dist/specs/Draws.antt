-- Draws from sixty-four streams of random words, and what a distribution makes of them.
use Rattle.std.specs.Prelude.{ℕ, ◌+◌, ◌*◌, ◌/◌, ◌%◌, ◌^◌, nat_lt, ℤ, pos, ◌+ℤ◌, ◌-ℤ◌, int_lt, int_le, unsigned_abs, Bool, true, ◌&&◌, List, map, count_by, replicate, slice_get, slice_set, Option, Some, None, if◌then◌else◌}
use Rattle.std.specs.List.{range_with_len}
use Rattle.rand_pcg.specs.Lcg.{Lcg, started, increment_of, advance}
use Rattle.rand_pcg.specs.Pcg.{multiplier_64, pcg32}
use Rattle.chi_num.specs.declared.dist.Dist.{Dist}
use Rattle.chi_num.specs.declared.dist.Dist.TheVariants as dist
use Rattle.chi_num.specs.Units.{units_per_one}
use Rattle.chi_dist.specs.declared.drawn.Drawn.{Drawn}
use Rattle.chi_dist.specs.declared.drawn.Drawn.TheVariants as drawn
use Rattle.chi_dist.specs.declared.fault.DistFault.{DistFault}
use Rattle.chi_dist.specs.declared.fault.DistFault.TheVariants.{BadBounds, BadChance, TooMany}
use Rattle.chi_dist.specs.Exponential.{most_mean, exponential_units}

-- how many streams there are
abbrev pub stream_count : ℕ
stream_count = 64

-- the generator of a stream
unfoldable pub stream_of : ℕ → ℕ → Lcg
stream_of seed stream = started 64 multiplier_64 seed (increment_of 64 stream)

-- the next two words of 32 bits of a generator as one of 64, the high one first
abbrev pub next_draw : Lcg → ℕ
next_draw g = let high = pcg32 g in high.0 * 2 ^ 32 + (pcg32 high.1).0

-- draw k of a stream, counted from 0: its words 2k and 2k + 1
unfoldable pub draw : ℕ → ℕ → ℕ → ℕ
draw seed stream k = next_draw (advance 64 multiplier_64 (2 * k) (stream_of seed stream))

-- so many draws of a stream, from draw k on
abbrev pub draws_from : ℕ → ℕ → ℕ → ℕ → List ℕ
draws_from seed stream k count = map (draw seed stream) (range_with_len k count)

-- how many draws are taken from a stream after so many more. They are counted modulo 2 ^ 64, which loses
-- nothing: a stream begins again after 2 ^ 63 draws.
abbrev pub taken_after : ℕ → ℕ → ℕ
taken_after k count = (k + count) % 2 ^ 64

-- the number that a draw picks from a to before b
abbrev pub between : ℤ → ℤ → ℕ → ℤ
between a b word = a +ℤ pos (word * unsigned_abs (b -ℤ a) / 2 ^ 64)

-- whether a trial of this chance, in units, succeeds by a draw
abbrev pub succeeds : ℤ → ℕ → Bool
succeeds chance word = int_lt (pos (word * 1_000_000_000 / 2 ^ 64)) chance

-- the greatest number of trials
abbrev pub most_trials : ℤ
most_trials = pos 10_000

-- what is wrong with bounds, with a chance, with a number of trials and their chance, and with a mean
abbrev pub bounds_fault : ℤ → ℤ → Option DistFault
bounds_fault a b = if int_lt a b then None else Some BadBounds

abbrev pub chance_fault : ℤ → Option DistFault
chance_fault chance = if int_le (pos 0) chance && int_le chance units_per_one then None else Some BadChance

abbrev pub trials_fault : ℤ → ℤ → Option DistFault
trials_fault trials chance =
    if int_lt trials (pos 0) then Some BadBounds
    else if int_lt most_trials trials then Some TooMany
    else chance_fault chance

abbrev pub mean_fault : ℤ → Option DistFault
mean_fault mean = if int_lt (pos 0) mean && int_le mean most_mean then None else Some BadBounds

-- what is wrong with the parameters of a distribution, if anything
abbrev pub fault_of : Dist → Option DistFault
fault_of (dist.ConstBool x) = None
fault_of (dist.ConstInt x) = None
fault_of (dist.ConstReal x) = None
fault_of (dist.UniformInt a b stream) = bounds_fault a b
fault_of (dist.UniformReal a b stream) = bounds_fault a b
fault_of (dist.Bernoulli chance stream) = chance_fault chance
fault_of (dist.Binomial trials chance stream) = trials_fault trials chance
fault_of (dist.Exponential mean stream) = mean_fault mean

-- a value is drawn, and so many draws are then taken from each stream; or the distribution is refused, and none is;
-- or its stream isn't there
pub data Sampling : Type 0 where
  draws : Drawn → List ℕ → Sampling
  refuses : DistFault → Sampling
  wrong : Sampling

-- by the number of draws taken from the stream, if it is there, unless something is wrong with the parameters
abbrev pub unless_faulty : Option ℕ → Option DistFault → (ℕ → Sampling) → Sampling
unless_faulty None fault go = wrong
unless_faulty (Some k) (Some fault) go = refuses fault
unless_faulty (Some k) None go = go k

-- a value is made of so many draws of a stream, from draw k on
abbrev pub taking : List ℕ → ℕ → ℕ → Option DistFault → (ℕ → Drawn) → Sampling
taking taken stream count fault made =
    unless_faulty (slice_get taken stream) fault (λ k. draws (made k) (slice_set taken stream (taken_after k count)))

-- what a distribution draws, after so many draws taken from each stream
unfoldable pub sampled : ℕ → List ℕ → Dist → Sampling
sampled seed taken (dist.ConstBool x) = draws (drawn.Bool x) taken
sampled seed taken (dist.ConstInt x) = draws (drawn.Int x) taken
sampled seed taken (dist.ConstReal x) = draws (drawn.Real x) taken
sampled seed taken (dist.UniformInt a b stream) =
    taking taken stream 1 (bounds_fault a b) (λ k. drawn.Int (between a b (draw seed stream k)))
sampled seed taken (dist.UniformReal a b stream) =
    taking taken stream 1 (bounds_fault a b) (λ k. drawn.Real (between a b (draw seed stream k)))
sampled seed taken (dist.Bernoulli chance stream) =
    taking taken stream 1 (chance_fault chance) (λ k. drawn.Bool (succeeds chance (draw seed stream k)))
sampled seed taken (dist.Binomial trials chance stream) =
    taking taken stream (unsigned_abs trials) (trials_fault trials chance)
    (λ k. drawn.Int (pos (count_by (succeeds chance) (draws_from seed stream k (unsigned_abs trials)))))
sampled seed taken (dist.Exponential mean stream) =
    taking taken stream 1 (mean_fault mean) (λ k. drawn.Real (exponential_units mean (draw seed stream k)))

-- the stream of a distribution is there; a constant needs none
abbrev pub has_stream : Dist → Bool
has_stream (dist.ConstBool x) = true
has_stream (dist.ConstInt x) = true
has_stream (dist.ConstReal x) = true
has_stream (dist.UniformInt a b stream) = nat_lt stream stream_count
has_stream (dist.UniformReal a b stream) = nat_lt stream stream_count
has_stream (dist.Bernoulli chance stream) = nat_lt stream stream_count
has_stream (dist.Binomial trials chance stream) = nat_lt stream stream_count
has_stream (dist.Exponential mean stream) = nat_lt stream stream_count

-- what a generator has: its seed, and how many draws were taken from each of its streams
pub record Draws : Type 0 where
  pub seed : ℕ
  pub taken : List ℕ

-- of this seed, after so many draws taken from each stream
abbrev pub draws_of : ℕ → List ℕ → Draws
draws_of seed taken = record { seed = seed; taken = taken }

-- before the first draw
abbrev pub no_draws : ℕ → Draws
no_draws seed = record { seed = seed; taken = replicate stream_count 0 }

-- after so many draws of a stream, from draw k on
abbrev pub after_draws : Draws → ℕ → ℕ → ℕ → Draws
after_draws g stream k count = record g { taken = slice_set g.taken stream (taken_after k count) }
