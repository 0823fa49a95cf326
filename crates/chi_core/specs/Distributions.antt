-- Distributions, each with the stream from which it is drawn, and draws from them.
use Rattle.std.specs.Prelude.{ℕ, nat_lt, pos, Option, Some, None, option_map, if◌then◌else◌}
use Rattle.chi_num.specs.declared.dist.Dist.{Dist}
use Rattle.chi_num.specs.declared.dist.Dist.TheVariants as dist
use Rattle.chi_value.specs.declared.value.Value.{Value, Value-F, out-Value}
use Rattle.chi_value.specs.declared.value.Value.TheVariants as value
use Rattle.chi_dist.specs.declared.drawn.Drawn.{Drawn}
use Rattle.chi_dist.specs.declared.drawn.Drawn.TheVariants as drawn
use Rattle.chi_dist.specs.Draws.{stream_count, Sampling, draws, refuses, wrong, sampled}
use Rattle.chi_core.specs.declared.fault.FaultKind.TheVariants.{BadDistribution}
use Rattle.chi_core.specs.Answer.{Gives, Fails, Amiss, Does, then_do, wanted}
use Rattle.chi_core.specs.Scene.{Scene}

abbrev pub constant_in : Value-F Value → Option Dist
constant_in (Value-F.Bool x) = Some (dist.ConstBool x)
constant_in (Value-F.Int x) = Some (dist.ConstInt x)
constant_in (Value-F.Real x) = Some (dist.ConstReal x)
constant_in _ = None

abbrev pub stream_in : Value-F Value → Option ℕ
stream_in (Value-F.Int (pos stream)) = if nat_lt stream stream_count then Some stream else None
stream_in _ = None

abbrev pub uniform_in : Value-F Value → Value-F Value → ℕ → Option Dist
uniform_in (Value-F.Int a) (Value-F.Int b) stream = Some (dist.UniformInt a b stream)
uniform_in (Value-F.Real a) (Value-F.Real b) stream = Some (dist.UniformReal a b stream)
uniform_in _ _ stream = None

abbrev pub bernoulli_in : Value-F Value → ℕ → Option Dist
bernoulli_in (Value-F.Real chance) stream = Some (dist.Bernoulli chance stream)
bernoulli_in _ stream = None

abbrev pub binomial_in : Value-F Value → Value-F Value → ℕ → Option Dist
binomial_in (Value-F.Int trials) (Value-F.Real chance) stream = Some (dist.Binomial trials chance stream)
binomial_in _ _ stream = None

abbrev pub exponential_in : Value-F Value → ℕ → Option Dist
exponential_in (Value-F.Real mean) stream = Some (dist.Exponential mean stream)
exponential_in _ stream = None

abbrev pub distribution : Option Dist → Does Value
distribution made = wanted (option_map value.Dist made)

-- by the stream that an operand names, which is there
abbrev pub by_stream : (ℕ → Option Dist) → Value → Does Value
by_stream made stream view = then_do (wanted (stream_in (out-Value stream)) view) (λ number. distribution (made number))

abbrev pub constant_of : Value → Does Value
constant_of a = distribution (constant_in (out-Value a))

abbrev pub uniform_of : Value → Value → Value → Does Value
uniform_of a b = by_stream (uniform_in (out-Value a) (out-Value b))

abbrev pub bernoulli_of : Value → Value → Does Value
bernoulli_of chance = by_stream (bernoulli_in (out-Value chance))

abbrev pub binomial_of : Value → Value → Value → Does Value
binomial_of trials chance = by_stream (binomial_in (out-Value trials) (out-Value chance))

abbrev pub exponential_of : Value → Value → Does Value
exponential_of mean = by_stream (exponential_in (out-Value mean))

abbrev pub value_drawn : Drawn → Value
value_drawn (drawn.Bool x) = value.Bool x
value_drawn (drawn.Int x) = value.Int x
value_drawn (drawn.Real x) = value.Real x

-- what is drawn, and so many draws are then taken from each stream
abbrev pub after_drawing : Sampling → Does Value
after_drawing (draws x taken) view = Gives (value_drawn x) (record view { draws = taken })
after_drawing (refuses fault) view = Fails BadDistribution
after_drawing wrong view = Amiss

abbrev pub draw_from : Scene → Value-F Value → Does Value
draw_from scene (Value-F.Dist d) view = after_drawing (sampled scene.seed view.draws d) view
draw_from scene _ view = Amiss

abbrev pub sample_of : Scene → Value → Does Value
sample_of scene a = draw_from scene (out-Value a)
