-- Private to proofs: configurations as a runner keeps them.
use Rattle.std.specs.Prelude.{◌≡◌, ℕ, ◌≤◌, ℤ, Bool, List, Option, map, length}
use Rattle.chi_value.specs.declared.value.Value.{Value}
use Rattle.chi_core.specs.declared.limits.TheConstants.{MOST_INSTANCES}
use Rattle.chi_core.specs.Config.{Config, Instance, has_finished}

abbrev pub config_at : ℤ → List ℕ → ℕ → List Instance → ℕ → Option ℤ → List Value → Config
config_at clock draws channels instances seed until constants = record {
  clock = clock;
  draws = draws;
  channels = channels;
  instances = instances;
  seed = seed;
  until = until;
  constants = constants;
}

-- there are as many instances as there may be, and for each is kept whether it has finished
pub record IsKept (instances : List Instance) (finished : List Bool) : Type 0 where
  pub few : length instances ≤ MOST_INSTANCES
  pub flags : finished ≡ map has_finished instances
