-- Private to proofs: how far a runner is.
use Rattle.std.specs.Prelude.{◌≡◌, Option}
use Rattle.chi_core.specs.declared.program.Core.{Core}
use Rattle.chi_core.specs.Config.{Config}
use Rattle.chi_core.specs.Kinded.{Kinded}
use Rattle.chi_core.specs.Options.{Ending, ending}
use Rattle.chi_core.specs.Sound.{Sound}
use Rattle.chi_plain_steps.specs.declared.beginning.Begun.{Begun}
use Rattle.chi_plain_steps.specs.declared.beginning.Begun.TheVariants as begun
use Rattle.chi_plain.specs.declared.progress.Progress.{Progress}
use Rattle.chi_plain.specs.declared.progress.Progress.TheVariants.{At, Ended, Lost}
use Rattle.chi_plain.specs.Stage as stage
use Rattle.chi_core.specs.VerdictLine.{MayTell}
use Rattle.chi_plain.specs.Stage.{Stage}

-- where a run stands at its beginning
abbrev pub progress_at : Begun → Progress
progress_at (begun.Begins config) = At config (ending config)
progress_at (begun.Breaks end) = Ended end

abbrev pub stage_of : Progress → Stage
stage_of (At config rest) = stage.At config
stage_of (Ended end) = stage.Ended end
stage_of Lost = stage.Lost

-- what is kept with a configuration: how the run ends there, and that it is kinded
pub record IsAt (core : Core) (config : Config) (rest : Option Ending) : Type 0 where
  pub known : rest ≡ ending config
  pub kinded : Kinded core config

-- and of a run that is over, that its verdict can be told
abbrev pub Stands : Core → Progress → Type 0
Stands core (At config rest) = IsAt core config rest
Stands core (Ended end) = MayTell core end.verdict
Stands core Lost = Unit {0}

pub record IsRunner (core : Core) (progress : Progress) : Type 0 where
  pub sound : Sound core
  pub stands : Stands core progress
