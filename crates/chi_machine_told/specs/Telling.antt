-- When the event of a label can be told, by the machine's own state.
use Rattle.std.specs.Prelude.{Contains}
use Rattle.chi_core.specs.declared.label.Label.{Label}
use Rattle.chi_core.specs.declared.program.Core.{Core}
use Rattle.chi_core.specs.Config.{Config}
use Rattle.chi_core.specs.Kinded.{Kinded}
use Rattle.chi_core.specs.Options.{enabled}
use Rattle.chi_core.specs.Sound.{Sound}
use Rattle.chi_code.specs.declared.code.Code.{Code}
use Rattle.chi_code.specs.Codes.{Codes}
use Rattle.chi_machine_laws.specs.Instances.{Whole}
use Rattle.chi_machine_laws.specs.Stands.{Stands}

-- The state stands for a kinded configuration of a sound program, of which this is the code, and the label is enabled there.
pub record MayTell (code : Code) (m : Whole) (label : Label) (core : Core) (config : Config) : Type 0 where
  pub codes : Codes core code
  pub sound : Sound core
  pub kinded : Kinded core config
  pub stands : Stands core code config m
  pub enabled : Contains (enabled config) label

-- it stands for some configuration of some program
pub record CanTell (code : Code) (m : Whole) (label : Label) : Type 0 where
  pub core : Core
  pub config : Config
  pub may : MayTell code m label core config
