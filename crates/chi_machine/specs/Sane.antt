-- A machine that runs a program. Private to proofs.
use Rattle.std.specs.Prelude.{ℕ}
use Rattle.chi_core.specs.declared.program.Core.{Core}
use Rattle.chi_core.specs.Config.{Config}
use Rattle.chi_core.specs.Sound.{Sound}
use Rattle.chi_code.specs.declared.code.Code.{Code}
use Rattle.chi_code.specs.Codes.{Codes}
use Rattle.chi_machine_laws.specs.Instances.{Whole}
use Rattle.chi_machine_laws.specs.Stands.{Stands}
use Rattle.chi_machine_laws.specs.Turns.{InBound}

-- At a turn, with so much left of the bound, the state stands for a kinded configuration of a sound program, of which this is the code.
pub record IsSane (code : Code) (turn : ℕ) (m : Whole) (left : ℕ) : Type 0 where
  pub core : Core
  pub codes : Codes core code
  pub sound : Sound core
  pub config : Config
  pub bound : InBound core turn config left
  pub stands : Stands core code config m
