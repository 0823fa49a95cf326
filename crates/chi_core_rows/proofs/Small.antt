-- Small programs and configurations, of which the rows are made.
use Rattle.std.proofs.Common.{ℕ, ℤ, pos, List, [], ◌∷◌, Option, Some, None}
use Rattle.std.specs.Prelude.{codes}
use Rattle.chi_value.specs.declared.value.Value.{Value}
use Rattle.chi_value.specs.declared.value.Value.TheVariants as value
use Rattle.chi_types.specs.declared.ty.Ty.{Ty}
use Rattle.chi_core.specs.declared.expression.CExpr.{CExpr}
use Rattle.chi_core.specs.declared.expression.CExpr.TheVariants as e
use Rattle.chi_core.specs.declared.statement.CStat.{CStat}
use Rattle.chi_core.specs.declared.target.CTarget.{CTarget}
use Rattle.chi_core.specs.declared.program.Core.{Core}
use Rattle.chi_core.specs.declared.program.ProcDef.{ProcDef}
use Rattle.chi_core.specs.declared.view.View.{View}
use Rattle.chi_core.specs.Variables.{Variables}
use Rattle.chi_core.specs.Terms.{Term}
use Rattle.chi_core.specs.Config.{Config, Instance, State, Running}
use Rattle.chi_core.specs.Beginning.{no_draws}

abbrev pub int : ℕ → Value
int n = value.Int (pos n)

abbrev pub number : ℕ → CExpr
number n = e.Lit (int n)

abbrev pub whole : ℕ → CTarget
whole slot = record { slot = slot; steps = [] }

-- a process without parameters, of such variables, that does this
abbrev pub process : List Ty → List CStat → ProcDef
process slots body = record { name = codes "P"; params = []; exit = None; slots = slots; body = body }

-- a program of these processes, of which the first is run
abbrev pub core_of : List ProcDef → Core
core_of processes = record { consts = []; funcs = []; procs = processes; model = 0; names = record { kinds = [] }; xpers = [] }

abbrev pub config_of : ℤ → ℕ → List Instance → Config
config_of clock channels instances = record {
  clock = clock;
  draws = no_draws;
  channels = channels;
  instances = instances;
  seed = 0;
  until = None;
  constants = [];
}

abbrev pub instance : ℕ → Variables → Term → State → Instance
instance definition variables term state = record { definition = definition; variables = variables; term = term; state = state }

-- a configuration with one instance, which runs
abbrev pub alone : Variables → Term → Config
alone variables term = config_of (pos 0) 0 (instance 0 variables term Running ∷ [])

abbrev pub set : ℕ → Option Value
set n = Some (int n)

abbrev pub left_of : ℕ → View
left_of left = record { left = left; draws = no_draws; channels = 0; instances = 1 }
