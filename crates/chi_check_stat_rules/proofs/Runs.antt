-- Private to proofs. A run with its arguments.
use Rattle.std.proofs.Common.{◌≡◌, ℕ, List, Option, Some, None, refl}
use Rattle.std.specs.Prelude.{option_map}
use Rattle.std.specs.Option.{option_and_then}
use Rattle.chi_types.specs.declared.ty.Ty.{Ty}
use Rattle.chi_core.specs.declared.expression.CExpr.{CExpr}
use Rattle.chi_check_types.specs.Typed.{Typed}
use Rattle.chi_check_stat_rules.specs.ModelRuns.{model_run, ran}

pub made_ran : (number : ℕ) (exit : Option Ty) (t : Typed (List CExpr)) → (ran number exit t).made ≡ option_and_then (λ exit. option_map (model_run number exit) t.made) exit
made_ran number None t = refl
made_ran number (Some exit) t = refl

pub faults_ran : (number : ℕ) (exit : Option Ty) (t : Typed (List CExpr)) → (ran number exit t).faults ≡ t.faults
faults_ran number None t = refl
faults_ran number (Some exit) t = refl
