-- Private to proofs: what an opening or a start has changed so far.
use Rattle.std.specs.Prelude.{ℕ, List, Option, Some, None}
use Rattle.chi_core.specs.declared.target.CTarget.{CTarget}
use Rattle.chi_core.specs.Answer.{Gives, Does, then_do, wanted, giving, through}
use Rattle.chi_core.specs.Reading.{elements_of}
use Rattle.chi_core.specs.declared.expression.CExpr.{CExpr}
use Rattle.chi_core.specs.declared.program.ProcDef.{ProcDef}
use Rattle.chi_core.specs.Config.{Instance, Offer}
use Rattle.chi_core.specs.Opening.{Opening}
use Rattle.chi_core.specs.Evaluation.{Evaluates}
use Rattle.chi_core.specs.Spots.{Spot, spot_of}
use Rattle.chi_core.specs.Starting.{Started, unwound}
use Rattle.chi_core.specs.Variables.{Variables}

-- variables, and what they were before
pub record Draft : Type 0 where
  pub origin : Variables
  pub variables : Variables

-- with the offers that were kept so far
pub record Opened : Type 0 where
  pub origin : Variables
  pub variables : Variables
  pub offers : List Offer

abbrev pub opening_of : Opened → Opening
opening_of o = record { variables = o.variables; offers = o.offers }

-- with the instances that were made so far
pub record Made : Type 0 where
  pub origin : Variables
  pub variables : Variables
  pub made : List Instance

abbrev pub started_of : Made → Started
started_of s = record { variables = s.variables; made = s.made }

-- the spot of a target, where there is one
abbrev pub spot_told : Evaluates → Option CTarget → Does (Option Spot)
spot_told value_of None view = Gives None view
spot_told value_of (Some target) view = giving Some (spot_of value_of target view)

-- what each element adds, in order
abbrev pub starts_each : List (Started → Does Started) → Started → Does Started
starts_each = through (λ starts. starts)

-- elements once more for each element of a container
abbrev pub starts_unwound : (Variables → Evaluates) → List ProcDef → List ℕ → CExpr → List (Started → Does Started) → Started → Does Started
starts_unwound value_in processes slots e elements s view =
    then_do (value_in s.variables e view) (λ x now.
    then_do (wanted (elements_of x) now) (λ xs.
    through (unwound value_in processes slots elements) xs s))
