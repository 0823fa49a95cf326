-- Starting processes: the instances that the elements of a run or start statement make, in order.
use Rattle.std.specs.Prelude.{ℕ, ◌+◌, nat_lt, nat_eq, Option, Some, None, List, [], ◌∷◌, ◌++◌, length, map, slice_get, if◌then◌else◌}
use Rattle.std.specs.Option.{option_and_then}
use Rattle.chi_value.specs.declared.value.Value.{Value}
use Rattle.chi_value.specs.declared.value.Value.TheVariants as value
use Rattle.chi_core.specs.declared.limits.TheConstants.{MOST_INSTANCES}
use Rattle.chi_core.specs.declared.expression.CExpr.{CExpr}
use Rattle.chi_core.specs.declared.program.ProcDef.{ProcDef}
use Rattle.chi_core.specs.declared.element.CElem.{CElem, CElem-F, fold-CElem}
use Rattle.chi_core.specs.declared.target.CTarget.{CTarget}
use Rattle.chi_core.specs.declared.fault.FaultKind.TheVariants.{TooManyInstances}
use Rattle.chi_core.specs.Answer.{Gives, Fails, Does, then_do, wanted, giving, in_turn, through}
use Rattle.chi_core.specs.Reading.{elements_of}
use Rattle.chi_core.specs.Variables.{Variables, bound}
use Rattle.chi_core.specs.Evaluation.{Evaluates}
use Rattle.chi_core.specs.Spots.{Spot, spot_of, store}
use Rattle.chi_core.specs.Config.{Instance, new_instance}

-- the variables of the instance that starts others, and the instances that it has made
pub record Started : Type 0 where
  pub variables : Variables
  pub made : List Instance

abbrev pub taking : ℕ → ProcDef → Option ProcDef
taking count d = if nat_eq count (length d.params) then Some d else None

-- the process of a number, which takes so many arguments
abbrev pub started_by : List ProcDef → ℕ → ℕ → Option ProcDef
started_by processes number count = option_and_then (taking count) (slice_get processes number)

-- the number of the next instance, where there may be one more
abbrev pub numbered : Does ℕ
numbered view =
    if nat_lt view.instances MOST_INSTANCES
    then Gives view.instances (record view { instances = view.instances + 1 })
    else Fails TooManyInstances

-- the number of a new instance is stored in the target, where there is one
abbrev pub told : Option Spot → ℕ → Started → Does Started
told None number s view = Gives s view
told (Some spot) number s view =
    giving (λ variables. record s { variables = variables }) (store (spot, value.Inst (Some number)) s.variables view)

-- a new instance of the process, of which the target is told
unfoldable pub made_by : ℕ → ProcDef → List Value → Option Spot → Started → Does Started
made_by process d arguments spot s view =
    then_do (numbered view) (λ number.
    told spot number (record s { made = s.made ++ new_instance process d arguments ∷ [] }))

-- with this evaluation of expressions by variables, and these processes
module _ (value_in : Variables → Evaluates) (processes : List ProcDef) where
  -- what an element adds
  abbrev pub Starts : Type 0
  Starts = Started → Does Started

  unfoldable pub told_at : Variables → Option CTarget → Does (Option Spot)
  told_at variables None view = Gives None view
  told_at variables (Some target) view = giving Some (spot_of (value_in variables) target view)

  -- the arguments, the target's indexes, the new instance, and then the target
  unfoldable pub makes : Option CTarget → ℕ → List CExpr → Starts
  makes target process arguments s view =
      then_do (in_turn (map (value_in s.variables) arguments) view) (λ values now.
      then_do (told_at s.variables target now) (λ spot new.
      then_do (wanted (started_by processes process (length values)) new) (λ d.
      made_by process d values spot s)))

  -- the elements once more, with the names of an unwind bound to one element of a container
  abbrev pub unwound : List ℕ → List Starts → Value → Starts
  unwound slots elements x s view =
      then_do (wanted (bound slots x s.variables) view) (λ variables.
      through (λ starts. starts) elements (record s { variables = variables }))

  abbrev pub starts_step : CElem-F Starts → Starts
  starts_step (CElem-F.Make target process arguments) s view = makes target process arguments s view
  starts_step (CElem-F.Unwind slots e elements) s view =
      then_do (value_in s.variables e view) (λ x now.
      then_do (wanted (elements_of x) now) (λ xs.
      through (unwound slots elements) xs s))

  -- what an element of a run or start statement adds
  unfoldable pub starts : CElem → Starts
  starts = fold-CElem Starts starts_step

  -- the variables and the new instances once all elements are started
  abbrev pub all_started : Variables → List CElem → Does Started
  all_started variables elements = through starts elements (record { variables = variables; made = [] })
