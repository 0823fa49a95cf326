-- Targets: which part of which variable they name, what is read there, and what is stored there.
use Rattle.std.specs.Prelude.{ℕ, List, [], ◌∷◌, map}
use Rattle.chi_value.specs.declared.value.Value.{Value, Value-F, out-Value}
use Rattle.chi_ops.specs.Operations.{lookup}
use Rattle.chi_ops.specs.Sequences.{index}
use Rattle.chi_ops.specs.Store.{Step, by, part, put}
use Rattle.chi_core.specs.declared.target.CStep.{CStep}
use Rattle.chi_core.specs.declared.target.CStep.TheVariants as step
use Rattle.chi_core.specs.declared.target.CTarget.{CTarget}
use Rattle.chi_core.specs.Answer.{Gives, Does, then_do, amiss, wanted, giving, in_turn, through}
use Rattle.chi_core.specs.Reading.{part_of}
use Rattle.chi_core.specs.Variables.{Variables, value_at, with_slot}
use Rattle.chi_core.specs.Containers.{done}
use Rattle.chi_core.specs.Evaluation.{Evaluates}

-- a part of a variable: its slot, and the way into it
pub record Spot : Type 0 where
  pub slot : ℕ
  pub path : List Step

abbrev pub step_at : Evaluates → CStep → Does Step
step_at value_of (step.Index e) view = giving by (value_of e view)
step_at value_of (step.Part number) view = Gives (part number) view

-- the spot of a target: its indexes are evaluated from left to right
abbrev pub spot_of : Evaluates → CTarget → Does Spot
spot_of value_of target view =
    giving (λ path. record { slot = target.slot; path = path }) (in_turn (map (step_at value_of) target.steps) view)

-- the container decides what takes a step into it: a dictionary a key, a list an index
abbrev pub element_by : Value → Value-F Value → Value → Value-F Value → Does Value
element_by v (Value-F.DictOf items) key k = done (lookup v key)
element_by v _ key (Value-F.Int i) = done (index v i)
element_by v _ key _ = amiss

abbrev pub read_step : Evaluates → CStep → Value → Does Value
read_step value_of (step.Index e) v view = then_do (value_of e view) (λ key. element_by v (out-Value v) key (out-Value key))
read_step value_of (step.Part number) v view = wanted (part_of v number) view

-- what stands at a target, read step by step
abbrev pub read_at : Evaluates → Variables → CTarget → Does Value
read_at value_of variables target view =
    then_do (wanted (value_at variables target.slot) view) (through (read_step value_of) target.steps)

-- a whole variable is set; a part is stored into the variable's value
abbrev pub store_into : ℕ → List Step → Value → Variables → Does Variables
store_into slot [] x variables view = wanted (with_slot slot x variables) view
store_into slot (s ∷ path) x variables view =
    then_do (wanted (value_at variables slot) view) (λ v now.
    then_do (done (put (s ∷ path) x v) now) (λ changed. wanted (with_slot slot changed variables)))

-- a spot, and what goes there
abbrev pub store : Spot × Value → Variables → Does Variables
store entry = store_into entry.0.slot entry.0.path entry.1
