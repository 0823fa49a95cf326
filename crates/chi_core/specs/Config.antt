-- Configurations: where a run stands between two steps.
use Rattle.std.specs.Prelude.{ℕ, ℤ, Bool, true, false, List, [], ◌∷◌, Option, map, slice_set, length}
use Rattle.chi_value.specs.declared.value.Value.{Value}
use Rattle.chi_core.specs.declared.program.Core.{Core}
use Rattle.chi_core.specs.declared.program.ProcDef.{ProcDef}
use Rattle.chi_core.specs.declared.statement.CStat.{CStat}
pub use Rattle.chi_core.specs.declared.act.Act.{Act}
pub use Rattle.chi_core.specs.declared.act.Act.TheVariants.{Send, Receive, Delay}
use Rattle.chi_core.specs.Answer.{View}
use Rattle.chi_core.specs.Variables.{Variables, Bindings, variables_of}
use Rattle.chi_core.specs.Scene.{Scene}
use Rattle.chi_core.specs.Evaluation.{Run, eval, Evaluates}
use Rattle.chi_core.specs.Functions.{calls}
use Rattle.chi_core.specs.Terms.{Do, Term}

-- what is offered, what the names of the unwinds around it are bound to, and what is done once it is taken
pub record Offer : Type 0 where
  pub act : Act
  pub bindings : Bindings
  pub body : List CStat

pub data State : Type 0 where
  Running : State
  Waiting : List Offer → State
  Joining : List ℕ → State
  Finished : State

-- a process that was started: the number of its definition, its variables, what it has left to do, and its state
pub record Instance : Type 0 where
  pub definition : ℕ
  pub variables : Variables
  pub term : Term
  pub state : State

-- The time in units of a real, the draws that were taken from each stream, how many channels there are, and
-- the instances by their numbers. And what stays: the seed, the stopping time if there is one, and the constants.
pub record Config : Type 0 where
  pub clock : ℤ
  pub draws : List ℕ
  pub channels : ℕ
  pub instances : List Instance
  pub seed : ℕ
  pub until : Option ℤ
  pub constants : List Value

abbrev pub is_finished : State → Bool
is_finished Finished = true
is_finished Running = false
is_finished (Waiting offers) = false
is_finished (Joining numbers) = false

abbrev pub has_finished : Instance → Bool
has_finished i = is_finished i.state

abbrev pub offers_in : State → List Offer
offers_in (Waiting offers) = offers
offers_in Running = []
offers_in (Joining numbers) = []
offers_in Finished = []

-- a new instance of a definition, with these arguments
abbrev pub new_instance : ℕ → ProcDef → List Value → Instance
new_instance number d arguments = record {
  definition = number;
  variables = variables_of (length d.slots) arguments;
  term = map Do d.body;
  state = Running;
}

-- a Running instance without items is Finished; one that waits or joins isn't

abbrev pub resting : Term → State
resting [] = Finished
resting (item ∷ term) = Running

abbrev pub rested : Term → State → State
rested term Running = resting term
rested term (Waiting offers) = Waiting offers
rested term (Joining numbers) = Joining numbers
rested term Finished = Finished

abbrev pub settled : Instance → Instance
settled i = record i { state = rested i.term i.state }

-- the configuration with instance p as it is now
abbrev pub with_instance : Config → ℕ → Instance → Config
with_instance config p i = record config { instances = slice_set config.instances p (settled i) }

-- what evaluations read there
abbrev pub scene_of : Core → Config → Scene
scene_of core config = record {
  names = core.names;
  seed = config.seed;
  clock = config.clock;
  constants = config.constants;
  finished = map has_finished config.instances;
}

abbrev pub run_of : Core → Config → Run
run_of core config = calls core.funcs (scene_of core config)

-- the evaluation of expressions there, with these variables
abbrev pub value_in : Core → Config → Variables → Evaluates
value_in core config = eval (run_of core config) (scene_of core config)

-- what evaluations use up there, where so much is left of the bound
abbrev pub view_of : Config → ℕ → View
view_of config left = record {
  left = left;
  draws = config.draws;
  channels = config.channels;
  instances = length config.instances;
}

-- and the configuration with what they left
abbrev pub with_view : View → Config → Config
with_view view config = record config { draws = view.draws; channels = view.channels }
