-- What evaluations read, and the evaluations there.
use Rattle.std.specs.Prelude.{[]}
use Rattle.chi_core.specs.declared.scene.Scene.{Scene}
use Rattle.chi_core.specs.Variables.{Variables}
use Rattle.chi_core.specs.Evaluation.{Evaluates, eval}
use Rattle.chi_core.specs.Functions.{calls}
use Rattle.chi_core.specs.Beginning.{no_call}
use Rattle.chi_plain_eval.specs.declared.surroundings.Surroundings.{Surroundings}

-- the scene that they are
abbrev pub scene_in : Surroundings → Scene
scene_in s = record {
  names = s.names.now;
  seed = s.seed;
  clock = s.clock;
  constants = s.constants.now;
  finished = s.finished.now;
}

-- the evaluation of expressions there, with these variables
abbrev pub value_in : Surroundings → Variables → Evaluates
value_in s variables = eval (calls s.functions.now (scene_in s)) (scene_in s) variables

-- the evaluation of a constant's expression there, which calls no function
abbrev pub constant_in : Surroundings → Evaluates
constant_in s = eval no_call (scene_in s) []
