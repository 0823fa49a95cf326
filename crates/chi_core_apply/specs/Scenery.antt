-- What operators read beside their operands.
use Rattle.chi_core.specs.declared.scene.Scene.{Scene}
use Rattle.chi_core_apply.specs.declared.scenery.Scenery.{Scenery}

-- the scene that it is
abbrev pub scene_of : Scenery → Scene
scene_of s = record {
  names = s.names.now;
  seed = s.seed;
  clock = s.clock;
  constants = s.constants.now;
  finished = s.finished.now;
}
