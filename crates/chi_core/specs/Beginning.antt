-- How a run begins: the constants are evaluated in file order, and the model's instance is there alone.
use Rattle.std.specs.Prelude.{ℕ, ℤ, pos, Option, Some, None, List, [], ◌∷◌, ◌++◌, codes, length, replicate}
use Rattle.chi_value.specs.declared.value.Value.{Value}
use Rattle.chi_dist.specs.Draws.{stream_count}
use Rattle.chi_core.specs.declared.program.Core.{Core}
use Rattle.chi_core.specs.declared.program.ConstDef.{ConstDef}
use Rattle.chi_core.specs.declared.program.ProcDef.{ProcDef}
use Rattle.chi_core.specs.declared.verdict.Verdict.TheVariants.{Fault}
use Rattle.chi_core.specs.Answer as answer
use Rattle.chi_core.specs.Answer.{Answer, Gives, Fails, View}
use Rattle.chi_core.specs.Scene.{Scene}
use Rattle.chi_core.specs.Evaluation.{Run, eval}
use Rattle.chi_core.specs.Config.{Config, new_instance, settled}
use Rattle.chi_core.specs.Starting.{started_by}
use Rattle.chi_core.specs.Options.{Ending}

-- A run begins in a configuration; or a fault in a constant ends it. It is amiss where something isn't there,
-- which never happens in a sound program with arguments of the model's types.
pub data Beginning : Type 0 where
  Begins : Config → Beginning
  Breaks : Ending → Beginning
  Amiss : Beginning

-- no stream is drawn from
abbrev pub no_draws : List ℕ
no_draws = replicate stream_count 0

-- a constant calls no function
abbrev pub no_call : Run
no_call function arguments view = answer.Amiss

-- it reads the constants before it, and costs nothing
abbrev pub constant_scene : Core → ℕ → List Value → Scene
constant_scene core seed before = record { names = core.names; seed = seed; clock = pos 0; constants = before; finished = [] }

abbrev pub constant_view : View
constant_view = record { left = 0; draws = no_draws; channels = 0; instances = 0 }

abbrev pub constant_value : Core → ℕ → List Value → ConstDef → Answer Value
constant_value core seed before c = eval no_call (constant_scene core seed before) [] c.value constant_view

-- a fault in a constant has the name `const` and the constant's line
abbrev pub constant_fault : ConstDef → Answer Value → Beginning
constant_fault c (Fails kind) = Breaks (record { verdict = Fault kind (codes "const") c.line; clock = pos 0 })
constant_fault c _ = Amiss

-- the configuration in which only the model's instance is there, at the time 0.0
abbrev pub first_config : ℕ → Option ℤ → List Value → List Value → ℕ → ProcDef → Config
first_config seed until arguments constants model d = record {
  clock = pos 0;
  draws = no_draws;
  channels = 0;
  instances = settled (new_instance model d arguments) ∷ [];
  seed = seed;
  until = until;
  constants = constants;
}

abbrev pub model_begins : ℕ → Option ℤ → List Value → List Value → ℕ → Option ProcDef → Beginning
model_begins seed until arguments constants model None = Amiss
model_begins seed until arguments constants model (Some d) = Begins (first_config seed until arguments constants model d)

-- with these arguments, this seed and this stopping time, if there is one
module _ (core : Core) (arguments : List Value) (seed : ℕ) (until : Option ℤ) where
  abbrev pub with_constant : (List Value → Beginning) → List Value → ConstDef → Answer Value → Beginning
  with_constant rest before c (Gives v view) = rest (before ++ v ∷ [])
  with_constant rest before c other = constant_fault c other

  -- the constants that are left, after those whose values these are
  abbrev pub begins_after : List Value → List ConstDef → Beginning
  begins_after values [] =
      model_begins seed until arguments values core.model (started_by core.procs core.model (length arguments))
  begins_after values (c ∷ cs) = with_constant (λ more. begins_after more cs) values c (constant_value core seed values c)

  -- the beginning of a run of the program
  abbrev pub start : Beginning
  start = begins_after [] core.consts
