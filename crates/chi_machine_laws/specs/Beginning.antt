-- How the machine begins: it sets the constants by their code, and then the model's instance is there alone.
use Rattle.std.specs.Prelude.{◌≡◌, ℕ, ◌+◌, ℤ, pos, Option, Some, None, List, [], ◌∷◌, true, nat_eq, length, codes, slice_get, drop}
use Rattle.chi_value.specs.declared.value.Value.{Value}
use Rattle.chi_core.specs.declared.fault.FaultKind.{FaultKind}
use Rattle.chi_core.specs.declared.program.Core.{Core}
use Rattle.chi_core.specs.declared.scene.Scene.{Scene}
use Rattle.chi_core.specs.declared.verdict.Verdict.TheVariants.{Fault}
use Rattle.chi_core.specs.Beginning as beginning
use Rattle.chi_core.specs.Beginning.{no_draws, constant_view}
use Rattle.chi_core.specs.Options.{Ending}
use Rattle.chi_code.specs.declared.code.Code.{Code}
use Rattle.chi_code.specs.declared.code.Entry.{Entry}
use Rattle.chi_code.specs.declared.instr.Instr.{Instr}
use Rattle.chi_code.specs.declared.instr.Instr.TheVariants as i
use Rattle.chi_exec_law.specs.Runs.{Rests, Faults, Reaches}
use Rattle.chi_exec_law.specs.State.{State}
use Rattle.chi_exec_law.specs.Instructions.{set_const_on}
use Rattle.chi_exec_law.specs.Machine.{in_expressions, step}
use Rattle.chi_exec_law.specs.Laws.{begun}
use Rattle.chi_machine_laws.specs.Instances.{Whole}
use Rattle.chi_machine_laws.specs.Deeds.{held_of}
use Rattle.chi_machine_laws.specs.Stands.{Stands}

-- the line of the first constant that code sets
abbrev pub line_from : List Instr → Option ℕ
line_from [] = None
line_from (i.SetConst number line ∷ code) = Some line
line_from (x ∷ code) = line_from code

-- the machine is ready, or a fault in a constant ends the run
pub data Begun : Type 0 where
  Ready : Whole → Begun
  Broken : Ending → Begun

-- a constant reads those before it
abbrev pub scene_before : Code → ℕ → List Value → Scene
scene_before code seed before = record { names = code.names; seed = seed; clock = pos 0; constants = before; finished = [] }

-- a fault in a constant has the name `const` and the constant's line
abbrev pub broken_at : FaultKind → ℕ → Ending
broken_at kind line = record { verdict = Fault kind (codes "const") line; clock = pos 0 }

abbrev pub first_whole : Code → ℕ → Option ℤ → List Value → List Value → Entry → Whole
first_whole code seed until arguments constants entry = record {
  clock = pos 0;
  draws = no_draws;
  channels = 0;
  instances = held_of code code.model entry arguments ∷ [];
  seed = seed;
  until = until;
  constants = constants;
}

-- from a place of the constants' code, with the values of those before
pub data Begins (code : Code) (arguments : List Value) (seed : ℕ) (until : Option ℤ) : ℕ → List Value → Begun → Type 0 where
  sets : (a number line : ℕ) (before values : List Value) (s : State) (o : Begun)
      → Reaches (step (in_expressions code (scene_before code seed before))) (begun a [] constant_view) (Rests s) → slice_get code.instrs s.at ≡ Some (i.SetConst number line)
      → set_const_on s before ≡ Some values → Begins code arguments seed until (s.at + 1) values o → Begins code arguments seed until a before o
  breaks : (a line : ℕ) (before : List Value) (kind : FaultKind) → Reaches (step (in_expressions code (scene_before code seed before))) (begun a [] constant_view) (Faults kind)
      → line_from (drop a code.instrs) ≡ Some line → Begins code arguments seed until a before (Broken (broken_at kind line))
  is_ready : (a : ℕ) (before : List Value) (entry : Entry) → slice_get code.instrs a ≡ Some i.Done → slice_get code.procs code.model ≡ Some entry → nat_eq (length arguments) entry.arity ≡ true
      → Begins code arguments seed until a before (Ready (first_whole code seed until arguments before entry))

-- What the machine begins as, where the program's run begins so.
abbrev pub BeginsAlike : Core → Code → (Begun → Type 0) → beginning.Beginning → Type 0
BeginsAlike core code begins (beginning.Begins config) = (m : Whole) × begins (Ready m) × Stands core code config m
BeginsAlike core code begins (beginning.Breaks ending) = begins (Broken ending)
BeginsAlike core code begins beginning.Amiss = Unit {0}
