-- Evaluations where so many calls may still be within each other. Private to proofs.
use Rattle.std.specs.Prelude.{ℕ, [], ◌∷◌}
use Rattle.chi_value.specs.declared.value.Value.{Value}
use Rattle.chi_core.specs.Answer.{Does}
use Rattle.chi_core.specs.Variables.{Variables}
use Rattle.chi_core.specs.Evaluation.{Run, Evaluates, eval}
use Rattle.chi_core.specs.Functions.{run_at}
use Rattle.chi_core.specs.Beginning.{no_call}
use Rattle.chi_plain_eval.specs.declared.calls.Calls.{Calls}
use Rattle.chi_plain_eval.specs.declared.calls.Calls.TheVariants.{Never, Within}
use Rattle.chi_plain_eval.specs.declared.here.Here.{Here}
use Rattle.chi_plain_eval.specs.declared.surroundings.Surroundings.{Surroundings}
use Rattle.chi_plain_eval.specs.Surroundings.{scene_in}

unfoldable pub run_of : Calls → Surroundings → Run
run_of Never s = no_call
run_of (Within more) s = run_at more s.functions.now (scene_in s)

abbrev pub run_by : Here → Run
run_by here = run_of here.room.calls here.surroundings.now

abbrev pub meaning : Here → Variables → Evaluates
meaning here variables = eval (run_by here) (scene_in here.surroundings.now) variables

-- whether a function says that an element stands before another
abbrev pub before_by : Run → ℕ → Value → Value → Does Value
before_by run function x y = run function (x ∷ y ∷ [])

abbrev pub more_in : Calls → ℕ
more_in Never = 0
more_in (Within more) = more
