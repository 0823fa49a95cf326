-- What came of a run that an experiment has made. Private to proofs.
use Rattle.std.specs.Prelude.{◌≡◌, ℕ, List, ◌++◌, Option, Some, None}
use Rattle.chi_value.specs.declared.value.Value.{Value}
use Rattle.chi_core.specs.declared.view.View.{View}
use Rattle.chi_core.specs.Answer.{Gives, Does}
use Rattle.chi_core.specs.Variables.{Variables}
use Rattle.chi_core_frame.specs.declared.stop.Stop.{Stop}
use Rattle.chi_core_frame.specs.declared.stop.Stop.TheVariants as stop
use Rattle.chi_core_frame.specs.Stops.{Stops}
use Rattle.chi_xper.specs.declared.runs.Ran.{Ran}
use Rattle.chi_xper.specs.declared.runs.Ran.TheVariants.{Took, Over, Stopped}
use Rattle.chi_xper.specs.Ends.{AppendsPart}
use Rattle.chi_xper.specs.Experiments.{Outcome, exit_value}

-- the value of an exit was taken
abbrev pub TakesBy : (Value → Does Variables) → View → Variables → View → Option Value → Type 0
TakesBy take view new now (Some v) = take v view ≡ Gives new now
TakesBy take view new now None = ⊥

-- or it wasn't
abbrev pub StopsBy : (Value → Does Variables) → View → Stop → Option Value → Type 0
StopsBy take view stop (Some v) = Stops stop (take v view)
StopsBy take view stop None = ⊥

abbrev pub StoppedSo : Outcome → (Value → Does Variables) → View → List ℕ → List ℕ → Stop → Type 0
StoppedSo outcome take view before after stop.NoMemory = AppendsPart outcome.output before after
StoppedSo outcome take view before after stop = StopsBy take view stop (exit_value outcome.verdict) × (after ≡ before ++ outcome.output)

-- by what comes of the run, and what is done with the value of its exit
abbrev pub RanSo : Outcome → (Value → Does Variables) → View → Variables → View → List ℕ → List ℕ → Ran → Type 0
RanSo outcome take view new now before after Took = TakesBy take view new now (exit_value outcome.verdict) × (after ≡ before ++ outcome.output)
RanSo outcome take view new now before after (Over verdict clock) =
    (exit_value outcome.verdict ≡ None) × (verdict ≡ outcome.verdict) × (clock ≡ outcome.clock) × (after ≡ before ++ outcome.output)
RanSo outcome take view new now before after (Stopped stop) = StoppedSo outcome take view before after stop
