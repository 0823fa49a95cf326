-- What runs and experiments come to, as it is answered.
use Rattle.std.specs.Prelude.{◌≡◌, ℕ, List, ◌++◌}
use Rattle.chi_core_frame.specs.declared.stop.Stop.{Stop}
use Rattle.chi_core_frame.specs.declared.stop.Stop.TheVariants as stop
use Rattle.chi_xper.specs.declared.ending.XEnd.{XEnd}
use Rattle.chi_xper.specs.declared.ending.XEnd.TheVariants as end
use Rattle.chi_xper.specs.declared.runner.RunEnd.{RunEnd}
use Rattle.chi_xper.specs.declared.runner.RunEnd.TheVariants as run
use Rattle.chi_xper.specs.Experiments.{Outcome, End, Done, Run, Fault, Spent, Told}

-- it has ended as the outcome says, with its output appended; or memory was wanting, and nothing is appended
abbrev pub ComesTo : Outcome → List ℕ → List ℕ → RunEnd → Type 0
ComesTo outcome before after (run.Ended verdict clock) =
    (verdict ≡ outcome.verdict) × (clock ≡ outcome.clock) × (after ≡ before ++ outcome.output)
ComesTo outcome before after run.NoMemory = after ≡ before

-- it ends so, with the whole output appended
abbrev pub EndsBy : Told → List ℕ → List ℕ → End → Type 0
EndsBy told before after end = (told.end ≡ end) × (after ≡ before ++ told.output)

-- a front of a text is appended
abbrev pub AppendsPart : List ℕ → List ℕ → List ℕ → Type 0
AppendsPart text before after = (front rest : List ℕ) × (front ++ rest ≡ text) × (after ≡ before ++ front)

-- it ends as is told; or memory was wanting
abbrev pub EndsAs : Told → List ℕ → List ℕ → XEnd → Type 0
EndsAs told before after (end.Done count) = EndsBy told before after (Done count)
EndsAs told before after (end.Run number model verdict clock) = EndsBy told before after (Run number model verdict clock)
EndsAs told before after (end.Fault kind line count) = EndsBy told before after (Fault kind line count)
EndsAs told before after (end.Spent count) = EndsBy told before after (Spent count)
EndsAs told before after end.NoMemory = AppendsPart told.output before after

-- it ends so where something in a line isn't done, after so many runs
abbrev pub StopsAs : Stop → ℕ → ℕ → XEnd → Type 0
StopsAs (stop.Fault kind) line count result = result ≡ end.Fault kind line count
StopsAs stop.Spent line count result = result ≡ end.Spent count
StopsAs stop.NoMemory line count result = result ≡ end.NoMemory
